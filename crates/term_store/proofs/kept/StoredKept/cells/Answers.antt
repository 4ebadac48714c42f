use Rattle.std.proofs.Common.{◌≡◌, true, false, cond, ◌-◌, arith, ◌∙◌, sym, ap}
use Rattle.pl_term.specs.Cells.{cells}
use Rattle.term_store.specs.NumberedNames.{is_rule_term}
use Rattle.term_store.proofs.KeptTerms.{rule_large}
use Rattle.term_store.proofs.kept.StoredKept.cells.Goals as goal

pub overflow_sub-result : goal.overflow_sub-result
overflow_sub-result c =
    let rule : is_rule_term c.args.self.now ≡ true = sym c.is_rule.ensures ∙ c.if-is_rule.true in
    omega (arith, rule_large c.args.self.now rule, c.cells.ensures)

pub returns-then-is_rule : goal.returns-then-is_rule
returns-then-is_rule c =
    let t = c.args.self.now in
    let rule : is_rule_term t ≡ true = sym c.is_rule.ensures ∙ c.if-is_rule.true in
    ap (λ n. n - 3) c.cells.ensures ∙ sym (ap (λ b. cond b (cells t - 3) (cells t)) rule)

pub returns-else-is_rule : goal.returns-else-is_rule
returns-else-is_rule c =
    let t = c.args.self.now in
    let fact : is_rule_term t ≡ false = sym c.is_rule.ensures ∙ c.if-is_rule.false in
    c.cells-else-is_rule.ensures ∙ sym (ap (λ b. cond b (cells t - 3) (cells t)) fact)
