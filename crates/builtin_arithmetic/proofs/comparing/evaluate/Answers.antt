use Rattle.std.proofs.Common.{◌≡◌, of_z, to_z, w64, codes, Ok, Err, sym, ap, subst, ◌∙◌, rules}
use Rattle.std.proofs.lemmas.Int.{to_z-of_z}
use Rattle.pl_term.specs.Tree.{int}
use Rattle.pl_model.specs.History.{proc}
use Rattle.pl_model.specs.Evaluables.{evaluated}
use Rattle.pl_model.specs.TermBuiltins.{evaluates, two, value_error}
use Rattle.world_builtins.specs.Spelling.{reads}
use Rattle.builtin_rows.specs.Given.{given}
use Rattle.builtin_rows.specs.Rows.{IsRow}
use Rattle.builtin_arithmetic.specs.Values.{IsValueHeld, fault_of, value_of}
use Rattle.builtin_arithmetic.proofs.Answering.{answer_row, error_row, no_value, one_value}
use Rattle.builtin_arithmetic.proofs.Raising.{is_is}
use Rattle.builtin_arithmetic.proofs.comparing.evaluate.Goals as goal

pub returns-in_ok-row-in-Ok-clause-row : goal.returns-in_ok-row-in-Ok-clause-row
returns-in_ok-row-in-Ok-clause-row c m t texts held next few =
    let s = c.args.store.now in
    let e = c.args.expression in
    let u = reads m s e in
    let x = c.in-Ok.x in
    let p = proc (codes "is") 2 in
    let same : to_z w64 (of_z w64 x) ≡ x = search (rules, to_z-of_z) in
    let at = c.integer.ensures s in
    let value : Ok x ≡ evaluated u = sym (ap (value_of m) c.in-Ok.is) ∙ c.in_ok-value.ensures.value m texts in
    subst (λ d. IsRow s next (two t u) (given p (two t u) next s.used s.budget d) m c.within_budget.new.store c.in_ok-row-in-Ok.row) (sym (one_value t u x value))
    (c.in_ok-row-in-Ok.ensures.row m next p (two t u) (two (int x) u) few
    (answer_row m s next (two t u) x c.integer.result e (at.0, at.1 ∙ ap int same) c.requires held))

pub returns-in_ok-row-in-Err-clause-row : goal.returns-in_ok-row-in-Err-clause-row
returns-in_ok-row-in-Err-clause-row c m t texts held next few =
    let s = c.args.store.now in
    let u = reads m s c.args.expression in
    let f = fault_of m c.in-Err.fault in
    let value : Err f ≡ evaluated u = sym (ap (value_of m) c.in-Err.is) ∙ c.in_ok-value.ensures.value m texts in
    error_row m s c.refused.new.store next (proc (codes "is") 2) (two t u) c.in_ok-row-in-Err.row (value_error f) (evaluates t u) (no_value t u f value)
    (c.in_ok-row-in-Err.ensures.row m (codes "is") next (two t u) texts.stand (subst (IsValueHeld m) c.in-Err.is (c.in_ok-value.ensures.held m held)) is_is)
