use Rattle.std.proofs.Common.{codes, sym, subst, ◌∙◌}
use Rattle.pl_model.specs.History.{proc}
use Rattle.world_builtins.specs.Spelling.{reads}
use Rattle.builtin_term.specs.Giving.{IsGiven}
use Rattle.builtin_term.proofs.PartAnswers.{ok_weaker}
use Rattle.builtin_term.proofs.VariableLists.{no_list_refused}
use Rattle.builtin_term.proofs.FixedNames.{term_variables_is}
use Rattle.builtin_term.proofs.variable_lists.term_variables.Goals as goal

pub returns-then-right-clause-row : goal.returns-then-right-clause-row
returns-then-right-clause-row c =
    let s = c.args.store.now in
    ok_weaker _ _ c.list_variables.result c.list_variables.ensures.row
    (λ r h m texts term list. h m (reads m s c.args.list) texts.stands term (sym (c.in_ok-right.ensures m texts list) ∙ c.if-right.true))

pub returns-else-right-clause-row : goal.returns-else-right-clause-row
returns-else-right-clause-row c =
    let s = c.args.store.now in
    ok_weaker _ _ c.raise.result c.raise.ensures.row
    (λ r h m texts term list.
    subst (λ d. IsGiven s c.args.next (proc (codes "term_variables") 2) d m c.raise.new.store r)
    (sym (no_list_refused (reads m s c.args.term) (reads m s c.args.list) (sym (c.in_ok-right.ensures m texts list) ∙ c.if-right.false)))
    (h m (codes "term_variables") c.args.next texts.stands list term_variables_is))
