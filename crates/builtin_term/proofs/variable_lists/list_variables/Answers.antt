use Rattle.std.proofs.Common.{codes, map, subst, ap, ◌∙◌}
use Rattle.std.proofs.lemmas.List.Elements.{All-same}
use Rattle.pl_model.specs.History.{proc}
use Rattle.pl_term.specs.Variables.{variables}
use Rattle.term_store.specs.Contents.{Holds, term_at}
use Rattle.builtin_term.specs.Giving.{IsGiven}
use Rattle.builtin_term.proofs.PartAnswers.{ok_weaker}
use Rattle.builtin_term.proofs.VariableLists.{variables_held, variables_row}
use Rattle.builtin_term.proofs.FixedNames.{term_variables_is}
use Rattle.builtin_term.proofs.variable_lists.list_variables.Goals as goal

pub list_answer-requires-clause-items : goal.list_answer-requires-clause-items
list_answer-requires-clause-items c = All-same (Holds c.args.store.now) c.deref.result.now c.in_ok-items.items.items c.deref.ensures.value c.in_ok-items.ensures.inside

pub returns-clause-row : goal.returns-clause-row
returns-clause-row c =
    let s = c.args.store.now in
    let ps = c.deref.result.now in
    let stand = ap (map (term_at s)) c.deref.ensures.value ∙ c.in_ok-items.ensures.stand in
    ok_weaker _ _ c.list_answer.result c.list_answer.ensures.row
    (λ r h m l stands term right.
    subst (λ d. IsGiven s c.args.next (proc (codes "term_variables") 2) d m c.list_answer.new.store r) (variables_row m s c.args.term ps stand l right)
    (h m (codes "term_variables") stands term (variables_held m s ps (variables (term_at s c.args.term)) stand) term_variables_is))
