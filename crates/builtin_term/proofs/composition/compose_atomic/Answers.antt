use Rattle.std.proofs.Common.{codes, sym, subst}
use Rattle.pl_model.specs.History.{proc}
use Rattle.world_builtins.specs.Spelling.{reads}
use Rattle.builtin_term.proofs.PartAnswers.{ok_weaker}
use Rattle.builtin_term.specs.Giving.{IsGiven}
use Rattle.builtin_term.proofs.Composed.{both_held}
use Rattle.builtin_term.proofs.FixedNames.{univ_is}
use Rattle.builtin_term.proofs.composition.compose_atomic.Goals as goal

pub returns-in-Some-clause-row : goal.returns-in-Some-clause-row
returns-in-Some-clause-row c =
    let s = c.args.store.now in
    ok_weaker _ _ c.raise.result c.raise.ensures.row
    (λ r h m stands list first.
    subst (λ d. IsGiven s c.args.next (proc (codes "=..") 2) d m c.raise.new.store r) (sym (c.in-Some.ensures.1 m (reads m s c.args.list)))
    (h m (codes "=..") c.args.next stands (c.in-Some.ensures.0.held m first) univ_is))

pub returns-in-None-clause-row : goal.returns-in-None-clause-row
returns-in-None-clause-row c =
    let s = c.args.store.now in
    ok_weaker _ _ c.answer.result c.answer.ensures.row
    (λ r h m stands list first.
    subst (λ d. IsGiven s c.args.next (proc (codes "=..") 2) d m c.answer.new.store r)
    (sym (c.in-None.ensures m (reads m s c.args.list)))
    (h m (codes "=..") stands (both_held m s c.args.first c.args.list first list) univ_is))
