use Rattle.std.proofs.Common.{codes, sym, subst}
use Rattle.pl_model.specs.History.{proc}
use Rattle.world_builtins.specs.Spelling.{reads}
use Rattle.builtin_term.proofs.PartAnswers.{ok_weaker}
use Rattle.builtin_term.specs.Faults.{fault_term}
use Rattle.builtin_term.specs.Giving.{IsGiven}
use Rattle.builtin_term.proofs.Composed.{longer_refused, name_held, named_row}
use Rattle.builtin_term.proofs.FixedNames.{univ_is}
use Rattle.builtin_term.proofs.composition.compose_compound.Goals as goal

pub returns-in-Err-clause-row : goal.returns-in-Err-clause-row
returns-in-Err-clause-row c =
    let s = c.args.store.now in
    ok_weaker _ _ c.raise.result c.raise.ensures.row
    (λ r h m stands list first rest.
    subst (λ d. IsGiven s c.args.next (proc (codes "=..") 2) d m c.raise.new.store r)
    (sym
    (longer_refused m s c.args.rest.now (reads m s c.args.list) (reads m s c.args.first) (fault_term m s c.in-Err.fault) c.requires.some
    (c.in-Err.ensures.1 m (reads m s c.args.list))))
    (h m (codes "=..") c.args.next stands (c.in-Err.ensures.0.held m first) univ_is))

pub returns-in-Ok-clause-row : goal.returns-in-Ok-clause-row
returns-in-Ok-clause-row c =
    let s = c.args.store.now in
    let f = c.in-Ok.name in
    ok_weaker _ _ c.make_composed.result c.make_composed.ensures.row
    (λ r h m stands list first rest.
    subst (λ d. IsGiven s c.args.next (proc (codes "=..") 2) d m c.make_composed.new.store r)
    (named_row m s c.args.first f c.args.rest.now c.args.list c.in-Ok.ensures c.requires.some)
    (h m stands list (name_held m s c.args.first f c.in-Ok.ensures first) rest))
