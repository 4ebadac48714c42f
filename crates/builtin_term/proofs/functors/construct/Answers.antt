use Rattle.std.proofs.Common.{Ok, codes, sym, subst}
use Rattle.pl_model.specs.History.{proc}
use Rattle.builtin_term.specs.Functor.{IsWanted}
use Rattle.builtin_term.specs.Giving.{IsGiven}
use Rattle.builtin_term.proofs.PartAnswers.{ok_weaker}
use Rattle.builtin_term.proofs.FixedNames.{functor_is}
use Rattle.builtin_term.proofs.functors.construct.Goals as goal

pub returns-in-Err-clause-row : goal.returns-in-Err-clause-row
returns-in-Err-clause-row c =
    let s = c.args.store.now in
    let p = proc (codes "functor") 3 in
    ok_weaker _ _ c.raise.result c.raise.ensures.row
    (λ r h m x stands name arity.
    subst (λ d. IsGiven s c.args.next p d m c.raise.new.store r) (sym (c.in-Err.ensures.1 m c.args.next x))
    (h m (codes "functor") c.args.next stands (c.in-Err.ensures.0.1 m name arity) functor_is))

pub returns-in-Itself-clause-row : goal.returns-in-Itself-clause-row
returns-in-Itself-clause-row c =
    let s = c.args.store.now in
    let p = proc (codes "functor") 3 in
    let f = subst (λ w. IsWanted s c.args.name c.args.arity (Ok w)) c.in-Itself.is c.in-Ok.ensures in
    ok_weaker _ _ c.answer_functor.result c.answer_functor.ensures.row
    (λ r h m x stands name arity. subst (λ d. IsGiven s c.args.next p d m c.answer_functor.new.store r) (sym (f m c.args.next x)) (h m stands name name arity))

pub returns-in-Compound-clause-row : goal.returns-in-Compound-clause-row
returns-in-Compound-clause-row c =
    let s = c.args.store.now in
    let p = proc (codes "functor") 3 in
    let f = subst (λ w. IsWanted s c.args.name c.args.arity (Ok w)) c.in-Compound.is c.in-Ok.ensures in
    ok_weaker _ _ c.make_functor.result c.make_functor.ensures.row
    (λ r h m x stands name arity. subst (λ d. IsGiven s c.args.next p d m c.make_functor.new.store r) (sym (f.1 m c.args.next x)) (h m stands name arity))
