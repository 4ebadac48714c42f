use Rattle.std.proofs.Common.{Ok, codes, refl, sym, subst}
use Rattle.builtin_rows.specs.declared.row.Row.TheVariants.{Fails}
use Rattle.pl_model.specs.History.{proc}
use Rattle.world_builtins.specs.Naming.{IsHeldAt}
use Rattle.builtin_term.specs.Argument.{Selects}
use Rattle.builtin_term.specs.Giving.{IsGiven}
use Rattle.builtin_term.proofs.PartAnswers.{all_three, none_given, ok_weaker}
use Rattle.builtin_term.proofs.FixedNames.{arg_is}
use Rattle.builtin_term.proofs.argument.arg.Goals as goal

pub returns-in-Err-clause-row : goal.returns-in-Err-clause-row
returns-in-Err-clause-row c =
    let s = c.args.store.now in
    let t = c.raise.new.store in
    let p = proc (codes "arg") 3 in
    ok_weaker _ _ c.raise.result c.raise.ensures.row
    (λ r h m a stands number term.
    subst (λ d. IsGiven s c.args.next p d m t r) (sym (c.in-Err.ensures.1 m a)) (h m (codes "arg") c.args.next stands (c.in-Err.ensures.0.1 m number term) arg_is))

pub returns-in-Ok-None-clause-row : goal.returns-in-Ok-None-clause-row
returns-in-Ok-None-clause-row c =
    let s = c.args.store.now in
    let p = proc (codes "arg") 3 in
    let f = subst (λ o. Selects s c.args.number c.args.term (Ok o)) c.in-Ok-None.field-0-is c.in-Ok-None.ensures in
    λ m a stands number term. subst (λ d. IsGiven s c.args.next p d m s Fails) (sym (f m a)) (none_given s c.args.next p m s refl)

pub returns-in-Ok-Some-clause-row : goal.returns-in-Ok-Some-clause-row
returns-in-Ok-Some-clause-row c =
    let s = c.args.store.now in
    let t = c.answer.new.store in
    let p = proc (codes "arg") 3 in
    ok_weaker _ _ c.answer.result c.answer.ensures.row
    (λ r h m a stands number term.
    let x = c.in-Ok-Some.argument in
    let f = subst (λ o. Selects s c.args.number c.args.term (Ok o)) c.in-Ok-Some.field-0-is c.in-Ok-Some.ensures in
    subst (λ d. IsGiven s c.args.next p d m t r) (sym (f.1 m a))
    (h m (codes "arg") stands
    (all_three (IsHeldAt m s) c.args.number c.args.term x number term (f.0.1 m term)) arg_is))
