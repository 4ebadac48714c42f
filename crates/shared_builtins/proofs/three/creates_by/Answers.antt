use Rattle.std.proofs.Common.{sym, subst, None, Option, Some, IfSome, ◌∙◌}
use Rattle.world_api.specs.declared.visit.Visit.TheVariants.{CreateThread}
use Rattle.world_builtins.specs.Naming.{IsHeldAt}
use Rattle.world_builtins.specs.Spelling.{reads}
use Rattle.shared_builtins.specs.declared.faults.Fault.{Fault}
use Rattle.shared_builtins.specs.declared.shared.Shared.TheVariants.{Asks, Refused}
use Rattle.shared_builtins.specs.Faults.{IsFaultHeld, IsFaultIn, fault_term}
use Rattle.shared_builtins.specs.Kept.{IsKept}
use Rattle.shared_builtins.proofs.SharingThree.{empty_list, made_by, none_made, some_long, thread_made, thread_made_wrong}
use Rattle.shared_builtins.proofs.three.creates_by.Goals as goal

pub returns-in_ok-goal-in-None-clause-comes : goal.returns-in_ok-goal-in-None-clause-comes
returns-in_ok-goal-in-None-clause-comes c m terms ts n held os =
    let s = c.args.store.now in
    let o = c.args.options in
    made_by m s c.args.goal ts terms o.aliases.items o.fault None (Asks (CreateThread c.in_ok-goal-in-None.goal o.aliases None)) c.in-None.is
    (thread_made m s c.args.goal ts terms c.in_ok-goal-in-None.goal o.aliases (c.in_ok-goal-in-None.ensures m n held) os.0)

pub returns-then-len-eq0-clause-comes : goal.returns-then-len-eq0-clause-comes
returns-then-len-eq0-clause-comes c m terms ts n held os =
    let s = c.args.store.now in
    let o = c.args.options in
    let f = c.in-Some.fault in
    made_by m s c.args.goal ts terms o.aliases.items o.fault (Some f) (Refused f) c.in-Some.is (
      none_made m s c.args.goal ts terms o.aliases.items (fault_term m s f) (empty_list o.aliases.items (sym o.aliases.ok.0 ∙ (sym c.len.ensures ∙ c.if-len-eq0.true))),
      (subst (λ (g : Option Fault). IfSome g (IsFaultIn s)) c.in-Some.is c.requires.options, subst (λ (g : Option Fault). IfSome g (IsFaultHeld m s)) c.in-Some.is os.1),
    )

pub returns-in_ok-goal-in-Some-clause-comes : goal.returns-in_ok-goal-in-Some-clause-comes
returns-in_ok-goal-in-Some-clause-comes c m terms ts n held os =
    let s = c.args.store.now in
    let g = c.args.goal in
    let o = c.args.options in
    let f = c.in-Some.fault in
    let k = c.in_ok-goal-in-Some.goal in
    let same = c.in_ok-error-in-Some.ensures.same in
    let kept : IsKept m (reads m s g) k =
    subst (λ r. IsKept m (reads m r g) k) same (c.in_ok-goal-in-Some.ensures m n (subst (λ r. IsHeldAt m r g) (sym same) held)) in
    let fault_held : IsFaultHeld m s f = subst (λ (x : Option Fault). IfSome x (IsFaultHeld m s)) c.in-Some.is os.1 in
    made_by m s g ts terms o.aliases.items o.fault (Some f) (Asks (CreateThread k o.aliases (Some c.in_ok-error-in-Some.error))) c.in-Some.is
    (thread_made_wrong m s g ts terms k c.in_ok-error-in-Some.error (fault_term m s f) o.aliases kept (c.in_ok-error-in-Some.ensures.kept m n fault_held) os.0
    (some_long o.aliases.items c.len.result (c.len.ensures ∙ o.aliases.ok.0) c.if-len-eq0.false))
