use Rattle.std.proofs.Common.{[], ◌∷◌}
use Rattle.std.specs.List.{All}
use Rattle.std.proofs.lemmas.List.Elements.{All-cons, All-nil}
use Rattle.shared_builtins.specs.declared.checks.Check.TheVariants.{Bound}
use Rattle.shared_builtins.specs.Checks.{IsCheckHeld}
use Rattle.shared_builtins.specs.Faults.{fault_term}
use Rattle.shared_builtins.proofs.Sharing.{destroyed, not_destroyed}
use Rattle.shared_builtins.proofs.one.destroys.Goals as goal

pub returns-in-Some : goal.returns-in-Some
returns-in-Some c m n held =
    let s = c.args.store.now in
    let all : All (IsCheckHeld m s) (Bound c.args.term ∷ []) = All-cons (IsCheckHeld m s) (Bound c.args.term) [] held (All-nil (IsCheckHeld m s)) in (
      not_destroyed m s c.args.term (fault_term m s c.in-Some.fault) (c.in-Some.ensures.error m n all),
      (c.in-Some.ensures.inside, c.in-Some.ensures.held m all),
    )

pub returns-in_ok-queue-in-None : goal.returns-in_ok-queue-in-None
returns-in_ok-queue-in-None c m n held =
    let s = c.args.store.now in
    let all : All (IsCheckHeld m s) (Bound c.args.term ∷ []) = All-cons (IsCheckHeld m s) (Bound c.args.term) [] held (All-nil (IsCheckHeld m s)) in
    destroyed m s c.args.term c.in_ok-queue-in-None.queue (c.in_ok-queue-in-None.ensures m n held) (c.in-None.ensures.error m n all)
