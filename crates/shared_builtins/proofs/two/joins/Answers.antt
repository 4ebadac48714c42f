use Rattle.std.proofs.Common.{[], ◌∷◌}
use Rattle.std.specs.List.{All}
use Rattle.std.proofs.lemmas.List.Elements.{All-cons, All-nil}
use Rattle.shared_builtins.specs.declared.checks.Check.TheVariants.{Bound}
use Rattle.shared_builtins.specs.Checks.{IsCheckHeld}
use Rattle.shared_builtins.specs.Faults.{fault_term}
use Rattle.shared_builtins.proofs.SharingTwo.{join_refused, joined_as}
use Rattle.shared_builtins.proofs.two.joins.Goals as goal

pub returns-in-Some : goal.returns-in-Some
returns-in-Some c m n hp hq =
    let s = c.args.store.now in
    let p = c.args.first in
    let P = IsCheckHeld m s in
    let all : All (IsCheckHeld m s) (Bound p ∷ []) = All-cons P (Bound p) [] hp (All-nil P) in (
      join_refused m s p c.args.second (fault_term m s c.in-Some.fault) (c.in-Some.ensures.error m n all),
      (c.in-Some.ensures.inside, c.in-Some.ensures.held m all),
    )

pub returns-in_ok-thread-in-None : goal.returns-in_ok-thread-in-None
returns-in_ok-thread-in-None c m n hp hq =
    let s = c.args.store.now in
    let p = c.args.first in
    let P = IsCheckHeld m s in
    let all : All (IsCheckHeld m s) (Bound p ∷ []) = All-cons P (Bound p) [] hp (All-nil P) in
    joined_as m s p c.args.second c.in_ok-thread-in-None.thread (c.in_ok-thread-in-None.ensures m n hp) (c.in-None.ensures.error m n all)
