use Rattle.std.proofs.Common.{[], ◌∷◌}
use Rattle.std.specs.List.{All}
use Rattle.std.proofs.lemmas.List.Elements.{All-cons, All-nil}
use Rattle.shared_builtins.specs.declared.checks.Check.TheVariants.{Bound, Callable, Unbound}
use Rattle.shared_builtins.specs.Checks.{IsCheckHeld}
use Rattle.shared_builtins.specs.Faults.{fault_term}
use Rattle.shared_builtins.proofs.SharingTwo.{thread_created, thread_refused}
use Rattle.shared_builtins.proofs.two.creates_thread.Goals as goal

pub returns-in-Some : goal.returns-in-Some
returns-in-Some c m n hp hq =
    let s = c.args.store.now in
    let p = c.args.first in
    let q = c.args.second in
    let P = IsCheckHeld m s in
    let all : All (IsCheckHeld m s) (Bound p ∷ (Callable p ∷ (Unbound q ∷ []))) =
    All-cons P (Bound p) (Callable p ∷ (Unbound q ∷ [])) hp (All-cons P (Callable p) (Unbound q ∷ []) hp (All-cons P (Unbound q) [] hq (All-nil P))) in (
      thread_refused m s p q (fault_term m s c.in-Some.fault) (c.in-Some.ensures.error m n all),
      (c.in-Some.ensures.inside, c.in-Some.ensures.held m all),
    )

pub returns-in_ok-goal-in-None : goal.returns-in_ok-goal-in-None
returns-in_ok-goal-in-None c m n hp hq =
    let s = c.args.store.now in
    let p = c.args.first in
    let q = c.args.second in
    let P = IsCheckHeld m s in
    let all : All (IsCheckHeld m s) (Bound p ∷ (Callable p ∷ (Unbound q ∷ []))) =
    All-cons P (Bound p) (Callable p ∷ (Unbound q ∷ [])) hp (All-cons P (Callable p) (Unbound q ∷ []) hp (All-cons P (Unbound q) [] hq (All-nil P))) in
    thread_created m s p q c.in_ok-goal-in-None.goal c.new-aliases.result c.new-aliases.ensures.items (c.in_ok-goal-in-None.ensures m n hp) (c.in-None.ensures.error m n all)
