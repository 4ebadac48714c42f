use Rattle.std.proofs.Common.{[], ◌∷◌}
use Rattle.std.specs.List.{All}
use Rattle.std.proofs.lemmas.List.Elements.{All-cons, All-nil}
use Rattle.shared_builtins.specs.declared.checks.Check.TheVariants.{Atom, Flag}
use Rattle.shared_builtins.specs.Checks.{IsCheckHeld}
use Rattle.shared_builtins.specs.Faults.{fault_term}
use Rattle.shared_builtins.proofs.SharingTwo.{flags_listed, flags_refused}
use Rattle.shared_builtins.proofs.two.lists_flags.Goals as goal

pub returns-in-Some : goal.returns-in-Some
returns-in-Some c m n hp hq =
    let s = c.args.store.now in
    let p = c.args.first in
    let P = IsCheckHeld m s in
    let all : All (IsCheckHeld m s) (Atom p ∷ (Flag p ∷ [])) = All-cons P (Atom p) (Flag p ∷ []) hp (All-cons P (Flag p) [] hp (All-nil P)) in (
      flags_refused m s p c.args.second (fault_term m s c.in-Some.fault) (c.in-Some.ensures.error m n all),
      (c.in-Some.ensures.inside, c.in-Some.ensures.held m all),
    )

pub returns-in-None : goal.returns-in-None
returns-in-None c m n hp hq =
    let s = c.args.store.now in
    let p = c.args.first in
    let P = IsCheckHeld m s in
    let all : All (IsCheckHeld m s) (Atom p ∷ (Flag p ∷ [])) = All-cons P (Atom p) (Flag p ∷ []) hp (All-cons P (Flag p) [] hp (All-nil P)) in
    flags_listed m s p c.args.second (c.in-None.ensures.error m n all)
