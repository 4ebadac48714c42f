use Rattle.std.proofs.Common.{[], ◌∷◌}
use Rattle.std.specs.List.{All}
use Rattle.std.proofs.lemmas.List.Elements.{All-cons, All-nil}
use Rattle.shared_builtins.specs.declared.checks.Check.TheVariants.{Atom, Priority, Specifier}
use Rattle.shared_builtins.specs.Checks.{IsCheckHeld}
use Rattle.shared_builtins.specs.Faults.{fault_term}
use Rattle.shared_builtins.proofs.SharingThree.{operators_listed, operators_unlisted}
use Rattle.shared_builtins.proofs.three.lists_operators.Goals as goal

pub returns-in-Some : goal.returns-in-Some
returns-in-Some c m n hp hq hr =
    let s = c.args.store.now in
    let p = c.args.first in
    let q = c.args.second in
    let r = c.args.third in
    let P = IsCheckHeld m s in
    let all : All (IsCheckHeld m s) (Priority p ∷ (Specifier q ∷ (Atom r ∷ []))) =
    All-cons P (Priority p) (Specifier q ∷ (Atom r ∷ [])) hp (All-cons P (Specifier q) (Atom r ∷ []) hq (All-cons P (Atom r) [] hr (All-nil P))) in (
      operators_unlisted m n s p q r (fault_term m s c.in-Some.fault) (c.in-Some.ensures.error m n all),
      (c.in-Some.ensures.inside, c.in-Some.ensures.held m all),
    )

pub returns-in-None : goal.returns-in-None
returns-in-None c m n hp hq hr =
    let s = c.args.store.now in
    let p = c.args.first in
    let q = c.args.second in
    let r = c.args.third in
    let P = IsCheckHeld m s in
    let all : All (IsCheckHeld m s) (Priority p ∷ (Specifier q ∷ (Atom r ∷ []))) =
    All-cons P (Priority p) (Specifier q ∷ (Atom r ∷ [])) hp (All-cons P (Specifier q) (Atom r ∷ []) hq (All-cons P (Atom r) [] hr (All-nil P))) in
    operators_listed m n s p q r (c.in-None.ensures.error m n all)
