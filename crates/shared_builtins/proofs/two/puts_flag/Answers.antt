use Rattle.std.proofs.Common.{[], ◌∷◌, arith}
use Rattle.std.specs.List.{All}
use Rattle.std.proofs.lemmas.List.Elements.{All-cons, All-nil}
use Rattle.shared_builtins.specs.declared.checks.Check.TheVariants.{Atom, Bound, Changeable, Flag, Value}
use Rattle.shared_builtins.specs.Checks.{IsCheckHeld}
use Rattle.shared_builtins.specs.Faults.{fault_term}
use Rattle.shared_builtins.proofs.Indicating.{atom_passed, name_held}
use Rattle.shared_builtins.proofs.SharingTwo.{flag_put, flag_refused, value_passed}
use Rattle.shared_builtins.proofs.two.puts_flag.Goals as goal

pub atom_at-flag-requires-clause-is_atom : goal.atom_at-flag-requires-clause-is_atom
atom_at-flag-requires-clause-is_atom c =
    let all = c.in-None.ensures.passed in atom_passed _ (all 0 (Bound c.args.first) (omega arith)) (all 2 (Bound c.args.first) (omega arith))

pub atom_at-value-requires-clause-is_atom : goal.atom_at-value-requires-clause-is_atom
atom_at-value-requires-clause-is_atom c =
    let all = c.in-None.ensures.passed in value_passed _ _ (all 5 (Bound c.args.first) (omega arith))

pub returns-in-Some : goal.returns-in-Some
returns-in-Some c m n hp hq =
    let s = c.args.store.now in
    let p = c.args.first in
    let q = c.args.second in
    let P = IsCheckHeld m s in
    let all : All (IsCheckHeld m s) (Bound p ∷ (Bound q ∷ (Atom p ∷ (Flag p ∷ (Changeable p ∷ (Value p q ∷ [])))))) =
    All-cons P (Bound p) (Bound q ∷ (Atom p ∷ (Flag p ∷ (Changeable p ∷ (Value p q ∷ []))))) hp
    (All-cons P (Bound q) (Atom p ∷ (Flag p ∷ (Changeable p ∷ (Value p q ∷ [])))) hq
    (All-cons P (Atom p) (Flag p ∷ (Changeable p ∷ (Value p q ∷ []))) hp
    (All-cons P (Flag p) (Changeable p ∷ (Value p q ∷ [])) hp (All-cons P (Changeable p) (Value p q ∷ []) hp (All-cons P (Value p q) [] (hp, hq) (All-nil P)))))) in (
      flag_refused m s p q (fault_term m s c.in-Some.fault) (c.in-Some.ensures.error m n all),
      (c.in-Some.ensures.inside, c.in-Some.ensures.held m all),
    )

pub returns-in-None : goal.returns-in-None
returns-in-None c m n hp hq =
    let s = c.args.store.now in
    let p = c.args.first in
    let q = c.args.second in
    let P = IsCheckHeld m s in
    let all : All (IsCheckHeld m s) (Bound p ∷ (Bound q ∷ (Atom p ∷ (Flag p ∷ (Changeable p ∷ (Value p q ∷ [])))))) =
    All-cons P (Bound p) (Bound q ∷ (Atom p ∷ (Flag p ∷ (Changeable p ∷ (Value p q ∷ []))))) hp
    (All-cons P (Bound q) (Atom p ∷ (Flag p ∷ (Changeable p ∷ (Value p q ∷ [])))) hq
    (All-cons P (Atom p) (Flag p ∷ (Changeable p ∷ (Value p q ∷ []))) hp
    (All-cons P (Flag p) (Changeable p ∷ (Value p q ∷ [])) hp (All-cons P (Changeable p) (Value p q ∷ []) hp (All-cons P (Value p q) [] (hp, hq) (All-nil P)))))) in
    flag_put m s p q c.atom_at-flag.result c.atom_at-value.result c.atom_at-flag.ensures c.atom_at-value.ensures (name_held m s p c.atom_at-flag.result c.atom_at-flag.ensures hp)
    (name_held m s q c.atom_at-value.result c.atom_at-value.ensures hq) (c.in-None.ensures.error m n all)
