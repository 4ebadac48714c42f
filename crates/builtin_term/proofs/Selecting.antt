-- arg/3: which argument is selected, or which error there is.
use Rattle.std.proofs.Common.{◌≡◌, ℕ, zero, suc, ◌-◌, ◌≢◌, ◌<◌, ◌≤◌, List, [], ◌∷◌, map, length, get_or, Option, Some, None, Ok, refl, sym, ap, ap₂, subst, ◌∙◌, arith, ℤ, pos, negsuc, nat_abs, of_z, to_z, w64, SFits}
use Rattle.std.specs.Prelude.{IsSome}
use Rattle.std.specs.List.{All, Contains}
use Rattle.std.proofs.lemmas.Int.{ints, to_z-of_z}
use Rattle.std.proofs.lemmas.List.{length-map}
use Rattle.std.proofs.lemmas.List.Elements.{Contains-get_or}
use lib.Signed.{◌≤ℤ◌}
use Rattle.pl_term.specs.Tree.{Chars, Tree, int, atom, compound, trees}
use Rattle.pl_model.specs.TermBuiltins.{argument_at, argument_of, with_argument}
use Rattle.atom_api.specs.Names.{Names}
use Rattle.term_store.specs.declared.words.Place.{Place}
use Rattle.term_store.specs.Heap.{atom_name}
use Rattle.term_store.specs.Contents.{Contents, Holds, term_at}
use Rattle.world_builtins.specs.Naming.{atoms_in}
use Rattle.world_builtins.specs.Spelling.{reads, spelled, text_of}
use Rattle.builtin_term.specs.Argument.{IsArgument, Selects}
use Rattle.builtin_term.proofs.Compounds.{held_argument, member_at, member_past, spelled_compound}

-- No argument has this number.
pub no_argument_zero : (s : Contents) (ts : List Tree) (n : ℕ) → n ≡ zero → IsArgument s ts n None
no_argument_zero s ts n e g = ap (λ k. argument_at k (trees (map (spelled g) ts))) e

pub no_argument : (s : Contents) (ts : List Tree) (n : ℕ) → length ts < n → IsArgument s ts n None
no_argument s ts zero lt g = refl
no_argument s ts (suc n) lt g = member_past g ts n (omega arith)

pub one_argument : (s : Contents) (ts : List Tree) (n : ℕ) (p : Place) → n ≢ zero → n ≤ length ts → Holds s p → term_at s p ≡ get_or ts (n - 1) (atom [])
    → IsArgument s ts n (Some p)
one_argument s ts zero p some le holds is = absurd (some refl)
one_argument s ts (suc n) p some le holds is =
    let e : term_at s p ≡ get_or ts n (atom []) = is ∙ ap (λ k. get_or ts k (atom [])) (omega arith) in
    let lt : n < length ts = omega arith in (
      (holds, subst (Contains ts) (sym e) (Contains-get_or ts n (atom []) lt)),
      λ g. member_at g ts n (atom []) lt ∙ ap (λ t. Some (spelled g t)) (sym e),
    )

-- A number that is not negative selects that argument of a compound term.
selected : (n : ℕ) (us : List Tree) (h : Chars) (a : Tree) → 0 < length us
    → argument_of (int (pos n)) (compound h us) a ≡ with_argument (int (pos n)) (compound h us) (argument_at n (trees us))
selected n [] h a some = absurd (omega arith)
selected n (u ∷ us) h a some = refl

module _ (s : Contents) (number term : Place) (f n : ℕ) (ts : List Tree) (some : 0 < length ts) (which : term_at s number ≡ int (pos n))
    (is : term_at s term ≡ compound (atom_name f) ts) where
  found : (m : Names) (a : Tree) (o : Option Tree) → argument_at n (trees (map (spelled (text_of m)) ts)) ≡ o
      → argument_of (reads m s number) (reads m s term) a ≡ with_argument (reads m s number) (reads m s term) o
  found m a o e =
      let g = text_of m in
      let h = g (atom_name f) in
      let us = map (spelled g) ts in
      let x : reads m s number ≡ int (pos n) = ap (spelled g) which in
      let y : reads m s term ≡ compound h us = ap (spelled g) is ∙ spelled_compound g (atom_name f) ts in
      ap₂ (λ t u. argument_of t u a) x y ∙ selected n us h a (omega (arith, some, length-map ts (spelled g)))
      ∙ ap (with_argument (int (pos n)) (compound h us)) e
      ∙ ap₂ (λ t u. with_argument t u o) (sym x) (sym y)

  pub select_natural : (r : Option Place) → IsArgument s ts n r → Selects s number term (Ok r)
  select_natural None none = λ m a. found m a None (none (text_of m))
  select_natural (Some p) one = (
    (
      one.0.0,
      λ m held. held_argument (λ b. IsSome (m b)) (atom_name f) ts (term_at s p) one.0.1 (subst (λ t. All (λ b. IsSome (m b)) (atoms_in t)) is held),
    ),
    λ m a. found m a (Some (reads m s p)) (one.1 (text_of m)),
  )

absolute : (i : ℤ) → pos 0 ≤ℤ i → pos (nat_abs i) ≡ i
absolute (pos n) le = refl
absolute (negsuc n) le = absurd (omega (arith, ints))

-- An integer that is not negative, as a natural number.
pub natural_is : (i : ℤ) → pos 0 ≤ℤ i → SFits w64 i → i ≡ pos (nat_abs (to_z w64 (of_z w64 i)))
natural_is i le fits = sym (ap (λ z. pos (nat_abs z)) (to_z-of_z w64 i fits) ∙ absolute i le)
