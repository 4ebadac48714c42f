-- atom_length/2 by what stands at its arguments.
use Rattle.std.proofs.Common.{◌≡◌, ℕ, ℤ, ◌<◌, true, false, w64, pos, negsuc, length, codes, refl, sym, ap, subst, ◌∙◌, arith}
use Rattle.std.proofs.lemmas.Bool.{ltb-true, true≢false}
use Rattle.std.proofs.lemmas.Int.{to_z-of_z}
use lib.Signed.{lt_z}
use mir.Val.{SFits, of_z, to_z}
use Rattle.pl_term.specs.Tree.{Chars, Tree, var, int, atom}
use Rattle.pl_model.specs.BuiltinRows.{error, one_answer}
use Rattle.pl_model.specs.Balls.{instantiation_error, type_error}
use Rattle.pl_model.specs.ErrorTerms.{domain_error}
use Rattle.pl_model.specs.TermBuiltins.{two}
use Rattle.pl_model.specs.AtomBuiltins.{measures, number}
use Rattle.builtin_atom.proofs.Looks.{IsCompound}

pub of_variable : (t n : Tree) (x : ℕ) → t ≡ var x → error instantiation_error ≡ measures t n
of_variable t n x e = subst (λ u. error instantiation_error ≡ measures u n) (sym e) refl

pub of_integer : (t n : Tree) (i : ℤ) → t ≡ int i → error (type_error (codes "atom") t) ≡ measures t n
of_integer t n i e = subst (λ u. error (type_error (codes "atom") u) ≡ measures u n) (sym e) refl

pub of_compound : (t n : Tree) → IsCompound t → error (type_error (codes "atom") t) ≡ measures t n
of_compound t n h = subst (λ v. error (type_error (codes "atom") v) ≡ measures v n) (sym h.is) refl

module _ (t n : Tree) (a : Chars) (is : t ≡ atom a) where
  pub length_any : (x : ℕ) → n ≡ var x → one_answer (two t (number (length a))) ≡ measures t n
  length_any x e = subst (λ u. one_answer (two u (number (length a))) ≡ measures u n) (sym is) (subst (λ u. one_answer (two (atom a) (number (length a))) ≡ measures (atom a) u) (sym e) refl)

  pub length_given : (i : ℤ) → n ≡ int i → SFits w64 i → lt_z (to_z w64 (of_z w64 i)) (pos 0) ≡ false → one_answer (two t (number (length a))) ≡ measures t n
  length_given i e fits low =
      subst (λ u. one_answer (two u (number (length a))) ≡ measures u n) (sym is)
      (subst (λ u. one_answer (two (atom a) (number (length a))) ≡ measures (atom a) u) (sym e)
      (from_zero i (ap (λ z. lt_z z (pos 0)) (sym (to_z-of_z w64 i fits)) ∙ low)))
    where
      from_zero : (i : ℤ) → lt_z i (pos 0) ≡ false → one_answer (two (atom a) (number (length a))) ≡ measures (atom a) (int i)
      from_zero (pos k) low = refl
      from_zero (negsuc k) low = absurd (true≢false low)

  pub length_below : (i : ℤ) → n ≡ int i → SFits w64 i → lt_z (to_z w64 (of_z w64 i)) (pos 0) ≡ true
      → error (domain_error (codes "not_less_than_zero") n) ≡ measures t n
  length_below i e fits low =
      subst (λ u. error (domain_error (codes "not_less_than_zero") n) ≡ measures u n) (sym is)
      (subst (λ u. error (domain_error (codes "not_less_than_zero") u) ≡ measures (atom a) u) (sym e)
      (below i (ap (λ z. lt_z z (pos 0)) (sym (to_z-of_z w64 i fits)) ∙ low)))
    where
      below : (i : ℤ) → lt_z i (pos 0) ≡ true → error (domain_error (codes "not_less_than_zero") (int i)) ≡ measures (atom a) (int i)
      below (pos k) low = let no : k < 0 = ltb-true k 0 low in absurd (omega (arith, no))
      below (negsuc k) low = refl

  pub length_atom : (b : Chars) → n ≡ atom b → error (type_error (codes "integer") n) ≡ measures t n
  length_atom b e =
      subst (λ u. error (type_error (codes "integer") n) ≡ measures u n) (sym is)
      (subst (λ u. error (type_error (codes "integer") u) ≡ measures (atom a) u) (sym e) refl)

  pub length_compound : IsCompound n → error (type_error (codes "integer") n) ≡ measures t n
  length_compound h =
      subst (λ v. error (type_error (codes "integer") n) ≡ measures v n) (sym is)
      (subst (λ v. error (type_error (codes "integer") v) ≡ measures (atom a) v) (sym h.is) refl)
