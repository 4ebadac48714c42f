-- Atoms have different texts, and what is no atom's name is spelled by no text.
use Rattle.std.proofs.Common.{◌≡◌, ◌≢◌, ℕ, Bool, true, false, [], ◌∷◌, ◌^◌, Option, Some, None, refl, sym, ap, ◌∙◌}
use Rattle.std.specs.Str.{bytes_eq, all_scalars}
use Rattle.std.proofs.lemmas.Bool.{false≢true}
use Rattle.std.proofs.lemmas.Slice.Eq.{bytes_eq-Decides}
use Rattle.pl_term.specs.Tree.{Chars}
use Rattle.atom_api.specs.Names.{Names}
use Rattle.iso_search.specs.Spelling.{named, or_no_text, text_of, TellsApart}

-- The atom whose name this is.
record IsAtomOf (m : Names) (f t : Chars) : Type 0 where
  atom : ℕ
  name : f ≡ atom ∷ []
  has : m atom ≡ Some t

atom_of : (m : Names) (f t : Chars) → named m f ≡ Some t → IsAtomOf m f t
atom_of m [] t e = cc
atom_of m (a ∷ []) t e = record { atom = a; name = refl; has = e }
atom_of m (a ∷ (b ∷ bs)) t e = cc

no_text : (f : Chars) → all_scalars (2 ^ 32 ∷ f) ≡ false
no_text f = refl

module _ (m : Names) (unlike : (a b : ℕ) (t : Chars) → m a ≡ Some t → m b ≡ Some t → a ≡ b) (texts : (a : ℕ) (t : Chars) → m a ≡ Some t → all_scalars t ≡ true) where
  differ : (f g t : Chars) → named m f ≡ Some t → t ≢ (2 ^ 32 ∷ g)
  differ f g t e same =
      let a = atom_of m f t e in
      false≢true (sym (no_text g) ∙ ap all_scalars (sym same) ∙ texts a.atom t a.has)

  one_atom : (f g t u : Chars) → named m f ≡ Some t → named m g ≡ Some u → t ≡ u → f ≡ g
  one_atom f g t u p q e =
      let a = atom_of m f t p in
      let b = atom_of m g u q in
      a.name ∙ ap (λ n. n ∷ []) (unlike a.atom b.atom t a.has (b.has ∙ ap Some (sym e))) ∙ sym b.name

  tails : (f g : Chars) → (let l : Chars = 2 ^ 32 ∷ f in let r : Chars = 2 ^ 32 ∷ g in l ≡ r) → f ≡ g
  tails f g e = cc

  one_spelling : (f g : Chars) (a b : Option Chars) → named m f ≡ a → named m g ≡ b → or_no_text f a ≡ or_no_text g b → f ≡ g
  one_spelling f g None None p q e = tails f g e
  one_spelling f g None (Some u) p q e = absurd (differ g f u q (sym e))
  one_spelling f g (Some t) None p q e = absurd (differ f g t p e)
  one_spelling f g (Some t) (Some u) p q e = one_atom f g t u p q e

  same_bool : (b c : Bool) → (b ≡ true → c ≡ true) → (c ≡ true → b ≡ true) → b ≡ c
  same_bool true c f g = sym (f refl)
  same_bool false true f g = absurd (false≢true (g refl))
  same_bool false false f g = refl

  pub texts_apart : TellsApart (text_of m)
  texts_apart f g =
      same_bool (bytes_eq (text_of m f) (text_of m g)) (bytes_eq f g)
      (λ e. (bytes_eq-Decides f g).1 (one_spelling f g (named m f) (named m g) refl refl ((bytes_eq-Decides (text_of m f) (text_of m g)).0 e)))
      (λ e. (bytes_eq-Decides (text_of m f) (text_of m g)).1 (ap (text_of m) ((bytes_eq-Decides f g).0 e)))
