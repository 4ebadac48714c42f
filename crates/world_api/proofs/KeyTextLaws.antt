-- The key of a term over atoms has the texts that the key of the term in texts has.
use Rattle.std.proofs.Common.{◌≡◌, ◌==◌, ◌^◌, ℕ, suc, [], ◌∷◌, Option, Some, None, Bool, true, false, cond, refl, sym, ap, ap₂, ◌∙◌}
use Rattle.std.specs.Prelude.{bytes_eq, codes}
use Rattle.std.specs.Str.{all_scalars}
use Rattle.std.proofs.lemmas.Bool.{false≢true}
use Rattle.std.proofs.lemmas.Bool.Decides.{Decides-eqb}
use Rattle.std.proofs.lemmas.Slice.Eq.{bytes_eq-Decides}
use Rattle.pl_term.specs.Tree.{Chars, Tree, var, int, atom, comp}
use Rattle.pl_model.specs.FirstArguments.{head_of}
use Rattle.pl_model.specs.FirstArguments as texts
use Rattle.pl_model.specs.declared.first_argument.FirstArgument.TheVariants.{Atom, Compound}
use Rattle.atom_api.specs.Fixed.{fixed, fixed_texts}
use Rattle.atom_api.specs.Names.{Names}
use Rattle.term_store.specs.NumberedNames.{number_of, neck, with_neck, text_by, term_by}
use Rattle.term_store.specs.ArgumentKeys.{argument_key, head_in, head_key, clause_key}
use Rattle.term_store.specs.NameUnification.{count-spelled}
use Rattle.term_store.specs.KeptLaws.{head_is}
use Rattle.world_api.specs.Texts.{text_of, or_no_text}
use Rattle.world_api.specs.KeyTexts.{key_in}

-- A map that gives the neck its text is not changed.
neck_same : (text : ℕ → Chars) → text neck ≡ codes ":-" → (a : ℕ) → with_neck text a ≡ text a
neck_same text is a = go (a == neck) (bytes_eq (text a) (codes ":-")) refl refl
  where
    go : (b c : Bool) → (a == neck) ≡ b → bytes_eq (text a) (codes ":-") ≡ c
        → cond b (codes ":-") (cond c (text neck) (text a)) ≡ text a
    go true c d e = sym is ∙ ap text (sym ((Decides-eqb a neck).0 d))
    go false true d e = is ∙ sym ((bytes_eq-Decides (text a) (codes ":-")).0 e)
    go false false d e = refl

module _ (text : ℕ → Chars) (is : text neck ≡ codes ":-") where
  argument_spelled : (t : Tree) → key_in text (argument_key t) ≡ texts.argument_key (term_by text t)
  argument_spelled (var x) = refl
  argument_spelled (int i) = refl
  argument_spelled (atom a) = ap Atom (sym (neck_same text is (number_of a)))
  argument_spelled (comp f t ts) =
      ap₂ (λ n k. Compound n (suc k)) (sym (neck_same text is (number_of f))) (sym (count-spelled (text_by text) ts))

  head_spelled : (t : Tree) → key_in text (head_key t) ≡ texts.head_key (term_by text t)
  head_spelled (var x) = refl
  head_spelled (int i) = refl
  head_spelled (atom a) = refl
  head_spelled (comp f t ts) = argument_spelled t

neck_fixed : fixed neck ≡ Some (codes ":-")
unfolding fixed_texts
neck_fixed = refl

neck_text : (m : Names) → ((a : ℕ) (t : Chars) → fixed a ≡ Some t → m a ≡ Some t) → text_of m neck ≡ codes ":-"
neck_text m held = ap (or_no_text neck) (held neck (codes ":-") neck_fixed)

-- Different atoms have different texts.
no_text : (f : Chars) → all_scalars (2 ^ 32 ∷ f) ≡ false
no_text f = refl

tails : (f g : Chars) → (let l : Chars = 2 ^ 32 ∷ f in let r : Chars = 2 ^ 32 ∷ g in l ≡ r) → f ≡ g
tails f g e = cc

one_number : (a b : ℕ) → (let l : Chars = a ∷ [] in let r : Chars = b ∷ [] in l ≡ r) → a ≡ b
one_number a b e = cc

module _ (m : Names) (unlike : (a b : ℕ) (t : Chars) → m a ≡ Some t → m b ≡ Some t → a ≡ b) (scalars : (a : ℕ) (t : Chars) → m a ≡ Some t → all_scalars t ≡ true) where
  differ : (a : ℕ) (t g : Chars) → m a ≡ Some t → (let r : Chars = 2 ^ 32 ∷ g in t ≡ r) → ⊥
  differ a t g held same = false≢true (sym (no_text g) ∙ ap all_scalars (sym same) ∙ scalars a t held)

  apart_by : (a b : ℕ) (o p : Option Chars) → m a ≡ o → m b ≡ p → or_no_text a o ≡ or_no_text b p → a ≡ b
  apart_by a b None None d e same = one_number a b (tails (a ∷ []) (b ∷ []) same)
  apart_by a b None (Some u) d e same = absurd (differ b u (a ∷ []) e (sym same))
  apart_by a b (Some t) None d e same = absurd (differ a t (b ∷ []) d same)
  apart_by a b (Some t) (Some u) d e same = unlike a b t d (e ∙ ap Some (sym same))

  texts_apart : (a b : ℕ) → text_of m a ≡ text_of m b → a ≡ b
  texts_apart a b same = apart_by a b (m a) (m b) refl refl same

  pub key_spelled : ((a : ℕ) (t : Chars) → fixed a ≡ Some t → m a ≡ Some t)
      → (t : Tree) → key_in (text_of m) (clause_key t) ≡ texts.head_key (head_of (term_by (text_of m) t))
  key_spelled held t =
      head_spelled (text_of m) (neck_text m held) (head_in t) ∙ ap texts.head_key (head_is (text_of m) texts_apart t)
