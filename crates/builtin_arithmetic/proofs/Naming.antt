-- What stands in a table by texts beside the text of an atom, stands in the table by numbers beside the atom.
use Rattle.std.proofs.Common.{◌≡◌, ℕ, ◌^◌, ◌==◌, nat_lt, Bool, true, false, cond, List, [], ◌∷◌, Option, Some, None, refl, sym, ap, ap₂, ◌∙◌}
use Rattle.std.specs.Str.{bytes_eq}
use Rattle.std.proofs.lemmas.Bool.{false≢true}
use Rattle.std.proofs.lemmas.Bool.Decides.{Decides-eqb}
use Rattle.std.proofs.lemmas.Slice.Eq.{bytes_eq-Decides}
use Rattle.pl_term.specs.Tree.{Chars}
use Rattle.pl_model.specs.Evaluables.{named, names1, names2}
use Rattle.atom_api.specs.Fixed.{fixed, fixed_texts}
use Rattle.atom_api.specs.Names.{Names}
use Rattle.term_store.specs.Heap.{atom_name}
use Rattle.world_builtins.specs.Spelling.{or_no_text, text_of}
use Rattle.builtin_arithmetic.specs.Tables.{found, numbers1, numbers2}
use Rattle.builtin_arithmetic.specs.Texts.{AreTexts}

same_bool : (b c : Bool) → (b ≡ true → c ≡ true) → (c ≡ true → b ≡ true) → b ≡ c
same_bool true c f g = sym (f refl)
same_bool false true f g = absurd (false≢true (g refl))
same_bool false false f g = refl

-- What spells the name of no atom begins otherwise.
abbrev begins_text : Chars → Bool
begins_text [] = true
begins_text (c ∷ cs) = nat_lt c (2 ^ 32)

one_text : (t u : Chars) → (let l : Option Chars = Some t in l ≡ Some u) → t ≡ u
one_text t u e = cc

no_atom : (m : Names) (a : ℕ) (t : Chars) → m a ≡ None → m a ≡ Some t → false ≡ true
no_atom m a t e f = absurd (cc)

module _ (m : Names) (texts : AreTexts m) where
  named_by : (a k : ℕ) (t : Chars) → fixed k ≡ Some t → begins_text t ≡ true → (o : Option Chars) → m a ≡ o → bytes_eq (or_no_text (atom_name a) o) t ≡ (a == k)
  named_by a k t is begins None at =
      same_bool (bytes_eq (2 ^ 32 ∷ atom_name a) t) (a == k)
      (λ h. absurd (false≢true (ap begins_text ((bytes_eq-Decides (2 ^ 32 ∷ atom_name a) t).0 h) ∙ begins)))
      (λ h. absurd (false≢true (no_atom m a t at (ap m ((Decides-eqb a k).0 h) ∙ texts.stand k t is))))
  named_by a k t is begins (Some u) at =
      same_bool (bytes_eq u t) (a == k)
      (λ h. (Decides-eqb a k).1 (texts.unlike a k t (at ∙ ap Some ((bytes_eq-Decides u t).0 h)) (texts.stand k t is)))
      (λ h. (bytes_eq-Decides u t).1 (one_text u t (sym at ∙ ap m ((Decides-eqb a k).0 h) ∙ texts.stand k t is)))

-- A table by numbers with the texts of the fixed atoms in the place of the numbers.
abbrev or_nothing : Option Chars → Chars
or_nothing None = []
or_nothing (Some t) = t

abbrev spelled_table : {A : Type 0} → List (ℕ × A) → List (Chars × A)
spelled_table [] = []
spelled_table (e ∷ es) = (or_nothing (fixed e.0), e.1) ∷ spelled_table es

-- Whether each number is a fixed atom's.
abbrev is_text : Option Chars → Bool
is_text None = false
is_text (Some t) = begins_text t

abbrev are_fixed : {A : Type 0} → List (ℕ × A) → Bool
are_fixed [] = true
are_fixed (e ∷ es) = cond (is_text (fixed e.0)) (are_fixed es) false

both_true : (b c : Bool) → cond b c false ≡ true → (b ≡ true) × (c ≡ true)
both_true true c h = (refl, h)
both_true false c h = absurd (false≢true h)

row_told : (m : Names) → AreTexts m → (a k : ℕ) (o : Option Chars) → fixed k ≡ o → is_text o ≡ true → bytes_eq (text_of m (atom_name a)) (or_nothing o) ≡ (a == k)
row_told m texts a k None e h = absurd (false≢true h)
row_told m texts a k (Some t) e h = named_by m texts a k t e h (m a) refl

table_told : {A : Type 0} (m : Names) → AreTexts m → (a : ℕ) (es : List (ℕ × A)) → are_fixed es ≡ true → named (spelled_table es) (text_of m (atom_name a)) ≡ found a es
table_told m texts a [] h = refl
table_told m texts a (e ∷ es) h =
    let both = both_true (is_text (fixed e.0)) (are_fixed es) h in
    ap₂ (λ b o. cond b (Some e.1) o) (row_told m texts a e.0 (fixed e.0) refl both.0) (table_told m texts a es both.1)

-- The tables of evaluables

spelled1 : spelled_table numbers1 ≡ names1
unfolding fixed_texts
spelled1 = refl

fixed1 : are_fixed numbers1 ≡ true
unfolding fixed_texts
fixed1 = refl

spelled2 : spelled_table numbers2 ≡ names2
unfolding fixed_texts
spelled2 = refl

fixed2 : are_fixed numbers2 ≡ true
unfolding fixed_texts
fixed2 = refl

pub named_unary : (m : Names) → AreTexts m → (a : ℕ) → named names1 (text_of m (atom_name a)) ≡ found a numbers1
named_unary m texts a = ap (λ ns. named ns (text_of m (atom_name a))) (sym spelled1) ∙ table_told m texts a numbers1 fixed1

pub named_binary : (m : Names) → AreTexts m → (a : ℕ) → named names2 (text_of m (atom_name a)) ≡ found a numbers2
named_binary m texts a = ap (λ ns. named ns (text_of m (atom_name a))) (sym spelled2) ∙ table_told m texts a numbers2 fixed2
