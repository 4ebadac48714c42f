-- Terms of two arguments with a fixed name.
use Rattle.std.proofs.Common.{◌≡◌, ℕ, ◌==◌, true, false, List, [], ◌∷◌, length, get_or, Some, IsSome, refl, sym, ap, ap₂, ◌∙◌, arith}
use Rattle.std.proofs.lemmas.Bool.Decides.{Decides-eqb}
use Rattle.pl_term.specs.Tree.{Chars, Tree, comp, more, none, compound}
use Rattle.atom_api.specs.Fixed.{fixed}
use Rattle.atom_api.specs.Names.{Names, FixedStand}
use Rattle.builtin_rows.specs.Lists.{IsNaming}
use Rattle.builtin_rows.proofs.Listing.{named_is}
use Rattle.term_store.specs.declared.words.Place.{Place}
use Rattle.term_store.specs.Contents.{Contents, term_at}
use Rattle.term_store.specs.Heap.{atom_name}
use Rattle.world_builtins.specs.Spelling.{or_no_text, reads, spelled, text_of}
use Rattle.shared_builtins.specs.Pairs.{is_pair}

-- The text of a fixed atom.
pub fixed_read : (m : Names) → FixedStand m → (k : ℕ) (t : Chars) → fixed k ≡ Some t → text_of m (atom_name k) ≡ t
fixed_read m stands k t e = ap (or_no_text (atom_name k)) (stands k t e)

pair_of : (ts : List Tree) (d : Tree) → length ts ≡ 2 → ts ≡ get_or ts 0 d ∷ (get_or ts 1 d ∷ [])
pair_of [] d e = absurd (omega arith)
pair_of (t ∷ []) d e = absurd (omega arith)
pair_of (t ∷ (u ∷ [])) d e = refl
pair_of (t ∷ (u ∷ (v ∷ ts))) d e = absurd (omega arith)

pub both_read : (m : Names) → FixedStand m → (s : Contents) (p x y : Place) (f name : ℕ) (t : Chars) (ts : List Tree) (d : Tree) → fixed name ≡ Some t → (f == name) ≡ true
    → term_at s p ≡ compound (atom_name f) ts → length ts ≡ 2 → term_at s x ≡ get_or ts 0 d → term_at s y ≡ get_or ts 1 d
    → reads m s p ≡ comp t (reads m s x) (more (reads m s y) none)
both_read m stands s p x y f name t ts d is same e long l r =
    let g = text_of m in
    ap (spelled g) (e ∙ ap (compound (atom_name f)) (pair_of ts d long))
    ∙ sym (ap₂ (λ a b. comp (g (atom_name f)) (spelled g a) (more (spelled g b) none)) l r)
    ∙ ap (λ h. comp h (reads m s x) (more (reads m s y) none)) (ap (λ k. g (atom_name k)) ((Decides-eqb f name).0 same) ∙ fixed_read m stands name t is)

other_name : (m : Names) → IsNaming m → (f name : ℕ) (t : Chars) (ts : List Tree) → fixed name ≡ Some t → IsSome (m f) → (f == name) ≡ false
    → is_pair t (spelled (text_of m) (compound (atom_name f) ts)) ≡ false
other_name m n f name t [] is held e = refl
other_name m n f name t (u ∷ []) is held e = refl
other_name m n f name t (u ∷ (v ∷ [])) is held e = named_is m n f name t is held ∙ e
other_name m n f name t (u ∷ (v ∷ (w ∷ ts))) is held e = refl

pub named_otherwise : (m : Names) → IsNaming m → (s : Contents) (p : Place) (f name : ℕ) (t : Chars) (ts : List Tree) → fixed name ≡ Some t → IsSome (m f) → (f == name) ≡ false
    → term_at s p ≡ compound (atom_name f) ts → is_pair t (reads m s p) ≡ false
named_otherwise m n s p f name t ts is held e at = ap (λ u. is_pair t (spelled (text_of m) u)) at ∙ other_name m n f name t ts is held e

other_count : (m : Names) (f : ℕ) (t : Chars) (ts : List Tree) → (length ts ≡ 2 → ⊥) → is_pair t (spelled (text_of m) (compound (atom_name f) ts)) ≡ false
other_count m f t [] e = refl
other_count m f t (u ∷ []) e = refl
other_count m f t (u ∷ (v ∷ [])) e = absurd (e refl)
other_count m f t (u ∷ (v ∷ (w ∷ ts))) e = refl

pub counted_otherwise : (m : Names) (s : Contents) (p : Place) (f : ℕ) (t : Chars) (ts : List Tree) → (length ts ≡ 2 → ⊥)
    → term_at s p ≡ compound (atom_name f) ts → is_pair t (reads m s p) ≡ false
counted_otherwise m s p f t ts e at = ap (λ u. is_pair t (spelled (text_of m) u)) at ∙ other_count m f t ts e

-- A number that is that of a fixed atom.
pub named_fixed : (a k : ℕ) (t : Chars) → fixed k ≡ Some t → (a == k) ≡ true → fixed a ≡ Some t
named_fixed a k t is same = ap fixed ((Decides-eqb a k).0 same) ∙ is
