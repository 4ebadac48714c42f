-- The list of the fixed atoms: no two of its texts are equal.
use Rattle.std.proofs.Common.{◌≡◌, ℕ, ◌<◌, ◌≤◌, zero, suc, Bool, true, false, List, [], ◌∷◌, length, Some, refl, sym, ap, ◌∙◌, arith}
use Rattle.std.specs.Prelude.{◌&&◌, ◌||◌, not, map, slice_get, bytes_eq}
use Rattle.std.specs.List.{list_all, list_any}
use Rattle.std.specs.Str.{chars}
use Rattle.std.proofs.lemmas.Bool.{false≢true, leb-true}
use Rattle.std.proofs.Math.Dec.{leb}
use Rattle.std.proofs.lemmas.Option.{slice_get_within, same_Some}
use Rattle.std.proofs.lemmas.Slice.Eq.{bytes_eq-Decides}
use Rattle.pl_term.specs.Tree.{Chars}
use Rattle.pl_term.specs.Texts.{size}
use Rattle.atom_api.specs.declared.fixed.TheConstants.{FIXED}
use Rattle.atom_api.specs.Fixed.{fixed, fixed_count, fixed_texts, numbered}

-- no text stands in the list twice
abbrev pub differing : List Chars → Bool
differing [] = true
differing (t ∷ ts) = not (list_any (bytes_eq t) ts) && differing ts

both : (a b : Bool) → (a && b) ≡ true → (a ≡ true) × (b ≡ true)
both true b e = (refl, e)
both false b e = cc

absent_later : (t : Chars) (us : List Chars) (i : ℕ) → not (list_any (bytes_eq t) us) ≡ true → slice_get us i ≡ Some t → ⊥
absent_later t [] i n e = cc
absent_later t (v ∷ us) zero n e =
    let same : bytes_eq t v ≡ true = (bytes_eq-Decides t v).1 (sym (same_Some v t e)) in
    false≢true (sym (ap (λ b. not (b || list_any (bytes_eq t) us)) same) ∙ n)
absent_later t (v ∷ us) (suc i) n e = absent_later t us i (go (bytes_eq t v) n) e
  where
    go : (b : Bool) → not (b || list_any (bytes_eq t) us) ≡ true → not (list_any (bytes_eq t) us) ≡ true
    go true n = cc
    go false n = n

pub apart_if_differing : (ts : List Chars) (a b : ℕ) (t : Chars) → differing ts ≡ true → slice_get ts a ≡ Some t → slice_get ts b ≡ Some t → a ≡ b
apart_if_differing [] a b t d x y = cc
apart_if_differing (u ∷ ts) zero zero t d x y = refl
apart_if_differing (u ∷ ts) zero (suc b) t d x y =
    absurd (absent_later t ts b (rw (sym (same_Some u t x)) (both (not (list_any (bytes_eq u) ts)) (differing ts) d).0) y)
apart_if_differing (u ∷ ts) (suc a) zero t d x y =
    absurd (absent_later t ts a (rw (sym (same_Some u t y)) (both (not (list_any (bytes_eq u) ts)) (differing ts) d).0) x)
apart_if_differing (u ∷ ts) (suc a) (suc b) t d x y =
    ap suc (apart_if_differing ts a b t (both (not (list_any (bytes_eq u) ts)) (differing ts) d).1 x y)

all_short : (ts : List Chars) (a : ℕ) (t : Chars) → list_all (λ u. leb (size u) 248) ts ≡ true → slice_get ts a ≡ Some t → size t ≤ 248
all_short [] a t r e = cc
all_short (u ∷ ts) zero t r e = rw (sym (same_Some u t e)) (leb-true (size u) 248 (both (leb (size u) 248) (list_all (λ v. leb (size v) 248) ts) r).0)
all_short (u ∷ ts) (suc a) t r e = all_short ts a t (both (leb (size u) 248) (list_all (λ v. leb (size v) 248) ts) r).1 e

texts_differ : differing fixed_texts ≡ true
unfolding fixed_texts
texts_differ = refl

texts_short : list_all (λ u. leb (size u) 248) fixed_texts ≡ true
unfolding fixed_texts lib.Utf8.encode
texts_short = refl

pub texts_count : length fixed_texts ≡ fixed_count
unfolding fixed_texts
texts_count = refl

-- the rows of the code
abbrev pub code_rows : List (ℕ × Chars)
code_rows = map (λ (r : ℕ × (record { now : List ℕ })). (r.0, chars r.1.now)) FIXED

pub rows_agree : code_rows ≡ numbered 0 fixed_texts
unfolding chars fixed_texts
rows_agree = refl

pub fixed_apart : (a b : ℕ) (t : Chars) → fixed a ≡ Some t → fixed b ≡ Some t → a ≡ b
fixed_apart a b t = apart_if_differing fixed_texts a b t texts_differ

pub fixed_below : (a : ℕ) (t : Chars) → fixed a ≡ Some t → a < fixed_count
fixed_below a t e = let inside : a < length fixed_texts = slice_get_within fixed_texts a t e in rw (sym texts_count) inside

pub fixed_within : (a : ℕ) (t : Chars) → fixed a ≡ Some t → (a < 256) × (size t ≤ 248)
fixed_within a t e = let below : a < fixed_count = fixed_below a t e in (omega arith, all_short fixed_texts a t texts_short e)
