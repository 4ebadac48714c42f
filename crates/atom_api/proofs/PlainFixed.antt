-- The fixed atoms among the slots of plain atoms.
use Rattle.std.proofs.Common.{◌≡◌, ◌≢◌, ◌<◌, ◌≤◌, ◌+◌, ℕ, zero, suc, Bool, true, false, List, [], ◌∷◌, length, get_or, Some, None, refl, sym, ap, subst, ◌∙◌, inl, inr, arith}
use Rattle.std.proofs.Math.Path.{fun_ext}
use Rattle.std.specs.Prelude.{◌==◌, ◌||◌, if◌then◌else◌, nat_lt, slice_get, Result, Ok, Err, IfOk, OnErr}
use Rattle.std.specs.List.{list_any}
use Rattle.std.specs.Option.{is_some}
use Rattle.std.proofs.lemmas.Bool.{cases_eq, cases_lt, lt-ltb, le-ltb}
use Rattle.std.proofs.lemmas.Option.{slice_get-get_or, slice_get_past, slice_get_within}
use Rattle.pl_term.specs.Tree.{Chars}
use Rattle.atom_api.specs.Fixed.{fixed, fixed_count, fixed_texts, numbered}
use Rattle.atom_api.specs.Names.{Names, with_name, cut, FixedStand}
use Rattle.atom_api.specs.Slots.{swept}
use Rattle.atom_api.proofs.FixedTexts.{fixed_apart, fixed_below, texts_count}
use Rattle.atom_api.proofs.SlotNames.{with_here, with_else}

pub fixed_put : (m : Names) (a : ℕ) (t : Chars) → FixedStand m → m a ≡ None → FixedStand (with_name m a t)
fixed_put m a t f free b u e =
    let at : m b ≡ Some u = f b u e in
    let other : b ≢ a = λ here. (let no_text : None ≡ Some u = sym free ∙ ap m (sym here) ∙ at in cc) in
    with_else m a t b other ∙ at

-- whether or not there was memory
pub fixed_put_if : {E : Type 0} (r : Result ℕ E) (m n : Names) (t : Chars) (most : ℕ)
    → FixedStand m
    → IfOk r (λ k. (k ≤ most) × (m k ≡ None))
    → IfOk r (λ k. n ≡ with_name m k t)
    → OnErr r (n ≡ m)
    → FixedStand n
fixed_put_if (Ok k) m n t most f free put err = subst (λ (q : Names). FixedStand q) (sym put) (fixed_put m k t f free.1)
fixed_put_if (Err e) m n t most f free put err = subst (λ (q : Names). FixedStand q) (sym err) f

pub fixed_swept : (m : Names) (live : List ℕ) → FixedStand m → FixedStand (swept fixed_count live m)
fixed_swept m live f a t e =
    ap (λ (b : Bool). if b || list_any (λ k. k == a) live then m a else None) (lt-ltb a fixed_count (fixed_below a t e)) ∙ f a t e

is_some_get : (ts : List Chars) (k : ℕ) → is_some (slice_get ts k) ≡ nat_lt k (length ts)
is_some_get ts k =
    elim (cases_lt k (length ts)) [
      | inl inside ↦ ap is_some (slice_get-get_or ts k [] inside) ∙ sym (lt-ltb k (length ts) inside)
      | inr outside ↦ ap is_some (slice_get_past ts k outside) ∙ sym (le-ltb k (length ts) outside)
    ]

pub is_fixed : (k : ℕ) → is_some (fixed k) ≡ nat_lt k fixed_count
is_fixed k = is_some_get fixed_texts k ∙ ap (λ n. nat_lt k n) texts_count

or_turned : (b c : Bool) → (b || c) ≡ (c || b)
or_turned true true = refl
or_turned true false = refl
or_turned false true = refl
or_turned false false = refl

pub swept-cut : (m : Names) (live : List ℕ) → swept fixed_count live m ≡ cut live m
swept-cut m live =
    fun_ext (λ k.
    ap (λ (b : Bool). if b then m k else None) (
    or_turned (nat_lt k fixed_count) (list_any (λ a. a == k) live)
    ∙ ap (λ (b : Bool). list_any (λ a. a == k) live || b) (sym (is_fixed k))
    ))

-- the first fixed atoms
abbrev pub first_fixed : ℕ → Names
first_fixed n k = if nat_lt k n then fixed k else None

pub first_none : (k : ℕ) → first_fixed 0 k ≡ None
first_none k = let low : 0 ≤ k = omega arith in ap (λ (b : Bool). if b then fixed k else None) (le-ltb k 0 low)

pub first_all : (n k : ℕ) → fixed_count ≤ n → first_fixed n k ≡ fixed k
first_all n k l =
    elim (cases_lt k n) [
      | inl low ↦ ap (λ (b : Bool). if b then fixed k else None) (lt-ltb k n low)
      | inr high ↦
          let past : length fixed_texts ≤ k = rw texts_count (omega arith) in
          ap (λ (b : Bool). if b then fixed k else None) (le-ltb k n high) ∙ sym (slice_get_past fixed_texts k past)
    ]

first_read : (n k : ℕ) (t : Chars) → first_fixed n k ≡ Some t → (k < n) × (fixed k ≡ Some t)
first_read n k t e =
    elim (cases_lt k n) [
      | inl low ↦ (low, sym (ap (λ (b : Bool). if b then fixed k else None) (lt-ltb k n low)) ∙ e)
      | inr high ↦ (let no_text : None ≡ Some t = sym (ap (λ (b : Bool). if b then fixed k else None) (le-ltb k n high)) ∙ e in cc)
    ]

-- the next text has no slot yet
pub first_absent : (m : Names) (n : ℕ) (t : Chars) → ((k : ℕ) → m k ≡ first_fixed n k) → fixed n ≡ Some t → (k : ℕ) → m k ≢ Some t
first_absent m n t h here k e =
    let read : (k < n) × (fixed k ≡ Some t) = first_read n k t (sym (h k) ∙ e) in
    let same : k ≡ n = fixed_apart k n t read.1 here in
    let low : k < n = read.0 in omega arith

-- a slot that is free, and not past the next one, is the next one
pub next_slot : (m : Names) (n a : ℕ) (t : Chars) → ((k : ℕ) → m k ≡ first_fixed n k) → fixed n ≡ Some t → a ≤ n → m a ≡ None → a ≡ n
next_slot m n a t h here most free =
    elim (cases_lt a n) [
      | inl low ↦
          let inside : n < length fixed_texts = slice_get_within fixed_texts n t here in
          let within : a < length fixed_texts = omega arith in
          let full : fixed a ≡ Some (get_or fixed_texts a []) = slice_get-get_or fixed_texts a [] within in
          let no_text : None ≡ Some (get_or fixed_texts a []) =
          sym free ∙ h a ∙ ap (λ (b : Bool). if b then fixed a else None) (lt-ltb a n low) ∙ full in cc
      | inr high ↦ omega arith
    ]

pub first_next : (m : Names) (n : ℕ) (t : Chars) → ((k : ℕ) → m k ≡ first_fixed n k) → fixed n ≡ Some t → (k : ℕ) → with_name m n t k ≡ first_fixed (n + 1) k
first_next m n t h here k =
    elim (cases_eq k n) [
      | inl same ↦
          let low : k < n + 1 = omega arith in
          with_here m n t k same ∙ sym (ap (λ (b : Bool). if b then fixed k else None) (lt-ltb k (n + 1) low) ∙ ap fixed same ∙ here)
      | inr other ↦ with_else m n t k other ∙ h k ∙ elim (cases_lt k n) [
        | inl low ↦
            let lower : k < n + 1 = omega arith in
            ap (λ (b : Bool). if b then fixed k else None) (lt-ltb k n low ∙ sym (lt-ltb k (n + 1) lower))
        | inr high ↦
            let higher : n + 1 ≤ k = omega arith in
            ap (λ (b : Bool). if b then fixed k else None) (le-ltb k n high ∙ sym (le-ltb k (n + 1) higher))
      ]
    ]

-- the row of a text
pub numbered-row : (ts : List Chars) (a i : ℕ) (r d : ℕ × Chars) → i < length (numbered a ts) → r ≡ get_or (numbered a ts) i d → slice_get ts i ≡ Some r.1
numbered-row [] a i r d l e = absurd (omega arith)
numbered-row (t ∷ ts) a zero r d l e = ap (λ (p : ℕ × Chars). Some p.1) (sym e)
numbered-row (t ∷ ts) a (suc i) r d l e = let inside : i < length (numbered (a + 1) ts) = omega arith in numbered-row ts (a + 1) i r d inside e

pub length-numbered : (ts : List Chars) (a : ℕ) → length (numbered a ts) ≡ length ts
length-numbered [] a = refl
length-numbered (t ∷ ts) a = ap suc (length-numbered ts (a + 1))

pub row_is : (items rows : List (ℕ × Chars)) (i : ℕ) (r : ℕ × Chars) → items ≡ rows → rows ≡ numbered 0 fixed_texts → i < length items → r ≡ get_or items i r → fixed i ≡ Some r.1
row_is items rows i r e f l is =
    numbered-row fixed_texts 0 i r r (subst (λ (xs : List (ℕ × Chars)). i < length xs) (e ∙ f) l) (subst (λ (xs : List (ℕ × Chars)). r ≡ get_or xs i r) (e ∙ f) is)

pub rows_count : (items rows : List (ℕ × Chars)) → items ≡ rows → rows ≡ numbered 0 fixed_texts → length items ≡ fixed_count
rows_count items rows e f = ap length (e ∙ f) ∙ length-numbered fixed_texts 0 ∙ texts_count
