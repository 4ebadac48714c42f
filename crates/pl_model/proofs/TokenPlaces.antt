-- The definition of layout case by case, and where what follows it lies: after the place at which it is looked for, and
-- within the text.
use Rattle.std.proofs.Common.{◌≡◌, ℕ, ◌+◌, ◌-◌, ◌<◌, ◌≤◌, zero, suc, Bool, true, false, ◌==◌, ◌||◌, List, [], ◌∷◌, length, drop, get_or, Result, Ok, Err, refl, ap, sym, ◌∙◌, arith}
use Rattle.std.proofs.lemmas.List.{length-drop, drop_more, drop-drop}
use Rattle.std.specs.Char.{is_whitespace}
use Rattle.pl_model.specs.declared.syntax.SyntaxFault.{SyntaxFault}
use Rattle.pl_model.specs.declared.syntax.SyntaxKind.{SyntaxKind}
use Rattle.pl_model.specs.Tokens.{Front, nothing, scalar, broken, front, closes_clause, Blank, passes, stops, spoils, blank, blank_at, skip_layout}

abbrev after_blank : ℕ → List ℕ → Blank → Result ℕ SyntaxFault
after_blank at bs (passes n) = skip_layout (suc at) (n - 1) bs
after_blank at bs stops = Ok at
after_blank at bs (spoils kind n) = Err (record { kind = kind; at = at + n })

pub skip_layout-blank : (at b : ℕ) (bs : List ℕ) → skip_layout at 0 (b ∷ bs) ≡ after_blank at bs (blank (b ∷ bs))
skip_layout-blank at b bs = by (blank (b ∷ bs)) where
  by : (l : Blank) → elim l [ passes n ↦ skip_layout (suc at) (n - 1) bs | stops ↦ Ok at | spoils kind n ↦ Err (record { kind = kind; at = at + n }) ] ≡ after_blank at bs l
  by (passes n) = refl
  by stops = refl
  by (spoils kind n) = refl

skip_layout-inside : (at k : ℕ) (bs : List ℕ) → k ≤ length bs → skip_layout at k bs ≡ skip_layout (at + k) 0 (drop k bs)
skip_layout-inside at zero bs h = ap (λ n. skip_layout n 0 bs) (omega arith)
skip_layout-inside at (suc k) [] h = absurd (omega arith)
skip_layout-inside at (suc k) (b ∷ bs) h =
    skip_layout-inside (suc at) k bs (omega arith) ∙ ap (λ n. skip_layout n 0 (drop k bs)) (omega arith)

-- Layout that stands at a place is passed.
pub skip_layout-passes : (text : List ℕ) (at n : ℕ) → at < length text → 0 < n → at + n ≤ length text → blank (drop at text) ≡ passes n
    → skip_layout at 0 (drop at text) ≡ skip_layout (at + n) 0 (drop (at + n) text)
skip_layout-passes text at n h some within is =
    let b = get_or text at 0 in
    let bs = drop (at + 1) text in
    let e = drop_more text at 0 h in
    let inside : n - 1 ≤ length bs = omega (arith, length-drop (at + 1) text) in
    let place : suc at + (n - 1) ≡ at + n = omega arith in
    let behind : (at + 1) + (n - 1) ≡ at + n = omega arith in
    ap (skip_layout at 0) e ∙ skip_layout-blank at b bs ∙ ap (after_blank at bs) (sym (ap blank e) ∙ is)
    ∙ skip_layout-inside (suc at) (n - 1) bs inside ∙ ap (λ m. skip_layout m 0 (drop (n - 1) bs)) place
    ∙ ap (skip_layout (at + n) 0) (drop-drop (n - 1) (at + 1) text ∙ ap (λ m. drop m text) behind)

pub skip_layout-stops : (text : List ℕ) (at : ℕ) → at < length text → blank (drop at text) ≡ stops → skip_layout at 0 (drop at text) ≡ Ok at
skip_layout-stops text at h is =
    let e = drop_more text at 0 h in
    ap (skip_layout at 0) e ∙ skip_layout-blank at (get_or text at 0) (drop (at + 1) text)
    ∙ ap (after_blank at (drop (at + 1) text)) (sym (ap blank e) ∙ is)

pub skip_layout-spoils : (text : List ℕ) (at : ℕ) (kind : SyntaxKind) (n : ℕ) → at < length text → blank (drop at text) ≡ spoils kind n
    → skip_layout at 0 (drop at text) ≡ Err (record { kind = kind; at = at + n })
skip_layout-spoils text at kind n h is =
    let e = drop_more text at 0 h in
    ap (skip_layout at 0) e ∙ skip_layout-blank at (get_or text at 0) (drop (at + 1) text)
    ∙ ap (after_blank at (drop (at + 1) text)) (sym (ap blank e) ∙ is)

forward_blank : (at : ℕ) (bs : List ℕ) (start : ℕ) → ((k : ℕ) → skip_layout (suc at) k bs ≡ Ok start → suc at ≤ start)
    → (l : Blank) → after_blank at bs l ≡ Ok start → at ≤ start
forward_blank at bs start h (passes n) e = omega (arith, h (n - 1) e)
forward_blank at bs start h stops e = let same : at ≡ start = cc in omega arith
forward_blank at bs start h (spoils kind n) e = cc

-- Layout is passed forward.
pub skip_layout-forward : (at k : ℕ) (bs : List ℕ) (start : ℕ) → skip_layout at k bs ≡ Ok start → at ≤ start
skip_layout-forward at k [] start e = let same : at ≡ start = cc in omega arith
skip_layout-forward at (suc k) (b ∷ bs) start e = omega (arith, skip_layout-forward (suc at) k bs start e)
skip_layout-forward at zero (b ∷ bs) start e =
    forward_blank at bs start (λ k. skip_layout-forward (suc at) k bs start) (blank (b ∷ bs)) (sym (skip_layout-blank at b bs) ∙ e)

abbrev blank_front : List ℕ → Front → Blank
blank_front bs nothing = stops
blank_front bs (scalar c k) = blank_at bs c k
blank_front bs broken = stops

blank-front : (bs : List ℕ) → blank bs ≡ blank_front bs (front bs)
blank-front bs = by (front bs) where
  by : (f : Front) → elim f [ nothing ↦ stops | scalar c k ↦ blank_at bs c k | broken ↦ stops ] ≡ blank_front bs f
  by nothing = refl
  by (scalar c k) = refl
  by broken = refl

pub blank-scalar : (bs : List ℕ) (c k : ℕ) → front bs ≡ scalar c k → blank bs ≡ blank_at bs c k
blank-scalar bs c k e = blank-front bs ∙ ap (blank_front bs) e

pub blank-broken : (bs : List ℕ) → front bs ≡ broken → blank bs ≡ stops
blank-broken bs e = blank-front bs ∙ ap (blank_front bs) e

abbrev closes_front : Front → Bool
closes_front nothing = true
closes_front (scalar c k) = is_whitespace c || c == 37
closes_front broken = false

closes_clause-front : (bs : List ℕ) → closes_clause bs ≡ closes_front (front bs)
closes_clause-front bs = by (front bs) where
  by : (f : Front) → elim f [ nothing ↦ true | scalar c k ↦ is_whitespace c || c == 37 | broken ↦ false ] ≡ closes_front f
  by nothing = refl
  by (scalar c k) = refl
  by broken = refl

pub closes_clause-scalar : (bs : List ℕ) (c k : ℕ) → front bs ≡ scalar c k → closes_clause bs ≡ (is_whitespace c || c == 37)
closes_clause-scalar bs c k e = closes_clause-front bs ∙ ap closes_front e

pub closes_clause-broken : (bs : List ℕ) → front bs ≡ broken → closes_clause bs ≡ false
closes_clause-broken bs e = closes_clause-front bs ∙ ap closes_front e

-- A token lies after the place where it was looked for.
pub record Follows (text : List ℕ) (at start end : ℕ) : Type 0 where
  pub begins : at ≤ start
  pub ends : start < end
  pub within : end ≤ length text
