-- Lines of tables, and those of atom_concat/3.
use Rattle.std.proofs.Common.{◌≡◌, ℕ, zero, suc, ◌+◌, ◌-◌, ◌<◌, ◌≤◌, true, false, if◌then◌else◌, List, [], ◌∷◌, length, take, drop, Some, refl, sym, ap, ap₂, ◌∙◌, arith, length-take}
use Rattle.std.specs.Prelude.{is_some}
use Rattle.std.proofs.lemmas.List.{drop-take, take-take}
use Rattle.pl_term.specs.Tree.{Chars, Trees, atom}
use Rattle.pl_model.specs.AtomBuiltins.{parts_from}
use Rattle.pl_model.specs.BuiltinRows.{Answer, unifying}
use Rattle.pl_model.specs.TermBuiltins.{three}
use Rattle.pl_model.specs.Unify.{solve_all}
use Rattle.atom_parts.specs.declared.splits.Splits.{Splits}
use Rattle.atom_parts.specs.Columns.{does_unify, values_of}
use Rattle.atom_parts.specs.Following.{IsFollowing}
use Rattle.atom_parts.specs.Splits.{split_columns, split_line, split_wanted, splits_of}

-- A line that does not unify is passed, and one that does is an answer.
pub line_passed : (ts : Trees) (xs : List Answer) (k : ℕ) (a : Answer) → drop k xs ≡ a ∷ drop (suc k) xs → is_some (solve_all [] ts a.terms) ≡ false
    → unifying ts (drop k xs) ≡ unifying ts (drop (suc k) xs)
line_passed ts xs k a e differs =
    ap (unifying ts) e ∙ ap (λ b. if b then a ∷ unifying ts (drop (suc k) xs) else unifying ts (drop (suc k) xs)) differs

pub line_met : (ts : Trees) (xs : List Answer) (k : ℕ) (a : Answer) → drop k xs ≡ a ∷ drop (suc k) xs → is_some (solve_all [] ts a.terms) ≡ true
    → unifying ts (drop k xs) ≡ a ∷ unifying ts (drop (suc k) xs)
line_met ts xs k a e same =
    ap (unifying ts) e ∙ ap (λ b. if b then a ∷ unifying ts (drop (suc k) xs) else unifying ts (drop (suc k) xs)) same

-- The answers from a line on begin with that of a later one.
pub follows : (ts : Trees) (xs : List Answer) (from k : ℕ) (a : Answer) → unifying ts (drop from xs) ≡ a ∷ unifying ts (drop (suc k) xs)
    → unifying ts (drop k xs) ≡ a ∷ unifying ts (drop (suc k) xs) → IsFollowing ts xs from (Some k)
follows ts xs from k a here there =
    (here ∙ sym there, λ none. some_answer a (unifying ts (drop (suc k) xs)) (sym here ∙ none))
  where
    some_answer : (b : Answer) (bs : List Answer) → b ∷ bs ≡ [] → ⊥
    some_answer b bs e = cc

-- The table of atom_concat/3
split_at : (n i k : ℕ) (c : Chars) → k < n → drop k (parts_from n i c) ≡ split_line c (i + k) ∷ drop (suc k) (parts_from n i c)
split_at zero i k c lt = absurd (omega (arith, lt))
split_at (suc n) i zero c lt = let e : i ≡ i + 0 = omega arith in ap (λ j. split_line c j ∷ parts_from n (suc i) c) e
split_at (suc n) i (suc k) c lt =
    let e : suc i + k ≡ i + suc k = omega arith in
    split_at n (suc i) k c (omega (arith, lt)) ∙ ap (λ j. split_line c j ∷ drop (suc k) (parts_from n (suc i) c)) e

past : (n i k : ℕ) (c : Chars) → n ≤ k → drop k (parts_from n i c) ≡ []
past zero i zero c le = refl
past zero i (suc k) c le = refl
past (suc n) i zero c le = absurd (omega (arith, le))
past (suc n) i (suc k) c le = past n (suc i) k c (omega (arith, le))

module _ (text : Chars) (w : Splits) (within : w.length ≤ length text) where
  abbrev pub whole : Chars
  whole = take w.length text

  long : length whole ≡ w.length
  long = omega (arith, length-take w.length text, within)

  pub split_at_place : (k : ℕ) → k ≤ w.length → drop k (splits_of whole) ≡ split_line whole k ∷ drop (suc k) (splits_of whole)
  split_at_place k le =
      let e : 0 + k ≡ k = omega arith in
      split_at (suc (length whole)) 0 k whole (omega (arith, long, le)) ∙ ap (λ j. split_line whole j ∷ drop (suc k) (splits_of whole)) e

  pub no_more : (k : ℕ) → w.length < k → unifying (split_wanted text w) (drop k (splits_of whole)) ≡ []
  no_more k lt = ap (unifying (split_wanted text w)) (past (suc (length whole)) 0 k whole (omega (arith, long, lt)))

  -- The columns are the terms of the line.
  pub split_values : (k : ℕ) → k ≤ w.length → values_of text (split_columns w k) ≡ (split_line whole k).terms
  split_values k le =
      let up : k + (w.length - k) ≡ w.length = omega (arith, le) in
      ap₂ (λ a b. three (atom a) (atom b) (atom whole)) (sym (take-take k w.length text le))
      (sym (drop-take k (w.length - k) text) ∙ ap (λ n. drop k (take n text)) up)

  pub line_columns : (k : ℕ) → k ≤ w.length
      → does_unify text (split_columns w k) ≡ is_some (solve_all [] (split_wanted text w) (split_line whole k).terms)
  line_columns k le = ap (λ vs. is_some (solve_all [] (split_wanted text w) vs)) (split_values k le)
