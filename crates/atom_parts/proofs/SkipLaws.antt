-- Lines of sub_atom/5 that are passed, since they cannot have what is wanted.
use Rattle.std.proofs.Common.{◌≡◌, ◌≢◌, ℕ, zero, suc, ◌+◌, ◌-◌, ◌<◌, ◌≤◌, false, List, [], ◌∷◌, length, take, drop, refl, sym, ap, subst, ◌∙◌, arith, length-take, length-drop}
use Rattle.pl_term.specs.Tree.{Chars, atom}
use Rattle.pl_model.specs.AtomBuiltins.{number}
use Rattle.pl_model.specs.BuiltinRows.{Answer, unifying}
use Rattle.atom_parts.specs.declared.columns.Column.{Column}
use Rattle.atom_parts.specs.declared.columns.Value.TheVariants.{Number, Part}
use Rattle.atom_parts.specs.declared.columns.Wanted.TheVariants.{Is}
use Rattle.atom_parts.specs.declared.parts.Parts.{Parts}
use Rattle.atom_parts.specs.declared.parts.Spot.{Spot}
use Rattle.atom_parts.specs.Columns.{DiffersBy, does_unify}
use Rattle.atom_parts.specs.Parts.{IsSpot, line_at, lines_before, part_columns, part_line, part_wanted, parts_of}
use Rattle.atom_parts.specs.Skipping.{ArePassed}
use Rattle.atom_parts.proofs.ColumnLaws.{unify_not}
use Rattle.atom_parts.proofs.PartLaws.{part_at_spot, part_terms}
use Rattle.atom_parts.proofs.SplitLaws.{line_passed}

numbers_same : (n k : ℕ) → number n ≡ number k → n ≡ k
numbers_same n k e = cc

atoms_same : (xs ys : Chars) → atom xs ≡ atom ys → xs ≡ ys
atoms_same xs ys e = cc

-- A column that differs, where a value is wanted.
module _ (text : Chars) (w : Parts) (p : Spot) where
  abbrev whole : Column
  whole = record { wanted = Is (Part 0 w.length); value = Part 0 w.length }

  abbrev before : Column
  before = record { wanted = w.before; value = Number p.before }

  abbrev count : Column
  count = record { wanted = w.count; value = Number p.count }

  abbrev after : Column
  after = record { wanted = w.after; value = Number (w.length - p.before - p.count) }

  abbrev part : Column
  part = record { wanted = w.part; value = Part p.before p.count }

  pub before_differs : (n : ℕ) → w.before ≡ Is (Number n) → n ≢ p.before → does_unify text (part_columns w p) ≡ false
  before_differs n is d =
      unify_not text (whole ∷ []) (count ∷ (after ∷ (part ∷ []))) before
      (subst (DiffersBy text (whole ∷ []) (Number p.before)) (sym is) (λ e. d (numbers_same n p.before e)))

  pub count_differs : (n : ℕ) → w.count ≡ Is (Number n) → p.count ≢ n → does_unify text (part_columns w p) ≡ false
  count_differs n is d =
      unify_not text (whole ∷ (before ∷ [])) (after ∷ (part ∷ [])) count
      (subst (DiffersBy text (whole ∷ (before ∷ [])) (Number p.count)) (sym is) (λ e. d (sym (numbers_same n p.count e))))

  pub after_differs : (n : ℕ) → w.after ≡ Is (Number n) → n ≢ w.length - p.before - p.count → does_unify text (part_columns w p) ≡ false
  after_differs n is d =
      unify_not text (whole ∷ (before ∷ (count ∷ []))) (part ∷ []) after
      (subst (DiffersBy text (whole ∷ (before ∷ (count ∷ []))) (Number (w.length - p.before - p.count))) (sym is)
      (λ e. d (numbers_same n (w.length - p.before - p.count) e)))

  pub part_differs : (at k n : ℕ) → w.part ≡ Is (Part at k) → length (take k (drop at text)) ≡ n → p.before + p.count ≤ length text → p.count ≢ n
      → does_unify text (part_columns w p) ≡ false
  part_differs at k n is many le d =
      unify_not text (whole ∷ (before ∷ (count ∷ (after ∷ [])))) [] part
      (subst (DiffersBy text (whole ∷ (before ∷ (count ∷ (after ∷ [])))) (Part p.before p.count)) (sym is)
      (λ e. d
      (let same : length (take k (drop at text)) ≡ length (take p.count (drop p.before text)) = ap length (atoms_same (take k (drop at text)) (take p.count (drop p.before text)) e) in
      omega (arith, same, many, le, length-take p.count (drop p.before text), length-drop p.before text))))

-- Some lines with as many characters before the part.
module _ (text : Chars) (w : Parts) (within : w.length ≤ length text) where
  abbrev spot : ℕ → ℕ → ℕ → Spot
  spot first before count = record { first = first; before = before; count = count }

  abbrev from : ℕ → List Answer
  from i = unifying (part_wanted text w) (drop i (parts_of (take w.length text)))

  pub lines_passed : (n first before count : ℕ) → first ≡ lines_before w.length 0 before → before ≤ w.length → before + count + n ≤ suc w.length
      → ((j : ℕ) → j < n → does_unify text (part_columns w (spot first before (count + j))) ≡ false)
      → ArePassed text w (first + count) (first + count + n)
  lines_passed zero first before count is le room differs = let e : first + count ≡ first + count + 0 = omega arith in ap from e
  lines_passed (suc n) first before count is le room differs =
      let p : Spot = spot first before count in
      let here : IsSpot w.length p = record { first = is; within = λ k. omega (arith, room); past = omega (arith, le) } in
      let same : count ≡ count + 0 = omega arith in
      let differs_here : does_unify text (part_columns w p) ≡ false =
      ap (λ i. does_unify text (part_columns w (spot first before i))) same ∙ differs 0 (omega arith) in
      let next : suc (first + count) ≡ first + suc count = omega arith in
      let last : first + suc count + n ≡ first + count + suc n = omega arith in
      line_passed (part_wanted text w) (parts_of (take w.length text)) (first + count) (part_line (take w.length text) before count)
      (part_at_spot text w within p here le) (sym (part_terms text w within p (omega (arith, room))) ∙ differs_here)
      ∙ ap from next
      ∙ lines_passed n first before (suc count) is le (omega (arith, room))
      (λ j lt. let e : suc count + j ≡ count + suc j = omega arith in
      ap (λ i. does_unify text (part_columns w (spot first before i))) e ∙ differs (suc j) (omega (arith, lt)))
      ∙ ap from last

  -- All lines from a part on with as many characters before it.
  pub rest_passed : (p : Spot) → IsSpot w.length p → p.before ≤ w.length
      → ((q : Spot) → q.before ≡ p.before → p.count ≤ q.count → q.before + q.count ≤ w.length → does_unify text (part_columns w q) ≡ false)
      → ArePassed text w (line_at p) (p.first + suc (w.length - p.before))
  rest_passed p is le differs =
      let n = suc (w.length - p.before) - p.count in
      let last : p.first + p.count + n ≡ p.first + suc (w.length - p.before) = omega (arith, is.within le, le) in
      lines_passed n p.first p.before p.count is.first le (omega (arith, is.within le, le))
      (λ j lt. differs (spot p.first p.before (p.count + j)) refl (omega arith) (omega (arith, lt, le, is.within le)))
      ∙ ap from last

  -- Those before one of them.
  pub some_passed : (p : Spot) (n : ℕ) → IsSpot w.length p → p.before ≤ w.length → p.count ≤ n → p.before + n ≤ w.length
      → ((q : Spot) → q.before ≡ p.before → q.before + q.count ≤ w.length → q.count ≢ n → does_unify text (part_columns w q) ≡ false)
      → ArePassed text w (line_at p) (p.first + n)
  some_passed p n is le up room differs =
      let last : p.first + p.count + (n - p.count) ≡ p.first + n = omega (arith, up) in
      lines_passed (n - p.count) p.first p.before p.count is.first le (omega (arith, up, room))
      (λ j lt. differs (spot p.first p.before (p.count + j)) refl (omega (arith, lt, up, room)) (omega (arith, lt, up)))
      ∙ ap from last
