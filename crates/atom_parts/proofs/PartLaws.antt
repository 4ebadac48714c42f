-- The lines of sub_atom/5.
use Rattle.std.proofs.Common.{◌≡◌, ℕ, zero, suc, ◌+◌, ◌-◌, ◌*◌, ◌<◌, ◌≤◌, List, [], ◌∷◌, ◌++◌, length, take, drop, refl, sym, ap, ap₂, ◌∙◌, arith, length-take}
use Rattle.std.specs.Prelude.{is_some}
use Rattle.std.proofs.Math.Seq.{drop-append-add}
use Rattle.std.proofs.lemmas.List.{drop-take, take-take, drop-append-le}
use Rattle.pl_term.specs.Tree.{Chars, atom}
use Rattle.pl_model.specs.AtomBuiltins.{five, number, sub_atoms_at, sub_atoms_from}
use Rattle.pl_model.specs.BuiltinRows.{Answer, unifying}
use Rattle.pl_model.specs.Unify.{solve_all}
use Rattle.atom_parts.specs.declared.parts.Parts.{Parts}
use Rattle.atom_parts.specs.declared.parts.Spot.{Spot}
use Rattle.atom_parts.specs.Columns.{does_unify, values_of}
use Rattle.atom_parts.specs.Parts.{IsSpot, line_at, lines_before, part_columns, part_line, part_wanted, parts_of}

-- Numbers of lines

pub lines_more : (len b j : ℕ) → lines_before len b (suc j) ≡ lines_before len b j + suc (len - (b + j))
lines_more len b zero = let e : b + 0 ≡ b = omega arith in ap (λ k. suc (len - k) + 0) (sym e) ∙ omega arith
lines_more len b (suc j) =
    let e : suc b + j ≡ b + suc j = omega arith in
    ap (λ k. suc (len - b) + k) (lines_more len (suc b) j ∙ ap (λ k. lines_before len (suc b) j + suc (len - k)) e) ∙ omega arith

pub lines_few : (len b j : ℕ) → len ≤ 248 → lines_before len b j ≤ j * 249
lines_few len b zero few = omega arith
lines_few len b (suc j) few = omega (arith, lines_few len (suc b) j few, few)

lines_up : (len j k : ℕ) → lines_before len 0 j ≤ lines_before len 0 (j + k)
lines_up len j zero = let e : j ≡ j + 0 = omega arith in omega (arith, ap (lines_before len 0) e)
lines_up len j (suc k) =
    let e : suc (j + k) ≡ j + suc k = omega arith in omega (arith, lines_up len j k, lines_more len 0 (j + k), ap (lines_before len 0) e)

pub spot_below : (len : ℕ) (p : Spot) → IsSpot len p → p.before ≤ len → line_at p < lines_before len 0 (suc len)
spot_below len p is le =
    let e : suc p.before + (len - p.before) ≡ suc len = omega (arith, le) in
    omega (arith, is.first, is.within le, lines_more len 0 p.before, lines_up len (suc p.before) (len - p.before), ap (lines_before len 0) e)

-- The lines of the parts at one place.

length-at : (k n : ℕ) (a : Chars) (b : ℕ) → length (sub_atoms_at k n a b) ≡ k
length-at zero n a b = refl
length-at (suc k) n a b = ap suc (length-at k (suc n) a b)

at_length : (k n m : ℕ) (a : Chars) (b : ℕ) → m < k → drop m (sub_atoms_at k n a b) ≡ part_line a b (n + m) ∷ drop (suc m) (sub_atoms_at k n a b)
at_length zero n m a b lt = absurd (omega (arith, lt))
at_length (suc k) n zero a b lt = let e : n ≡ n + 0 = omega arith in ap (λ j. part_line a b j ∷ sub_atoms_at k (suc n) a b) e
at_length (suc k) n (suc m) a b lt =
    let e : suc n + m ≡ n + suc m = omega arith in
    at_length k (suc n) m a b (omega (arith, lt)) ∙ ap (λ j. part_line a b j ∷ drop (suc m) (sub_atoms_at k (suc n) a b)) e

at_block : (xs ys : List Answer) (m : ℕ) (x : Answer) → m < length xs → drop m xs ≡ x ∷ drop (suc m) xs → drop m (xs ++ ys) ≡ x ∷ drop (suc m) (xs ++ ys)
at_block xs ys m x lt e =
    drop-append-le m xs ys (omega (arith, lt)) ∙ ap (λ l. l ++ ys) e ∙ ap (λ l. x ∷ l) (sym (drop-append-le (suc m) xs ys (omega (arith, lt))))

-- The line of the part with `j` characters more before it than the first ones, and `m` in it.
at_place : (k b j m : ℕ) (a : Chars) → j < k → m < suc (length a - (b + j))
    → drop (lines_before (length a) b j + m) (sub_atoms_from k b a)
    ≡ part_line a (b + j) m ∷ drop (suc (lines_before (length a) b j + m)) (sub_atoms_from k b a)
at_place zero b j m a lt few = absurd (omega (arith, lt))
at_place (suc k) b zero m a lt few =
    let e : b ≡ b + 0 = omega arith in
    let z : 0 + m ≡ m = omega arith in
    let block = sub_atoms_at (suc (length a - b)) zero a b in
    let all = block ++ sub_atoms_from k (suc b) a in
    let long : length block ≡ suc (length a - b) = length-at (suc (length a - b)) zero a b in
    let less : m < suc (length a - b) = omega (arith, few, ap (λ i. length a - i) e) in
    ap (λ i. drop i all) z
    ∙ at_block block (sub_atoms_from k (suc b) a) m (part_line a b m) (omega (arith, long, less))
    (at_length (suc (length a - b)) zero m a b less ∙ ap (λ n. part_line a b n ∷ drop (suc m) block) z)
    ∙ ap₂ (λ i n. part_line a i m ∷ drop (suc n) all) e (sym z)
at_place (suc k) b (suc j) m a lt few =
    let e : suc b + j ≡ b + suc j = omega arith in
    let block = sub_atoms_at (suc (length a - b)) zero a b in
    let rest = sub_atoms_from k (suc b) a in
    let long : length block ≡ suc (length a - b) = length-at (suc (length a - b)) zero a b in
    let n = lines_before (length a) (suc b) j in
    let here : suc (length a - b) + n + m ≡ length block + (n + m) = omega (arith, long) in
    let next : length block + suc (n + m) ≡ suc (suc (length a - b) + n + m) = omega (arith, long) in
    ap (λ i. drop i (block ++ rest)) here ∙ drop-append-add block rest (n + m)
    ∙ at_place k (suc b) j m a (omega (arith, lt)) (omega (arith, few, ap (λ i. length a - i) e))
    ∙ ap₂ (λ i l. part_line a i m ∷ l) e (sym (drop-append-add block rest (suc (n + m))) ∙ ap (λ i. drop i (block ++ rest)) next)

drop-nothing : (k : ℕ) → drop k (let none : List Answer = [] in none) ≡ []
drop-nothing zero = refl
drop-nothing (suc k) = refl

past_all : (k b j : ℕ) (a : Chars) → lines_before (length a) b k ≤ j → drop j (sub_atoms_from k b a) ≡ []
past_all zero b j a le = drop-nothing j
past_all (suc k) b j a le =
    let block = sub_atoms_at (suc (length a - b)) zero a b in
    let rest = sub_atoms_from k (suc b) a in
    let long : length block ≡ suc (length a - b) = length-at (suc (length a - b)) zero a b in
    let here : j ≡ length block + (j - suc (length a - b)) = omega (arith, long, le) in
    ap (λ i. drop i (block ++ rest)) here ∙ drop-append-add block rest (j - suc (length a - b))
    ∙ past_all k (suc b) (j - suc (length a - b)) a (omega (arith, le))

module _ (text : Chars) (w : Parts) (within : w.length ≤ length text) where
  abbrev pub whole : Chars
  whole = take w.length text

  pub long : length whole ≡ w.length
  long = omega (arith, length-take w.length text, within)

  pub part_at_spot : (p : Spot) → IsSpot w.length p → p.before ≤ w.length
      → drop (line_at p) (parts_of whole) ≡ part_line whole p.before p.count ∷ drop (suc (line_at p)) (parts_of whole)
  part_at_spot p is le =
      let first : p.first ≡ lines_before (length whole) 0 p.before = is.first ∙ ap (λ n. lines_before n 0 p.before) (sym long) in
      ap (λ i. drop (i + p.count) (parts_of whole)) first
      ∙ at_place (suc (length whole)) 0 p.before p.count whole (omega (arith, long, le)) (omega (arith, long, is.within le))
      ∙ ap (λ b. part_line whole b p.count ∷ drop (suc (lines_before (length whole) 0 p.before + p.count)) (parts_of whole))
      (let z : 0 + p.before ≡ p.before = omega arith in z)
      ∙ ap (λ i. part_line whole p.before p.count ∷ drop (suc (i + p.count)) (parts_of whole)) (sym first)

  pub no_part : (k : ℕ) → lines_before w.length 0 (suc w.length) ≤ k → unifying (part_wanted text w) (drop k (parts_of whole)) ≡ []
  no_part k le =
      ap (unifying (part_wanted text w))
      (past_all (suc (length whole)) 0 k whole (let same : lines_before (length whole) 0 (suc (length whole)) ≡ lines_before w.length 0 (suc w.length) = ap (λ n. lines_before n 0 (suc n)) long in omega (arith, same, le)))

  -- The columns are the terms of the line.
  pub part_values : (p : Spot) → p.before + p.count ≤ w.length → values_of text (part_columns w p) ≡ (part_line whole p.before p.count).terms
  part_values p le =
      let up : p.before + (w.length - p.before) ≡ w.length = omega (arith, le) in
      let part : take p.count (drop p.before text) ≡ take p.count (drop p.before whole) =
      sym (take-take p.count (w.length - p.before) (drop p.before text) (omega (arith, le)))
      ∙ ap (take p.count) (sym (drop-take p.before (w.length - p.before) text) ∙ ap (λ n. drop p.before (take n text)) up) in
      ap₂ (λ n x. five (atom whole) (number p.before) (number p.count) (number (n - p.before - p.count)) (atom x)) (sym long) part

  pub part_terms : (p : Spot) → p.before + p.count ≤ w.length
      → does_unify text (part_columns w p) ≡ is_some (solve_all [] (part_wanted text w) (part_line whole p.before p.count).terms)
  part_terms p le = ap (λ vs. is_some (solve_all [] (part_wanted text w) vs)) (part_values p le)
