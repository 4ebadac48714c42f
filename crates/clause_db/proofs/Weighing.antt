-- What the clauses weigh that are held after a change.
use Rattle.std.proofs.Common.{◌≡◌, ◌+◌, ℕ, zero, suc, List, [], ◌∷◌, ◌++◌, filter, find, map, Option, Some, None, Bool, true, false, cond, not, ◌&&◌, refl, ap, ap₂, ◌∙◌, arith}
use Rattle.std.specs.Prelude.{◌==◌, IfSome, IfNone, ◌<◌, length}
use Rattle.std.specs.List.{slice_get, sum_by}
use Rattle.std.specs.List.Sorted.{IsPermutation}
use Rattle.std.specs.Option.{option_map_or}
use Rattle.std.specs.Result.{MatchResult, OnOk}
use Rattle.std.specs.declared.result.Result.{Result}
use Rattle.std.specs.declared.result.Result.TheVariants.{Ok, Err}
use Rattle.std.proofs.lemmas.List.Sorted.{sum_by-IsPermutation}
use Rattle.std.proofs.lemmas.List.Sums.{sum_by-cons}
use Rattle.pl_model.specs.History as entries
use Rattle.pl_model.specs.laws.Shown.{proc_of}
use Rattle.pl_model.specs.declared.shows.Proc.{Proc}
use Rattle.gen_core.specs.declared.dated_clause.DatedClause.{DatedClause}
use Rattle.gen_core.specs.Visible.{is_live, is_droppable, fresh, erased_by, erased_all}
use Rattle.clause_db.specs.declared.access.Access.TheVariants.{Dynamic}
use Rattle.clause_db.specs.declared.fault.DbFault.{DbFault}
use Rattle.clause_db.specs.declared.parts.Addition.{Addition}
use Rattle.clause_db.specs.declared.parts.End.{End}
use Rattle.clause_db.specs.declared.parts.End.TheVariants.{First, Last}
use Rattle.clause_db.specs.Parts.{Held, Piece, blank, is_part_of, placed, opened, changed_in, added_to, with_clause, with_added, without_at, erased_held}
use Rattle.clause_db.specs.Dynamic.{with_blank, with_blanks, opened_all, dynamic_held}
use Rattle.clause_db.specs.Abolished.{closed, abolished_held}
use Rattle.clause_db.specs.Reclaimed.{is_left, reclaimed_at, reclaimed_held}
use Rattle.clause_db.specs.Weights.{weight_in, weight_of, weight}

-- sums
next_of : (n a b c : ℕ) → a ≡ b + c → n + a ≡ (n + b) + c
next_of n a b c e = omega arith

grown : (n p i r : ℕ) → p ≡ n + i → p + r ≡ n + (i + r)
grown n p i r e = omega arith

grown_past : (n i q r : ℕ) → q ≡ n + r → i + q ≡ n + (i + r)
grown_past n i q r e = omega arith

left_past : (s n g t : ℕ) → s + g ≡ t → s + (n + g) ≡ n + t
left_past s n g t e = omega arith

left_here : (s n g t : ℕ) → s + g ≡ t → (n + s) + g ≡ n + t
left_here s n g t e = omega arith

joined : (c s l r i : ℕ) → c ≡ s → s + l ≡ i → c + (l + r) ≡ i + r
joined c s l r i e f = omega arith

nought : (n : ℕ) → n ≡ 0 + n
nought n = omega arith

nought_more : (n : ℕ) → n + (0 + 0) ≡ n
nought_more n = omega arith

one_more : (n i : ℕ) → i + (n + 0) ≡ n + i
one_more n i = omega arith

module _ {C : Type 0} (w : C → ℕ) where
  in_append : (ds es : List (DatedClause C)) → weight_in w (ds ++ es) ≡ weight_in w ds + weight_in w es
  in_append [] es = nought (weight_in w es)
  in_append (d ∷ ds) es = next_of (w d.clause) (weight_in w (ds ++ es)) (weight_in w ds) (weight_in w es) (in_append ds es)

  of_append : (xs ys : List (Piece C)) → weight_of w (xs ++ ys) ≡ weight_of w xs + weight_of w ys
  of_append [] ys = nought (weight_of w ys)
  of_append (x ∷ xs) ys = next_of (weight_in w x.clauses) (weight_of w (xs ++ ys)) (weight_of w xs) (weight_of w ys) (of_append xs ys)

  -- ADDITIONS
  in_placed : (e : End) (k : ℕ) (c : C) (ds : List (DatedClause C)) → weight_in w (placed e (fresh k c) ds) ≡ w c + weight_in w ds
  in_placed First k c ds = refl
  in_placed Last k c ds = in_append ds (fresh k c ∷ []) ∙ one_more (w c) (weight_in w ds)

  of_clause : (a : Addition) (p : Proc) (c : C) (xs : List (Piece C)) → weight_of w (with_clause a p c xs) ≡ w c + weight_of w xs
  of_clause a p c [] = grown (w c) (weight_in w (placed a.end (fresh a.place c) [])) 0 0 (in_placed a.end a.place c [])
  of_clause a p c (x ∷ xs) = go (is_part_of (proc_of p) x) (of_clause a p c xs)
    where
      go : (b : Bool) → weight_of w (with_clause a p c xs) ≡ w c + weight_of w xs
          → weight_of w (cond b (added_to a c x ∷ xs) (x ∷ with_clause a p c xs)) ≡ w c + (weight_in w x.clauses + weight_of w xs)
      go true ih = grown (w c) (weight_in w (placed a.end (fresh a.place c) x.clauses)) (weight_in w x.clauses) (weight_of w xs) (in_placed a.end a.place c x.clauses)
      go false ih = grown_past (w c) (weight_in w x.clauses) (weight_of w (with_clause a p c xs)) (weight_of w xs) ih

  pub added_weight : (a : Addition) (p : Proc) (c : C) (n : ℕ) (h : Held C) → weight w (with_added a p c n h) ≡ w c + weight w h
  added_weight a p c n h = of_clause a p c h.parts

  -- ERASURES
  in_erased : (j k : ℕ) (ds : List (DatedClause C)) → weight_in w (map (erased_by j k) ds) ≡ weight_in w ds
  in_erased j k [] = refl
  in_erased j k (d ∷ ds) = ap₂ (λ m n. m + n) (go ((d.place == j) && is_live d)) (in_erased j k ds)
    where
      go : (b : Bool) → w (cond b (record d { erased = Some k }) d).clause ≡ w d.clause
      go true = refl
      go false = refl

  of_without : (i j k : ℕ) (xs : List (Piece C)) → weight_of w (without_at i j k xs) ≡ weight_of w xs
  of_without i j k [] = refl
  of_without zero j k (x ∷ xs) = ap (λ n. n + weight_of w xs) (in_erased j k x.clauses)
  of_without (suc i) j k (x ∷ xs) = ap (λ n. weight_in w x.clauses + n) (of_without i j k xs)

  pub erased_weight : (i j k n : ℕ) (h : Held C) → weight w (erased_held i j k n h) ≡ weight w h
  erased_weight i j k n h = of_without i j k h.parts

  -- PROCEDURES THAT ARE ABOLISHED OR MADE DYNAMIC
  of_changed : (c : Piece C → Piece C) → ((x : Piece C) → weight_in w (c x).clauses ≡ weight_in w x.clauses)
      → (p : entries.Proc) (xs : List (Piece C)) → weight_of w (changed_in c p xs) ≡ weight_of w xs
  of_changed c same p [] = refl
  of_changed c same p (x ∷ xs) = go (is_part_of p x) (of_changed c same p xs)
    where
      go : (b : Bool) → weight_of w (changed_in c p xs) ≡ weight_of w xs
          → weight_of w (cond b (c x ∷ xs) (x ∷ changed_in c p xs)) ≡ weight_in w x.clauses + weight_of w xs
      go true ih = ap (λ n. n + weight_of w xs) (same x)
      go false ih = ap (λ n. weight_in w x.clauses + n) ih

  in_closed : (k : ℕ) (ds : List (DatedClause C)) → weight_in w (map (erased_all k) ds) ≡ weight_in w ds
  in_closed k [] = refl
  in_closed k (d ∷ ds) = ap₂ (λ m n. m + n) (go (is_live d)) (in_closed k ds)
    where
      go : (b : Bool) → w (cond b (record d { erased = Some k }) d).clause ≡ w d.clause
      go true = refl
      go false = refl

  pub abolished_weight : (need : C → ℕ) (k : ℕ) (p : entries.Proc) (h : Held C) → weight w (abolished_held need k p h) ≡ weight w h
  abolished_weight need k p h = of_changed (closed k) (λ x. in_closed k x.clauses) p h.parts

  of_blank : (p : Proc) (xs : List (Piece C)) → weight_of w (with_blank p xs) ≡ weight_of w xs
  of_blank p xs = go (find (is_part_of (proc_of p)) xs)
    where
      go : (o : Option (Piece C)) → weight_of w (option_map_or (λ (x : Piece C). xs) o (xs ++ blank p ∷ [])) ≡ weight_of w xs
      go None = of_append xs (blank p ∷ []) ∙ nought_more (weight_of w xs)
      go (Some x) = refl

  of_blanks : (ps : List Proc) (xs : List (Piece C)) → weight_of w (with_blanks ps xs) ≡ weight_of w xs
  of_blanks [] xs = refl
  of_blanks (p ∷ ps) xs = of_blanks ps (with_blank p xs) ∙ of_blank p xs

  of_opened : (k : ℕ) (ps : List Proc) (xs : List (Piece C)) → weight_of w (opened_all k ps xs) ≡ weight_of w xs
  of_opened k [] xs = refl
  of_opened k (p ∷ ps) xs = of_opened k ps (changed_in (opened k Dynamic) (proc_of p) xs) ∙ of_changed (opened k Dynamic) (λ x. refl) (proc_of p) xs

  pub dynamic_weight : (k : ℕ) (ps : List Proc) (h : Held C) → weight w (dynamic_held k ps h) ≡ weight w h
  dynamic_weight k ps h = of_opened k ps (with_blanks ps h.parts) ∙ of_blanks ps h.parts

  -- CLAUSES THAT ARE RECLAIMED
  in_left : (floor : ℕ) (ds : List (DatedClause C)) → sum_by w (map (λ d. d.clause) (filter (is_droppable floor) ds)) + weight_in w (filter (is_left floor) ds) ≡ weight_in w ds
  in_left floor [] = refl
  in_left floor (d ∷ ds) = go (is_droppable floor d) (in_left floor ds)
    where
      go : (b : Bool) → sum_by w (map (λ d. d.clause) (filter (is_droppable floor) ds)) + weight_in w (filter (is_left floor) ds) ≡ weight_in w ds
          → sum_by w (map (λ d. d.clause) (cond b (d ∷ filter (is_droppable floor) ds) (filter (is_droppable floor) ds))) + weight_in w (cond (not b) (d ∷ filter (is_left floor) ds) (filter (is_left floor) ds))
          ≡ w d.clause + weight_in w ds
      go true ih =
          ap (λ n. n + weight_in w (filter (is_left floor) ds)) (sum_by-cons w d.clause (map (λ d. d.clause) (filter (is_droppable floor) ds)))
          ∙ left_here (sum_by w (map (λ d. d.clause) (filter (is_droppable floor) ds))) (w d.clause) (weight_in w (filter (is_left floor) ds)) (weight_in w ds) ih
      go false ih = left_past (sum_by w (map (λ d. d.clause) (filter (is_droppable floor) ds))) (w d.clause) (weight_in w (filter (is_left floor) ds)) (weight_in w ds) ih

  of_reclaimed : (i floor : ℕ) (xs : List (Piece C)) (cs : List C) → i < length xs
      → IfSome (slice_get xs i) (λ x. IsPermutation (map (λ d. d.clause) (filter (is_droppable floor) x.clauses)) cs)
      → sum_by w cs + weight_of w (reclaimed_at i floor xs) ≡ weight_of w xs
  of_reclaimed i floor [] cs low some_ = absurd (omega arith)
  of_reclaimed zero floor (x ∷ xs) cs low some_ =
      joined (sum_by w cs) (sum_by w (map (λ d. d.clause) (filter (is_droppable floor) x.clauses))) (weight_in w (filter (is_left floor) x.clauses)) (weight_of w xs) (weight_in w x.clauses)
      (sum_by-IsPermutation w (map (λ d. d.clause) (filter (is_droppable floor) x.clauses)) cs some_)
      (in_left floor x.clauses)
  of_reclaimed (suc i) floor (x ∷ xs) cs low some_ =
      left_past (sum_by w cs) (weight_in w x.clauses) (weight_of w (reclaimed_at i floor xs)) (weight_of w xs) (of_reclaimed i floor xs cs (omega arith) some_)

  pub reclaimed_weight : (i floor : ℕ) (h new : Held C) (cs : List C) → i < length h.parts → new ≡ reclaimed_held i floor h
      → IfSome (slice_get h.parts i) (λ x. IsPermutation (map (λ d. d.clause) (filter (is_droppable floor) x.clauses)) cs)
      → sum_by w cs + weight w new ≡ weight w h
  reclaimed_weight i floor h new cs low is some_ = ap (λ (n : Held C). sum_by w cs + weight w n) is ∙ of_reclaimed i floor h.parts cs low some_

  -- an erasure, or none
  pub either_weight : (i j k n : ℕ) (h new : Held C) (b : Bool) → (b ≡ true → new ≡ erased_held i j k n h) → (b ≡ false → new ≡ h) → weight w new ≡ weight w h
  either_weight i j k n h new true hit miss = ap (weight w) (hit refl) ∙ erased_weight i j k n h
  either_weight i j k n h new false hit miss = ap (weight w) (miss refl)

-- what was held before an addition that is granted
pub granted : {C E : Type 0} (o : Option DbFault) (r : Result (Unit {0}) E) (bad : DbFault → E) (new old : Held C) (B : E → Type 0)
    → IfSome o (λ f. r ≡ Err (bad f)) → IfNone o (MatchResult r (λ _. new ≡ old) B) → OnOk r (new ≡ old)
granted (Some f) (Ok u) bad new old B refused added = absurd (cc)
granted (Some f) (Err e) bad new old B refused added = tt
granted None (Ok u) bad new old B refused added = added
granted None (Err e) bad new old B refused added = tt
