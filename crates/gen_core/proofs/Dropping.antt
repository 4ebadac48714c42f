-- Dropping one clause after the other.
use Rattle.std.proofs.Common.{◌≡◌, ℕ, ◌+◌, ◌<◌, ◌≤◌, Bool, true, false, cond, not, ◌&&◌, ◌||◌, List, [], ◌∷◌, ◌++◌, map, length, Option, Some, None, refl, sym, ap, ◌∙◌, subst, arith, append-nil, length-append}
use Rattle.std.specs.Prelude.{filter, sum_by, nat_lt, nat_le}
use Rattle.std.specs.Option.{option_map_or, is_some}
use Rattle.std.specs.List.{list_any}
use Rattle.std.specs.List.Sorted.{IsPermutation}
use Rattle.std.proofs.lemmas.Bool.{false≢true, leb-true}
use Rattle.std.proofs.lemmas.List.Elements.{filter-append}
use Rattle.std.proofs.lemmas.List.Sums.{sum_by-append, sum_by-cons}
use Rattle.std.proofs.lemmas.List.Sorted.{IsPermutation-middle, IsPermutation-pop_more, IsPermutation-refl}
use borrow.Author.Tests.{ltb-true}
use Rattle.gen_core.specs.declared.dated_clause.DatedClause.{DatedClause}
use Rattle.gen_core.specs.Visible.{is_visible, is_droppable, counted, DropsOne, Reclaims}

abbrev one : Bool → ℕ
one b = cond b 1 0

module _ {C : Type 0} (floor : ℕ) where
  abbrev pub due : List (DatedClause C) → List C
  due ds = map (λ d. d.clause) (filter (is_droppable floor) ds)

  abbrev pub kept : List (DatedClause C) → List (DatedClause C)
  kept ds = filter (λ d. not (is_droppable floor d)) ds

  -- Some of the clauses that are due are dropped, and there is room for the others.
  pub record Dropping (dropped : List C) (old now : List (DatedClause C)) (capacity : ℕ) : Type 0 where
    pub same : kept now ≡ kept old
    pub once : IsPermutation (due old) (dropped ++ due now)
    pub room : length dropped + sum_by counted now ≤ capacity

  map-append : (xs ys : List (DatedClause C)) → map (λ d. d.clause) (xs ++ ys) ≡ map (λ d. d.clause) xs ++ map (λ d. d.clause) ys
  map-append [] ys = refl
  map-append (x ∷ xs) ys = ap (λ l. x.clause ∷ l) (map-append xs ys)

  due-append : (xs ys : List (DatedClause C)) → due (xs ++ ys) ≡ due xs ++ due ys
  due-append xs ys = ap (map (λ d. d.clause)) (filter-append (is_droppable floor) xs ys) ∙ map-append (filter (is_droppable floor) xs) (filter (is_droppable floor) ys)

  due-cons : (d : DatedClause C) (ds : List (DatedClause C)) → is_droppable floor d ≡ true → due (d ∷ ds) ≡ d.clause ∷ due ds
  due-cons d ds h = ap (λ b. map (λ d. d.clause) (cond b (d ∷ filter (is_droppable floor) ds) (filter (is_droppable floor) ds))) h

  kept-cons : (d : DatedClause C) (ds : List (DatedClause C)) → is_droppable floor d ≡ true → kept (d ∷ ds) ≡ kept ds
  kept-cons d ds h = ap (λ b. cond (not b) (d ∷ kept ds) (kept ds)) h

  counted-droppable : (d : DatedClause C) → is_droppable floor d ≡ true → counted d ≡ 1
  counted-droppable d h = ap one (go d.erased h)
    where
      go : (e : Option ℕ) → option_map_or (λ k. nat_lt k floor) e false ≡ true → is_some e ≡ true
      go None n = absurd (false≢true n)
      go (Some k) n = refl

  pub dropping_start : (ds : List (DatedClause C)) (capacity : ℕ) → sum_by counted ds ≤ capacity → Dropping [] ds ds capacity
  dropping_start ds capacity l = record { same = refl; once = IsPermutation-refl (due ds); room = omega arith }

  -- How many erased clauses there are with one more.
  pub counted_more : (x : DatedClause C) (now next : List (DatedClause C)) → DropsOne floor x now next → sum_by counted now ≡ sum_by counted next + 1
  counted_more x now next d =
      let a = ap (λ l. sum_by counted l) d.whole ∙ sum_by-append counted d.before (x ∷ d.after) in
      let b = ap (λ l. sum_by counted l) d.left ∙ sum_by-append counted d.before d.after in
      let e = sum_by-cons counted x d.after in
      let f = counted-droppable x d.droppable in
      omega (arith, a, b, e, f)

  pub dropping_more : (dropped : List C) (old now next : List (DatedClause C)) (capacity : ℕ) (x : DatedClause C) → Dropping dropped old now capacity → DropsOne floor x now next
      → Dropping (dropped ++ x.clause ∷ []) old next capacity
  dropping_more dropped old now next capacity x h d = record {
    same =
        ap kept d.left ∙ filter-append (λ d. not (is_droppable floor d)) d.before d.after
        ∙ ap (λ l. kept d.before ++ l) (sym (kept-cons x d.after d.droppable))
        ∙ sym (ap kept d.whole ∙ filter-append (λ d. not (is_droppable floor d)) d.before (x ∷ d.after))
        ∙ h.same;
    once =
        let left : IsPermutation (due now) (x.clause ∷ due next) =
        subst (λ l. IsPermutation l (x.clause ∷ due next)) (sym (ap due d.whole ∙ due-append d.before (x ∷ d.after) ∙ ap (λ l. due d.before ++ l) (due-cons x d.after d.droppable)))
        (subst (λ l. IsPermutation (due d.before ++ x.clause ∷ due d.after) (x.clause ∷ l)) (sym (ap due d.left ∙ due-append d.before d.after)) (IsPermutation-middle (due d.before) x.clause (due d.after))) in
        IsPermutation-pop_more (due old) dropped (due now) (due next) x.clause h.once left;
    room =
        let n = counted_more x now next d in
        let r = h.room in
        omega (arith, n, r, length-append dropped (x.clause ∷ []));
  }

  -- More room.
  pub dropping_room : (dropped : List C) (old now : List (DatedClause C)) (capacity more : ℕ) → capacity ≤ more → Dropping dropped old now capacity → Dropping dropped old now more
  dropping_room dropped old now capacity more l h = let r = h.room in record { same = h.same; once = h.once; room = omega (arith, l, r) }

  none_due : (ds : List (DatedClause C)) → list_any (is_droppable floor) ds ≡ false → (due ds ≡ []) × (kept ds ≡ ds)
  none_due [] h = (refl, refl)
  none_due (d ∷ ds) h = go (is_droppable floor d) refl h (none_due ds)
    where
      go : (b : Bool) → is_droppable floor d ≡ b → (b || list_any (is_droppable floor) ds) ≡ false → (list_any (is_droppable floor) ds ≡ false → (due ds ≡ []) × (kept ds ≡ ds)) → (due (d ∷ ds) ≡ []) × (kept (d ∷ ds) ≡ d ∷ ds)
      go true e n next = absurd (false≢true (sym n))
      go false e n next = (
        ap (λ b. map (λ d. d.clause) (cond b (d ∷ filter (is_droppable floor) ds) (filter (is_droppable floor) ds))) e ∙ (next n).0,
        ap (λ b. cond (not b) (d ∷ kept ds) (kept ds)) e ∙ ap (λ l. d ∷ l) (next n).1,
      )

  -- All that are due are dropped.
  pub dropping_end : (dropped : List C) (old now : List (DatedClause C)) (capacity : ℕ) → Dropping dropped old now capacity → list_any (is_droppable floor) now ≡ false → Reclaims floor dropped old now
  dropping_end dropped old now capacity h none =
      let n = none_due now none in
      record {
        kept = sym n.1 ∙ h.same;
        once = subst (λ l. IsPermutation (due old) l) (ap (λ l. dropped ++ l) n.0 ∙ append-nil dropped) h.once;
      }

  -- What is dropped is seen by no generation at or above the floor.
  unseen : (g : ℕ) (d : DatedClause C) → floor ≤ g → is_droppable floor d ≡ true → is_visible g d ≡ false
  unseen g d l h = go d.erased h (nat_lt d.place g)
    where
      go : (e : Option ℕ) → option_map_or (λ k. nat_lt k floor) e false ≡ true → (b : Bool) → (b && option_map_or (λ k. nat_le g k) e true) ≡ false
      go None n b = absurd (false≢true n)
      go (Some k) n false = refl
      go (Some k) n true = ends (nat_le g k) refl
        where
          ends : (c : Bool) → nat_le g k ≡ c → nat_le g k ≡ false
          ends true e = absurd (let a : k < floor = ltb-true k floor n in let b : g ≤ k = leb-true g k e in omega arith)
          ends false e = e

  pub views_stay : (g : ℕ) (ds : List (DatedClause C)) → floor ≤ g → filter (is_visible g) (kept ds) ≡ filter (is_visible g) ds
  views_stay g [] l = refl
  views_stay g (d ∷ ds) l = go (is_droppable floor d) refl (views_stay g ds l)
    where
      go : (b : Bool) → is_droppable floor d ≡ b → filter (is_visible g) (kept ds) ≡ filter (is_visible g) ds → filter (is_visible g) (kept (d ∷ ds)) ≡ filter (is_visible g) (d ∷ ds)
      go true e next =
          ap (λ b. filter (is_visible g) (cond (not b) (d ∷ kept ds) (kept ds))) e ∙ next
          ∙ sym (ap (λ b. cond b (d ∷ filter (is_visible g) ds) (filter (is_visible g) ds)) (unseen g d l e))
      go false e next =
          ap (λ b. filter (is_visible g) (cond (not b) (d ∷ kept ds) (kept ds))) e
          ∙ ap (λ l. cond (is_visible g d) (d ∷ l) l) next
