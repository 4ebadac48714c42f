-- The homes are those of clauses that are stored.
use Rattle.std.proofs.Common.{◌≡◌, ◌<◌, ◌||◌, ◌&&◌, ℕ, zero, suc, Bool, true, false, cond, not, find, filter, List, [], ◌∷◌, ◌++◌, map, length, Option, Some, None, refl, sym, ap, ap₂, subst, ◌∙◌, arith}
use Rattle.std.specs.Prelude.{◌==◌, IfSome, is_some}
use Rattle.std.specs.List.{list_any, slice_get}
use Rattle.std.specs.Option.{option_map_or}
use Rattle.std.specs.Ordering.{nat_cmp}
use Rattle.std.specs.BTreeMap as tree
use Rattle.std.specs.BTreeMap.{BTreeMap, is_at}
use Rattle.std.proofs.lemmas.Bool.{false≢true}
use borrow.Author.Tests.{eqb-true}
use Rattle.pl_model.specs.History as entries
use Rattle.pl_model.specs.laws.Shown.{proc_of}
use Rattle.pl_model.specs.declared.shows.Proc.{Proc}
use Rattle.gen_core.specs.declared.dated_clause.DatedClause.{DatedClause}
use Rattle.gen_core.specs.Visible.{fresh, erased_all, erased_by, is_live, is_droppable, is_droppable_at}
use Rattle.clause_db.specs.declared.access.Access.TheVariants.{Dynamic}
use Rattle.clause_db.specs.declared.db.Home.{Home}
use Rattle.clause_db.specs.declared.parts.Addition.{Addition}
use Rattle.clause_db.specs.declared.parts.End.{End}
use Rattle.clause_db.specs.declared.parts.End.TheVariants.{First, Last}
use Rattle.clause_db.specs.Abolished.{closed}
use Rattle.clause_db.specs.Dynamic.{with_blank, with_blanks, opened_all}
use Rattle.clause_db.specs.Parts.{Piece, blank, is_part_of, placed, added_to, with_clause, opened, changed_in, without_at}
use Rattle.clause_db.specs.Reclaimed.{is_left, reclaimed_at, IsDropped}
use Rattle.clause_db.specs.Sound.{Housed, has_place}
use Rattle.clause_db.proofs.Homes.{elsewhere}

or_swap : (a b c : Bool) → (a || (b || c)) ≡ (b || (a || c))
or_swap true true c = refl
or_swap true false c = refl
or_swap false b c = refl

or_in : (a b c : Bool) → ((a || b) || c) ≡ (a || (b || c))
or_in true b c = refl
or_in false b c = refl

or_true : (a : Bool) → (a || true) ≡ true
or_true true = refl
or_true false = refl

module _ {C : Type 0} (k : ℕ) where
  abbrev has : List (DatedClause C) → Bool
  has ds = list_any (λ d. d.place == k) ds

  has_pushed : (ds : List (DatedClause C)) (d : DatedClause C) → has (ds ++ d ∷ []) ≡ ((d.place == k) || has ds)
  has_pushed [] d = refl
  has_pushed (e ∷ ds) d = ap (λ b. (e.place == k) || b) (has_pushed ds d) ∙ or_swap (e.place == k) (d.place == k) (has ds)

  has_placed : (e : End) (d : DatedClause C) (ds : List (DatedClause C)) → has (placed e d ds) ≡ ((d.place == k) || has ds)
  has_placed First d ds = refl
  has_placed Last d ds = has_pushed ds d

  has_map : (f : DatedClause C → DatedClause C) → ((d : DatedClause C) → (f d).place ≡ d.place) → (ds : List (DatedClause C)) → has (map f ds) ≡ has ds
  has_map f same [] = refl
  has_map f same (d ∷ ds) = ap₂ (λ n b. (n == k) || b) (same d) (has_map f same ds)

  -- With one clause more.
  pub has_with : (a : Addition) (p : Proc) (c : C) (xs : List (Piece C)) → has_place k (with_clause a p c xs) ≡ ((a.place == k) || has_place k xs)
  has_with a p c [] = ap (λ b. b || false) (has_placed a.end (fresh a.place c) []) ∙ or_in (a.place == k) false false
  has_with a p c (x ∷ xs) = go (is_part_of (proc_of p) x) (has_with a p c xs)
    where
      go : (b : Bool) → has_place k (with_clause a p c xs) ≡ ((a.place == k) || has_place k xs)
          → has_place k (cond b (added_to a c x ∷ xs) (x ∷ with_clause a p c xs)) ≡ ((a.place == k) || (has x.clauses || has_place k xs))
      go true ih = ap (λ b. b || has_place k xs) (has_placed a.end (fresh a.place c) x.clauses) ∙ or_in (a.place == k) (has x.clauses) (has_place k xs)
      go false ih = ap (λ b. has x.clauses || b) ih ∙ or_swap (has x.clauses) (a.place == k) (has_place k xs)

  has_changed : (f : Piece C → Piece C) → ((x : Piece C) → has (f x).clauses ≡ has x.clauses) → (p : entries.Proc) (xs : List (Piece C)) → has_place k (changed_in f p xs) ≡ has_place k xs
  has_changed f same p [] = refl
  has_changed f same p (x ∷ xs) = go (is_part_of p x) (has_changed f same p xs)
    where
      go : (b : Bool) → has_place k (changed_in f p xs) ≡ has_place k xs → has_place k (cond b (f x ∷ xs) (x ∷ changed_in f p xs)) ≡ (has x.clauses || has_place k xs)
      go true ih = ap (λ b. b || has_place k xs) (same x)
      go false ih = ap (λ b. has x.clauses || b) ih

  pub has_closed : (j : ℕ) (p : entries.Proc) (xs : List (Piece C)) → has_place k (changed_in (closed j) p xs) ≡ has_place k xs
  has_closed j p xs = has_changed (closed j) (λ x. has_map (erased_all j) (λ d. go d (is_live d)) x.clauses) p xs
    where
      go : (d : DatedClause C) (b : Bool) → (cond b (record d { erased = Some j }) d).place ≡ d.place
      go d true = refl
      go d false = refl

  pub has_opened : (j : ℕ) (ps : List Proc) (xs : List (Piece C)) → has_place k (opened_all j ps xs) ≡ has_place k xs
  has_opened j [] xs = refl
  has_opened j (p ∷ ps) xs = has_opened j ps (changed_in (opened j Dynamic) (proc_of p) xs) ∙ has_changed (opened j Dynamic) (λ x. refl) (proc_of p) xs

  has_append : (p : Proc) (xs : List (Piece C)) → has_place k (xs ++ blank p ∷ []) ≡ has_place k xs
  has_append p [] = refl
  has_append p (x ∷ xs) = ap (λ b. has x.clauses || b) (has_append p xs)

  has_blank : (p : Proc) (xs : List (Piece C)) → has_place k (with_blank p xs) ≡ has_place k xs
  has_blank p xs = go (find (is_part_of (proc_of p)) xs)
    where
      go : (o : Option (Piece C)) → has_place k (option_map_or (λ x. xs) o (xs ++ blank p ∷ [])) ≡ has_place k xs
      go None = has_append p xs
      go (Some x) = refl

  pub has_blanks : (ps : List Proc) (xs : List (Piece C)) → has_place k (with_blanks ps xs) ≡ has_place k xs
  has_blanks [] xs = refl
  has_blanks (p ∷ ps) xs = has_blanks ps (with_blank p xs) ∙ has_blank p xs

  pub has_without : (i j l : ℕ) (xs : List (Piece C)) → has_place k (without_at i j l xs) ≡ has_place k xs
  has_without i j l [] = refl
  has_without zero j l (x ∷ xs) = ap (λ b. b || has_place k xs) (has_map (erased_by j l) (λ d. go d ((d.place == j) && is_live d)) x.clauses)
    where
      go : (d : DatedClause C) (b : Bool) → (cond b (record d { erased = Some l }) d).place ≡ d.place
      go d true = refl
      go d false = refl
  has_without (suc i) j l (x ∷ xs) = ap (λ b. has x.clauses || b) (has_without i j l xs)

  -- A clause that is not dropped is left.
  has_left : (floor : ℕ) (ds : List (DatedClause C)) → has ds ≡ true → list_any (is_droppable_at floor k) ds ≡ false → has (filter (is_left floor) ds) ≡ true
  has_left floor [] h none = absurd (false≢true h)
  has_left floor (d ∷ ds) h none = go (d.place == k) refl (is_droppable floor d) h none (has_left floor ds)
    where
      rest : List (DatedClause C)
      rest = filter (is_left floor) ds

      go : (b : Bool) → (d.place == k) ≡ b → (e : Bool) → (b || has ds) ≡ true → ((b && e) || list_any (is_droppable_at floor k) ds) ≡ false
          → (has ds ≡ true → list_any (is_droppable_at floor k) ds ≡ false → has rest ≡ true) → has (cond (not e) (d ∷ rest) rest) ≡ true
      go true u true h n ih = absurd (false≢true (sym n))
      go true u false h n ih = ap (λ b. b || has rest) u
      go false u true h n ih = ih h n
      go false u false h n ih = ap (λ b. (d.place == k) || b) (ih h n) ∙ or_true (d.place == k)

  has_reclaimed : (floor i : ℕ) (xs : List (Piece C)) (x : Piece C) → slice_get xs i ≡ Some x → list_any (is_droppable_at floor k) x.clauses ≡ false
      → has_place k xs ≡ true → has_place k (reclaimed_at i floor xs) ≡ true
  has_reclaimed floor i [] x at none h = absurd (false≢true h)
  has_reclaimed floor zero (y ∷ xs) x at none h = go (has y.clauses) refl h
    where
      same : x.clauses ≡ y.clauses
      same = sym (ap (λ o. option_map_or (λ (z : Piece C). z.clauses) o []) at)

      go : (b : Bool) → has y.clauses ≡ b → (b || has_place k xs) ≡ true → (has (filter (is_left floor) y.clauses) || has_place k xs) ≡ true
      go true e m = ap (λ b. b || has_place k xs) (has_left floor y.clauses e (subst (λ ds. list_any (is_droppable_at floor k) ds ≡ false) same none))
      go false e m = ap (λ b. has (filter (is_left floor) y.clauses) || b) m ∙ or_true (has (filter (is_left floor) y.clauses))
  has_reclaimed floor (suc i) (y ∷ xs) x at none h = go (has y.clauses) h (has_reclaimed floor i xs x at none)
    where
      go : (b : Bool) → (b || has_place k xs) ≡ true → (has_place k xs ≡ true → has_place k (reclaimed_at i floor xs) ≡ true) → (b || has_place k (reclaimed_at i floor xs)) ≡ true
      go true m ih = refl
      go false m ih = ih m

module _ {C : Type 0} where
  is_there : (i : ℕ) (xs : List (Piece C)) → i < length xs → (x : Piece C) × (slice_get xs i ≡ Some x)
  is_there i [] l = absurd (omega (arith, l))
  is_there zero (x ∷ xs) l = (x, refl)
  is_there (suc i) (x ∷ xs) l = is_there i xs (omega (arith, l))

  -- The homes stay, and each clause has a place as before.
  pub housed_same : (homes : BTreeMap ℕ Home) (xs ys : List (Piece C)) → ((k : ℕ) → has_place k ys ≡ has_place k xs) → Housed homes xs → Housed homes ys
  housed_same homes xs ys same h k some = same k ∙ h k some

  pub housed_equal : (homes more : BTreeMap ℕ Home) (xs : List (Piece C)) → ((k : ℕ) → tree.get nat_cmp more k ≡ tree.get nat_cmp homes k) → Housed homes xs → Housed more xs
  housed_equal homes more xs same h k some = h k (ap is_some (sym (same k)) ∙ some)

  pub housed_with : (homes more : BTreeMap ℕ Home) (a : Addition) (p : Proc) (c : C) (xs : List (Piece C))
      → ((k : ℕ) → is_at (nat_cmp a.place) k ≡ false → tree.get nat_cmp more k ≡ tree.get nat_cmp homes k) → Housed homes xs → Housed more (with_clause a p c xs)
  housed_with homes more a p c xs same h k some = has_with k a p c xs ∙ go (a.place == k) refl
    where
      go : (b : Bool) → (a.place == k) ≡ b → (b || has_place k xs) ≡ true
      go true e = refl
      go false e = h k (ap is_some (sym (same k (elsewhere a.place k e))) ∙ some)

  pub housed_gone : (homes more : BTreeMap ℕ Home) (place : ℕ) (xs : List (Piece C)) → tree.get nat_cmp more place ≡ None
      → ((k : ℕ) → is_at (nat_cmp place) k ≡ false → tree.get nat_cmp more k ≡ tree.get nat_cmp homes k) → Housed homes xs → Housed more xs
  housed_gone homes more place xs none same h k some = go (place == k) refl
    where
      go : (b : Bool) → (place == k) ≡ b → has_place k xs ≡ true
      go true e = absurd (false≢true (sym (ap is_some (subst (λ n. tree.get nat_cmp more n ≡ None) (eqb-true place k e) none)) ∙ some))
      go false e = h k (ap is_some (sym (same k (elsewhere place k e))) ∙ some)

  pub housed_dropped : (homes more : BTreeMap ℕ Home) (floor i : ℕ) (xs : List (Piece C)) (places : List ℕ) (clauses : List C) → i < length xs
      → IfSome (slice_get xs i) (λ x. IsDropped floor x.clauses places clauses)
      → ((k : ℕ) → list_any (λ q. q == k) places ≡ false → tree.get nat_cmp more k ≡ tree.get nat_cmp homes k)
      → ((k : ℕ) → list_any (λ q. q == k) places ≡ true → tree.get nat_cmp more k ≡ None)
      → Housed homes xs → Housed more (reclaimed_at i floor xs)
  housed_dropped homes more floor i xs places clauses l drops stay gone h k some = go (list_any (λ q. q == k) places) refl
    where
      go : (b : Bool) → list_any (λ q. q == k) places ≡ b → has_place k (reclaimed_at i floor xs) ≡ true
      go true e = absurd (false≢true (sym (ap is_some (gone k e)) ∙ some))
      go false e =
          let x = is_there i xs l in
          let t : IsDropped floor x.0.clauses places clauses = subst (λ o. IfSome o (λ y. IsDropped floor y.clauses places clauses)) x.1 drops in
          has_reclaimed k floor i xs x.0 x.1 (sym (t.places_are k) ∙ e) (h k (ap is_some (sym (stay k e)) ∙ some))
