-- A procedure that is abolished, beside the same in the databases of the definitions.
use Rattle.std.proofs.Common.{◌≡◌, ◌+◌, ◌-◌, ◌<◌, ◌≤◌, ℕ, List, [], ◌∷◌, ◌++◌, filter, find, map, Option, Some, None, Bool, true, false, cond, not, ◌&&◌, ◌||◌, refl, ap, ap₂, sym, subst, ◌∙◌, arith, le-ltb, le-leb}
use Rattle.std.specs.Prelude.{All, nat_lt, is_some, slice_set}
use Rattle.std.specs.Result.{OnErr}
use Rattle.std.specs.declared.result.Result.{Result}
use Rattle.std.specs.declared.result.Result.TheVariants.{Ok, Err}
use Rattle.std.specs.Option.{option_map, option_map_or, option_and_then}
use Rattle.std.specs.BTreeMap.{BTreeMap}
use Rattle.std.proofs.lemmas.Bool.{false≢true}
use Rattle.std.proofs.lemmas.List.{map-append}
use Rattle.std.proofs.lemmas.List.Elements.{All-map, All-weaker, All-push}
use Rattle.std.proofs.lemmas.List.Sums.{sum_by-cons}
use Rattle.pl_model.specs.History as entries
use Rattle.pl_model.specs.Predicates.{same_proc}
use Rattle.pl_model.specs.Database as database
use Rattle.pl_model.specs.Database.{Database, Procedure, Stored, is_of, is_erased, cells_of, erased_where, without_procedure}
use Rattle.gen_core.specs.declared.dated_clause.DatedClause.{DatedClause}
use Rattle.gen_core.specs.Visible.{is_live, erased_all, live_size}
use Rattle.clause_db.specs.declared.access.Access.{Access}
use Rattle.clause_db.specs.declared.access.Life.{Life}
use Rattle.clause_db.specs.declared.db.Home.{Home}
use Rattle.clause_db.specs.declared.parts.ProcedureClauses.{ProcedureClauses}
use Rattle.clause_db.specs.Located.{IsAt}
use Rattle.clause_db.specs.Access.{access_of, is_alive, life_at}
use Rattle.clause_db.specs.Parts.{Held, Piece, piece, is_part_of, clauses_at, access_when, piece_access, access_now, changed_in}
use Rattle.clause_db.specs.Sound.{IsSound, Apart}
use Rattle.clause_db.specs.Stands.{dated, is_gone, Keeps, StandsNow, StandsFor, LivedBelow, then_at}
use Rattle.clause_db.specs.Abolished.{buried, closed, live_cells, abolished_held}
use Rattle.clause_db.proofs.Searched.{located_set}
use Rattle.clause_db.proofs.Pieces.{test}
use Rattle.clause_db.proofs.Procs.{is_same}
use Rattle.clause_db.proofs.Standing.{same_false}
use Rattle.clause_db.proofs.Homes.{IsHome}
use Rattle.clause_db.proofs.Adding.{listed_access}
use Rattle.clause_db.proofs.Changing.{changed_if, left_so, find_changed, told_changed, all_changed, names_changed, homed_changed}
use Rattle.clause_db.proofs.Lives.{lived_all}
use Rattle.clause_db.proofs.Marking.{marked, is_marked, of_same, once_marked, before_marked}
use Rattle.clause_db.proofs.Settings.{sound_set}
use Rattle.clause_db.proofs.Updating.{view_erased, updated}

-- Procedures

listed_without : (p q : entries.Proc) (rs : List Procedure) → listed_access (filter (λ (r : Procedure). not (same_proc r.indicator p)) rs) q ≡ cond (same_proc p q) None (listed_access rs q)
listed_without p q [] = both (same_proc p q)
  where
    both : (b : Bool) → ◌≡◌ {A = Option database.Access} None (cond b None None)
    both true = refl
    both false = refl
listed_without p q (r ∷ rs) = go (same_proc r.indicator p) refl (same_proc r.indicator q) refl (listed_without p q rs)
  where
    left : List Procedure
    left = filter (λ (r : Procedure). not (same_proc r.indicator p)) rs

    of : Option Procedure → Option database.Access
    of o = option_map (λ (r : Procedure). r.access) o

    go : (b : Bool) → same_proc r.indicator p ≡ b → (m : Bool) → same_proc r.indicator q ≡ m → listed_access left q ≡ cond (same_proc p q) None (listed_access rs q)
        → listed_access (cond (not b) (r ∷ left) left) q ≡ cond (same_proc p q) None (of (cond (same_proc r.indicator q) (Some r) (find (λ (r : Procedure). same_proc r.indicator q) rs)))
    go true e m u ih =
        let n : same_proc p q ≡ m = ap (λ x. same_proc x q) (sym (is_same r.indicator p e)) ∙ u in
        ih
        ∙ ap (λ b. cond b None (listed_access rs q)) n
        ∙ own m
        ∙ sym (ap (λ b. cond b None (of (cond (same_proc r.indicator q) (Some r) (find (λ (r : Procedure). same_proc r.indicator q) rs)))) n
        ∙ ap (λ b. cond m None (of (cond b (Some r) (find (λ (r : Procedure). same_proc r.indicator q) rs)))) u)
      where
        own : (m : Bool) → cond m None (listed_access rs q) ≡ cond m None (of (cond m (Some r) (find (λ (r : Procedure). same_proc r.indicator q) rs)))
        own true = refl
        own false = refl
    go false e true u ih =
        ap (λ b. of (cond b (Some r) (find (λ (r : Procedure). same_proc r.indicator q) left))) u
        ∙ sym (ap (λ b. cond b None (of (cond (same_proc r.indicator q) (Some r) (find (λ (r : Procedure). same_proc r.indicator q) rs)))) (other (same_proc p q) refl)
        ∙ ap (λ b. of (cond b (Some r) (find (λ (r : Procedure). same_proc r.indicator q) rs))) u)
      where
        other : (b : Bool) → same_proc p q ≡ b → same_proc p q ≡ false
        other false w = w
        other true w = absurd (false≢true (sym e ∙ ap (λ x. same_proc r.indicator x) (is_same p q w) ∙ u))
    go false e false u ih =
        ap (λ b. of (cond b (Some r) (find (λ (r : Procedure). same_proc r.indicator q) left))) u
        ∙ ih
        ∙ sym (ap (λ b. cond (same_proc p q) None (of (cond b (Some r) (find (λ (r : Procedure). same_proc r.indicator q) rs)))) u)

-- Lives

life_push : (o : Option Access) (g : ℕ) (ls : List Life) (l : Life) → life_at o g (ls ++ l ∷ []) ≡ cond (is_alive g l) (Some l.access) (life_at o g ls)
life_push o g [] l = refl
life_push o g (m ∷ ls) l = life_push (cond (is_alive g m) (Some m.access) o) g ls l

module _ {C : Type 0} where
  closed_before : (g k : ℕ) → g ≤ k → (x : Piece C) → piece_access g (closed k x) ≡ piece_access g x
  closed_before g k le x = go x.access
    where
      go : (o : Option Access) → life_at None g (buried o x.since k x.lives) ≡ access_when o x.since g x.lives
      go None = refl
      go (Some a) =
          life_push None g x.lives (record { access = a; from = x.since; until = k })
          ∙ ap (λ b. cond (nat_lt x.since g && b) (Some a) (life_at None g x.lives)) (le-leb g k le)
          ∙ and (nat_lt x.since g)
        where
          and : (b : Bool) → cond (b && true) (Some a) (life_at None g x.lives) ≡ cond b (Some a) (life_at None g x.lives)
          and true = refl
          and false = refl

  closed_lived : (n k : ℕ) → k < n → (x : Piece C) → LivedBelow n x → LivedBelow n (closed k x)
  closed_lived n k lt x h = (h.0, go x.access)
    where
      go : (o : Option Access) → All (λ l. l.until < n) (buried o x.since k x.lives)
      go None = h.1
      go (Some a) = All-push (λ (l : Life). l.until < n) x.lives (record { access = a; from = x.since; until = k }) h.1 lt

  -- Clauses

  abbrev keep : ℕ → List (Stored C) → List (DatedClause C)
  keep from ss = map dated (filter (λ s. not (is_gone from s)) ss)

  abbrev always : Stored C → Bool
  always s = true

  own_closed : (k : ℕ) (p : entries.Proc) (ss : List (Stored C)) → filter (is_of p) (map (erased_where (is_of p) k) ss) ≡ map (erased_where always k) (filter (is_of p) ss)
  own_closed k p [] = refl
  own_closed k p (s ∷ ss) =
      ap (λ b. cond b (erased_where (is_of p) k s ∷ filter (is_of p) (map (erased_where (is_of p) k) ss)) (filter (is_of p) (map (erased_where (is_of p) k) ss))) (of_same (is_of p) k p s (is_marked (is_of p) k s))
      ∙ go (is_of p s) refl (own_closed k p ss)
    where
      go : (b : Bool) → is_of p s ≡ b → filter (is_of p) (map (erased_where (is_of p) k) ss) ≡ map (erased_where always k) (filter (is_of p) ss)
          → cond b (erased_where (is_of p) k s ∷ filter (is_of p) (map (erased_where (is_of p) k) ss)) (filter (is_of p) (map (erased_where (is_of p) k) ss)) ≡ map (erased_where always k) (cond b (s ∷ filter (is_of p) ss) (filter (is_of p) ss))
      go true e ih = ap₂ (λ x l. x ∷ l) (ap (λ b. cond (b && not (is_erased s)) (marked k s) s) e) ih
      go false e ih = ih

  other_closed : (k : ℕ) (p q : entries.Proc) → same_proc p q ≡ false → (ss : List (Stored C)) → filter (is_of q) (map (erased_where (is_of p) k) ss) ≡ filter (is_of q) ss
  other_closed k p q a [] = refl
  other_closed k p q a (s ∷ ss) =
      ap (λ b. cond b (erased_where (is_of p) k s ∷ filter (is_of q) (map (erased_where (is_of p) k) ss)) (filter (is_of q) (map (erased_where (is_of p) k) ss))) (of_same (is_of p) k q s (is_marked (is_of p) k s))
      ∙ go (is_of q s) refl (other_closed k p q a ss)
    where
      go : (b : Bool) → is_of q s ≡ b → filter (is_of q) (map (erased_where (is_of p) k) ss) ≡ filter (is_of q) ss
          → cond b (erased_where (is_of p) k s ∷ filter (is_of q) (map (erased_where (is_of p) k) ss)) (filter (is_of q) (map (erased_where (is_of p) k) ss)) ≡ cond b (s ∷ filter (is_of q) ss) (filter (is_of q) ss)
      go true e ih =
          let n : is_of p s ≡ false = ap (λ r. same_proc r p) (is_same s.procedure q e) ∙ same_false p q a in
          ap₂ (λ x l. x ∷ l) (ap (λ b. cond (b && not (is_erased s)) (marked k s) s) n) ih
      go false e ih = ih

  always_kept : (from k : ℕ) → from ≤ k → (ss : List (Stored C)) → keep from (map (erased_where always k) ss) ≡ map (erased_all k) (keep from ss)
  always_kept from k le [] = refl
  always_kept from k le (s ∷ ss) = here s.place s.procedure s.clause s.erased (always_kept from k le ss)
    where
      more : List (Stored C)
      more = map (erased_where always k) ss

      left : List (Stored C) → List (Stored C)
      left us = filter (λ u. not (is_gone from u)) us

      here : (n : ℕ) (r : entries.Proc) (c : C) (o : Option ℕ) → keep from more ≡ map (erased_all k) (keep from ss)
          → let u : Stored C = record { place = n; procedure = r; clause = c; erased = o }
          in map dated (cond (not (is_gone from (erased_where always k u))) (erased_where always k u ∷ left more) (left more)) ≡ map (erased_all k) (map dated (cond (not (is_gone from u)) (u ∷ left ss) (left ss)))
      here n r c None ih =
          ap (λ b. map dated (cond (not b) (record { place = n; procedure = r; clause = c; erased = Some k } ∷ left more) (left more))) (le-ltb k from le)
          ∙ ap (λ l. record { place = n; clause = c; erased = Some k } ∷ l) ih
      here n r c (Some j) ih = go (nat_lt j from)
        where
          u : Stored C
          u = record { place = n; procedure = r; clause = c; erased = Some j }

          go : (b : Bool) → map dated (cond (not b) (u ∷ left more) (left more)) ≡ map (erased_all k) (map dated (cond (not b) (u ∷ left ss) (left ss)))
          go true = ih
          go false = ap (λ l. dated u ∷ l) ih

  kept_closed : (from k : ℕ) (p q : entries.Proc) → from ≤ k → (ss : List (Stored C))
      → keep from (filter (is_of q) (map (erased_where (is_of p) k) ss)) ≡ cond (same_proc p q) (map (erased_all k) (keep from (filter (is_of q) ss))) (keep from (filter (is_of q) ss))
  kept_closed from k p q le ss = go (same_proc p q) refl
    where
      go : (b : Bool) → same_proc p q ≡ b
          → keep from (filter (is_of q) (map (erased_where (is_of p) k) ss)) ≡ cond b (map (erased_all k) (keep from (filter (is_of q) ss))) (keep from (filter (is_of q) ss))
      go true e =
          ap (λ r. keep from (filter (is_of r) (map (erased_where (is_of p) k) ss))) (sym (is_same p q e))
          ∙ ap (keep from) (own_closed k p ss)
          ∙ always_kept from k le (filter (is_of p) ss)
          ∙ ap (λ r. map (erased_all k) (keep from (filter (is_of r) ss))) (is_same p q e)
      go false e = ap (keep from) (other_closed k p q e ss)

  cells_closed : (need : C → ℕ) (from k : ℕ) (p : entries.Proc) (ss : List (Stored C))
      → live_cells need (keep from (filter (is_of p) ss)) + cells_of need (map (erased_where (is_of p) k) ss) ≡ cells_of need ss
  cells_closed need from k p [] = refl
  cells_closed need from k p (s ∷ ss) = here s.place s.procedure s.clause s.erased (same_proc s.procedure p) refl (cells_closed need from k p ss)
    where
      ours : List (Stored C)
      ours = filter (is_of p) ss

      rest : ℕ
      rest = cells_of need (map (erased_where (is_of p) k) ss)

      here : (n : ℕ) (r : entries.Proc) (c : C) (o : Option ℕ) (b : Bool) → same_proc r p ≡ b → live_cells need (keep from ours) + rest ≡ cells_of need ss
          → let u : Stored C = record { place = n; procedure = r; clause = c; erased = o }
          in live_cells need (keep from (cond (same_proc r p) (u ∷ ours) ours)) + cells_of need (cond (same_proc r p && not (is_some o)) (marked k u) u ∷ map (erased_where (is_of p) k) ss) ≡ cells_of need (u ∷ ss)
      here n r c None true e ih =
          let one = sum_by-cons (live_size need) (record { place = n; clause = c; erased = None }) (keep from ours) in rw e (omega (arith, ih, one))
      here n r c None false e ih = rw e (omega (arith, ih))
      here n r c (Some j) false e ih = rw e ih
      here n r c (Some j) true e ih = rw e (go (nat_lt j from))
        where
          u : Stored C
          u = record { place = n; procedure = r; clause = c; erased = Some j }

          go : (b : Bool) → live_cells need (map dated (cond (not b) (u ∷ filter (λ s. not (is_gone from s)) ours) (filter (λ s. not (is_gone from s)) ours))) + rest ≡ cells_of need ss
          go true = ih
          go false = ih

  clauses_closed : (k : ℕ) (p q : entries.Proc) (xs : List (Piece C)) → clauses_at (changed_in (closed k) p xs) q ≡ cond (same_proc p q) (map (erased_all k) (clauses_at xs q)) (clauses_at xs q)
  clauses_closed k p q xs = ap of (find_changed (closed k) (λ x. refl) p q xs) ∙ go (same_proc p q) (find (is_part_of q) xs)
    where
      of : Option (Piece C) → List (DatedClause C)
      of o = option_map_or (λ (x : Piece C). x.clauses) o []

      go : (b : Bool) (o : Option (Piece C)) → of (option_map (changed_if (closed k) (λ x. refl) b) o) ≡ cond b (map (erased_all k) (of o)) (of o)
      go true None = refl
      go true (Some x) = refl
      go false None = refl
      go false (Some x) = refl

  module _ (need : C → ℕ) (h : Held C) (d : ℕ → Database C) (s : StandsFor need h d) (k : ℕ) (l : h.next ≤ k) (p : entries.Proc) where
    low : h.floor ≤ k
    low = let m = s.low in omega (arith, m, l)

    access_closed : (q : entries.Proc) → option_map access_of (access_now (changed_in (closed k) p h.parts) q) ≡ listed_access (without_procedure p k (d h.next)).procedures q
    access_closed q =
        ap of (find_changed (closed k) (λ x. refl) p q h.parts) ∙ go (same_proc p q) ∙ sym (listed_without p q (d h.next).procedures)
      where
        of : Option (Piece C) → Option database.Access
        of o = option_map access_of (option_and_then (λ (x : Piece C). x.access) o)

        go : (b : Bool) → of (option_map (changed_if (closed k) (λ x. refl) b) (find (is_part_of q) h.parts)) ≡ cond b None (listed_access (d h.next).procedures q)
        go true = by (find (is_part_of q) h.parts)
          where
            by : (o : Option (Piece C)) → of (option_map (changed_if (closed k) (λ x. refl) true) o) ≡ None
            by None = refl
            by (Some x) = refl
        go false = ap of (left_so (closed k) (λ x. refl) (find (is_part_of q) h.parts)) ∙ s.newest.access q

    kept : (q : entries.Proc) → Keeps h.floor q (without_procedure p k (d h.next)) (clauses_at (changed_in (closed k) p h.parts) q)
    kept q =
        let t = s.newest.clauses q in
        let m = t.low in
        record {
          from = t.from;
          low = t.low;
          are =
              clauses_closed k p q h.parts
              ∙ ap (λ ds. cond (same_proc p q) (map (erased_all k) ds) ds) t.are
              ∙ sym (kept_closed t.from k p q (omega (arith, m, low)) (d h.next).clauses);
        }

    now : StandsNow need (abolished_held need k p h) (without_procedure p k (d h.next))
    now = record {
      access = access_closed;
      clauses = kept;
      used =
          (let t = s.newest.clauses p in
          let e = cells_closed need t.from k p (d h.next).clauses in
          let f = ap (live_cells need) t.are in
          let u = s.newest.used in omega (arith, e, f, u));
      before = before_marked (is_of p) k h.next (k + 1) (omega (arith, l)) (d h.next).clauses s.newest.before;
      once = λ m. let e = once_marked (is_of p) k m (d h.next).clauses in let o = s.newest.once m in omega (arith, e, o);
    }

    pub stands_closed : StandsFor need (abolished_held need k p h) (then_at k (without_procedure p k) d)
    stands_closed =
        updated need h d s k l (without_procedure p k) (changed_in (closed k) p h.parts) (h.used - live_cells need (clauses_at h.parts p)) h.flags h.operators now
        (λ g m q. told_changed (closed k) (λ x. refl) (option_and_then (piece_access g)) (λ x. closed_before g k m x) p q h.parts)
        (λ g m q. view_erased (is_of p) k g q (d h.next).clauses m)
        (all_changed (closed k) (λ x. refl) (LivedBelow (k + 1)) (λ x m. closed_lived (k + 1) k (omega arith) x m) p h.parts (lived_all h.next k l h.parts s.lived))

  pub sound_closed : (need : C → ℕ) (homes : BTreeMap ℕ Home) (next floor k : ℕ) (p : entries.Proc) (xs : List (Piece C)) → IsSound need xs homes next floor → next ≤ k → IsSound need (changed_in (closed k) p xs) homes (k + 1) floor
  sound_closed need homes next floor k p xs s l =
      let t = sound_set need homes next floor k xs s l in
      record {
        homed = homed_changed (closed k) (λ x. refl) need homes (λ n x m. erased_keeps (IsHome need homes n) (λ d u. u) x.clauses m) 0 p xs t.homed;
        later = all_changed (closed k) (λ x. refl) Later (λ x m. erased_keeps (λ d. d.place < k + 1) (λ d u. u) x.clauses m) p xs t.later;
        low = t.low;
        apart = subst Apart (sym (names_changed (closed k) (λ x. refl) p xs)) t.apart;
      }
    where
      Later : Piece C → Type 0
      Later x = All (λ d. d.place < k + 1) x.clauses

      erased_keeps : (P : DatedClause C → Type 0) → ((d : DatedClause C) → P d → P (record d { erased = Some k })) → (ds : List (DatedClause C)) → All P ds → All P (map (erased_all k) ds)
      erased_keeps P keeps ds h = All-map P (erased_all k) ds (All-weaker P (λ d. P (erased_all k d)) (λ d m. go d m (is_live d)) ds h)
        where
          go : (d : DatedClause C) → P d → (b : Bool) → P (cond b (record d { erased = Some k }) d)
          go d m true = keeps d m
          go d m false = m

  -- The procedures as a list of parts.
  module _ {K : Type 0} (p : entries.Proc) (xs : List (ProcedureClauses C K)) where
    pub same_found : (i : ℕ) (z : ProcedureClauses C K) (at : IsAt (test p) xs i) → piece z ≡ piece at.item → map piece (slice_set xs i z) ≡ map piece xs
    same_found i z at is =
        ap (map piece) (located_set (test p) xs i z at)
        ∙ map-append piece at.before (z ∷ at.after)
        ∙ ap (λ y. map piece at.before ++ y ∷ map piece at.after) is
        ∙ sym (map-append piece at.before (at.item ∷ at.after))
        ∙ sym (ap (map piece) at.whole)

pub on_err : {T E : Type 0} (r : Result T E) (P Q : Type 0) → (P → Q) → OnErr r P → OnErr r Q
on_err (Ok x) P Q f h = tt
on_err (Err e) P Q f h = f h

pub or_none : (b : Bool) → b ≡ (b || false)
or_none true = refl
or_none false = refl
