-- A clause more stands for the database of the definitions with that clause.
use Rattle.std.proofs.Common.{◌≡◌, ◌+◌, ◌<◌, ◌≤◌, ℕ, List, [], ◌∷◌, ◌++◌, find, map, length, Option, Some, None, Bool, true, false, cond, not, refl, ap, ap₂, sym, subst, ◌∙◌, arith, append-nil}
use Rattle.std.specs.Prelude.{All, filter, unwrap_or, ◌==◌, is_some}
use Rattle.std.specs.Option.{option_map, option_map_or, option_and_then}
use Rattle.std.proofs.lemmas.List.Elements.{All-cons, All-push, All-weaker, All-head, All-tail, filter-append}
use borrow.Author.Tests.{eqb-true}
use Rattle.pl_model.specs.History as entries
use Rattle.pl_model.specs.Predicates.{same_proc}
use Rattle.pl_model.specs.laws.Shown.{proc_of, origin_of}
use Rattle.pl_model.specs.Database as database
use Rattle.pl_model.specs.Database.{Database, Procedure, Stored, is_of, is_at, cells_of, used_cells, with_procedure, added_clause, with_first, with_last}
use Rattle.pl_model.specs.declared.shows.Proc.{Proc}
use Rattle.pl_model.specs.declared.shows.Origin.{Origin}
use Rattle.pl_model.specs.declared.shows.Origin.TheVariants.{Consult, Assert}
use Rattle.gen_core.specs.declared.dated_clause.DatedClause.{DatedClause}
use Rattle.gen_core.specs.Visible.{fresh}
use Rattle.clause_db.specs.declared.access.Access.{Access}
use Rattle.clause_db.specs.declared.parts.End.{End}
use Rattle.clause_db.specs.declared.parts.End.TheVariants.{First, Last}
use Rattle.clause_db.specs.declared.parts.Addition.{Addition}
use Rattle.clause_db.specs.Access.{access_of, access_by}
use Rattle.clause_db.specs.Parts.{Held, Piece, blank, is_part_of, clauses_at, access_now, placed, added_to, with_clause, with_added}
use Rattle.clause_db.specs.Stands.{dated, is_gone, Keeps, StandsNow}
use Rattle.clause_db.proofs.Procs.{amend, find_amend, is_same}
use Rattle.clause_db.proofs.Pieces.{find_with}

-- The definitions' database with a clause more.
abbrev pub with_stored : {C : Type 0} → End → ℕ → entries.Proc → C → entries.Origin → Database C → Database C
with_stored First k p c o d = with_first k p c o d
with_stored Last k p c o d = with_last k p c o d

access_by_same : (o : Origin) → access_of (access_by o) ≡ database.access_by (origin_of o)
access_by_same Consult = refl
access_by_same Assert = refl

pub opened_same : (a : Option Access) (b : Access) → access_of (unwrap_or a b) ≡ unwrap_or (option_map access_of a) (access_of b)
opened_same (Some a) b = refl
opened_same None b = refl

procedures_amended : (p : entries.Proc) (a : database.Access) (rs : List Procedure)
    → with_procedure p a rs ≡ amend (λ (r : Procedure). r.indicator) p (λ r. r) (record { indicator = p; access = a }) rs
procedures_amended p a [] = refl
procedures_amended p a (r ∷ rs) = ap (λ l. cond (same_proc r.indicator p) (r ∷ rs) (r ∷ l)) (procedures_amended p a rs)

abbrev pub listed_access : List Procedure → entries.Proc → Option database.Access
listed_access rs p = option_map (λ (r : Procedure). r.access) (find (λ (r : Procedure). same_proc r.indicator p) rs)

new_access : (a : database.Access) (p : entries.Proc) (o : Option Procedure)
    → (option_map_or (λ (r : Procedure). r) o (record { indicator = p; access = a })).access ≡ unwrap_or (option_map (λ (r : Procedure). r.access) o) a
new_access a p None = refl
new_access a p (Some r) = refl

pub access_with : (p : entries.Proc) (a : database.Access) (rs : List Procedure) (q : entries.Proc)
    → listed_access (with_procedure p a rs) q ≡ cond (same_proc p q) (Some (unwrap_or (listed_access rs p) a)) (listed_access rs q)
access_with p a rs q =
    ap (λ l. listed_access l q) (procedures_amended p a rs)
    ∙ ap (option_map (λ (r : Procedure). r.access)) (find_amend (λ (r : Procedure). r.indicator) p (λ r. r) (record { indicator = p; access = a }) (λ r. refl) refl q rs)
    ∙ go (same_proc p q) (find (λ (r : Procedure). same_proc r.indicator p) rs)
  where
    go : (b : Bool) (o : Option Procedure)
        → option_map (λ (r : Procedure). r.access) (cond b (Some (option_map_or (λ (r : Procedure). r) o (record { indicator = p; access = a }))) (find (λ (r : Procedure). same_proc r.indicator q) rs))
        ≡ cond b (Some (unwrap_or (option_map (λ (r : Procedure). r.access) o) a)) (listed_access rs q)
    go true o = ap (λ x. Some x) (new_access a p o)
    go false o = refl

module _ {C : Type 0} where
  held_access_with : (a : Addition) (p : Proc) (c : C) (xs : List (Piece C)) (q : entries.Proc)
      → access_now (with_clause a p c xs) q ≡ cond (same_proc (proc_of p) q) (Some (unwrap_or (access_now xs (proc_of p)) (access_by a.origin))) (access_now xs q)
  held_access_with a p c xs q =
      ap (option_and_then (λ (x : Piece C). x.access)) (find_with a p c xs q)
      ∙ go (same_proc (proc_of p) q) (find (is_part_of (proc_of p)) xs)
    where
      go : (b : Bool) (o : Option (Piece C))
          → option_and_then (λ (x : Piece C). x.access) (cond b (Some (option_map_or (added_to a c) o (added_to a c (blank p)))) (find (is_part_of q) xs))
          ≡ cond b (Some (unwrap_or (option_and_then (λ (x : Piece C). x.access) o) (access_by a.origin))) (access_now xs q)
      go true None = refl
      go true (Some x) = refl
      go false o = refl

  clauses_with : (a : Addition) (p : Proc) (c : C) (xs : List (Piece C)) (q : entries.Proc)
      → clauses_at (with_clause a p c xs) q ≡ cond (same_proc (proc_of p) q) (placed a.end (fresh a.place c) (clauses_at xs (proc_of p))) (clauses_at xs q)
  clauses_with a p c xs q =
      ap (λ o. option_map_or (λ (x : Piece C). x.clauses) o []) (find_with a p c xs q)
      ∙ go (same_proc (proc_of p) q) (find (is_part_of (proc_of p)) xs)
    where
      go : (b : Bool) (o : Option (Piece C))
          → option_map_or (λ (x : Piece C). x.clauses) (cond b (Some (option_map_or (added_to a c) o (added_to a c (blank p)))) (find (is_part_of q) xs)) []
          ≡ cond b (placed a.end (fresh a.place c) (option_map_or (λ (x : Piece C). x.clauses) o [])) (clauses_at xs q)
      go true None = refl
      go true (Some x) = refl
      go false o = refl

  -- What a list of stored clauses keeps with one more.
  abbrev kept_of : ℕ → entries.Proc → List (Stored C) → List (DatedClause C)
  kept_of from p ss = map dated (filter (λ s. not (is_gone from s)) (filter (is_of p) ss))

  kept_first : (from k : ℕ) (p q : entries.Proc) (c : C) (ss : List (Stored C))
      → kept_of from q (added_clause k p c ∷ ss) ≡ cond (same_proc p q) (fresh k c ∷ kept_of from q ss) (kept_of from q ss)
  kept_first from k p q c ss = go (same_proc p q)
    where
      go : (b : Bool) → map dated (filter (λ s. not (is_gone from s)) (cond b (added_clause k p c ∷ filter (is_of q) ss) (filter (is_of q) ss))) ≡ cond b (fresh k c ∷ kept_of from q ss) (kept_of from q ss)
      go true = refl
      go false = refl

  kept_last : (from k : ℕ) (p q : entries.Proc) (c : C) (ss : List (Stored C))
      → kept_of from q (ss ++ added_clause k p c ∷ []) ≡ cond (same_proc p q) (kept_of from q ss ++ fresh k c ∷ []) (kept_of from q ss)
  kept_last from k p q c [] = go (same_proc p q)
    where
      go : (b : Bool) → map dated (filter (λ s. not (is_gone from s)) (cond b (added_clause k p c ∷ []) [])) ≡ cond b (fresh k c ∷ []) []
      go true = refl
      go false = refl
  kept_last from k p q c (s ∷ ss) = go (is_of q s) (not (is_gone from s)) refl (same_proc p q) (kept_last from k p q c ss)
    where
      more : List (Stored C)
      more = ss ++ added_clause k p c ∷ []

      go : (b g : Bool) → not (is_gone from s) ≡ g → (e : Bool)
          → kept_of from q more ≡ cond e (kept_of from q ss ++ fresh k c ∷ []) (kept_of from q ss)
          → map dated (filter (λ s. not (is_gone from s)) (cond b (s ∷ filter (is_of q) more) (filter (is_of q) more)))
          ≡ cond e (map dated (filter (λ s. not (is_gone from s)) (cond b (s ∷ filter (is_of q) ss) (filter (is_of q) ss))) ++ fresh k c ∷ []) (map dated (filter (λ s. not (is_gone from s)) (cond b (s ∷ filter (is_of q) ss) (filter (is_of q) ss))))
      go false g w e ih = ih
      go true true w true ih = rw w (ap (λ l. dated s ∷ l) ih)
      go true true w false ih = rw w (ap (λ l. dated s ∷ l) ih)
      go true false w true ih = rw w ih
      go true false w false ih = rw w ih

  kept_with : (e : End) (from k : ℕ) (p q : entries.Proc) (c : C) (o : entries.Origin) (d : Database C)
      → kept_of from q (with_stored e k p c o d).clauses ≡ cond (same_proc p q) (placed e (fresh k c) (kept_of from q d.clauses)) (kept_of from q d.clauses)
  kept_with First from k p q c o d = kept_first from k p q c d.clauses
  kept_with Last from k p q c o d = kept_last from k p q c d.clauses

  cells_last : (need : C → ℕ) (k : ℕ) (p : entries.Proc) (c : C) (ss : List (Stored C)) → cells_of need (ss ++ added_clause k p c ∷ []) ≡ cells_of need ss + need c
  cells_last need k p c [] = omega arith
  cells_last need k p c (s ∷ ss) = go (is_some s.erased) (cells_last need k p c ss)
    where
      go : (b : Bool) → cells_of need (ss ++ added_clause k p c ∷ []) ≡ cells_of need ss + need c
          → cond b (cells_of need (ss ++ added_clause k p c ∷ [])) (need s.clause + cells_of need (ss ++ added_clause k p c ∷ [])) ≡ cond b (cells_of need ss) (need s.clause + cells_of need ss) + need c
      go true ih = ih
      go false ih = omega (arith, ih)

  cells_with : (e : End) (need : C → ℕ) (k : ℕ) (p : entries.Proc) (c : C) (o : entries.Origin) (d : Database C)
      → used_cells need (with_stored e k p c o d) ≡ used_cells need d + need c
  cells_with First need k p c o d = omega arith
  cells_with Last need k p c o d = cells_last need k p c d.clauses

  before_with : (e : End) (n k : ℕ) (p : entries.Proc) (c : C) (o : entries.Origin) (d : Database C) → n ≤ k
      → All (λ s. s.place < n) d.clauses → All (λ s. s.place < k + 1) (with_stored e k p c o d).clauses
  before_with First n k p c o d l h =
      All-cons (λ (s : Stored C). s.place < k + 1) (added_clause k p c) d.clauses (omega arith) (All-weaker (λ (s : Stored C). s.place < n) (λ (s : Stored C). s.place < k + 1) (λ s m. omega (arith, l, m)) d.clauses h)
  before_with Last n k p c o d l h =
      All-push (λ (s : Stored C). s.place < k + 1) d.clauses (added_clause k p c) (All-weaker (λ (s : Stored C). s.place < n) (λ (s : Stored C). s.place < k + 1) (λ s m. omega (arith, l, m)) d.clauses h) (omega arith)

  none_at : (n k : ℕ) (ss : List (Stored C)) → n ≤ k → All (λ s. s.place < n) ss → filter (is_at k) ss ≡ []
  none_at n k [] l h = refl
  none_at n k (s ∷ ss) l h =
      go (s.place == k) refl (All-head (λ (s : Stored C). s.place < n) s ss h) (none_at n k ss l (All-tail (λ (s : Stored C). s.place < n) s ss h))
    where
      go : (b : Bool) → (s.place == k) ≡ b → s.place < n → filter (is_at k) ss ≡ [] → cond b (s ∷ filter (is_at k) ss) (filter (is_at k) ss) ≡ []
      go true e m ih = absurd (let i : s.place ≡ k = eqb-true s.place k e in omega (arith, l, m, i))
      go false e m ih = ih

  once_with : (e : End) (n k : ℕ) (p : entries.Proc) (c : C) (o : entries.Origin) (d : Database C) → n ≤ k
      → All (λ s. s.place < n) d.clauses → (j : ℕ) → length (filter (is_at j) d.clauses) ≤ 1 → length (filter (is_at j) (with_stored e k p c o d).clauses) ≤ 1
  once_with First n k p c o d l h j u = go (k == j) refl
    where
      go : (b : Bool) → (k == j) ≡ b → length (cond b (added_clause k p c ∷ filter (is_at j) d.clauses) (filter (is_at j) d.clauses)) ≤ 1
      go true e = let i : k ≡ j = eqb-true k j e in
          let z : length (filter (is_at j) d.clauses) ≡ 0 = subst (λ m. length (filter (is_at m) d.clauses) ≡ 0) i (ap (length {A = Stored C}) (none_at n k d.clauses l h)) in
          omega (arith, z)
      go false e = u
  once_with Last n k p c o d l h j u = subst (λ m. length m ≤ 1) (sym (filter-append (is_at j) d.clauses (added_clause k p c ∷ []))) (go (k == j) refl)
    where
      go : (b : Bool) → (k == j) ≡ b → length (filter (is_at j) d.clauses ++ cond b (added_clause k p c ∷ []) []) ≤ 1
      go true e = let i : k ≡ j = eqb-true k j e in
          let z : filter (is_at j) d.clauses ≡ [] = subst (λ m. filter (is_at m) d.clauses ≡ []) i (none_at n k d.clauses l h) in
          subst (λ m. length (m ++ added_clause k p c ∷ []) ≤ 1) (sym z) (omega arith)
      go false e = subst (λ m. length m ≤ 1) (sym (append-nil (filter (is_at j) d.clauses))) u

  procedures_with : (e : End) (k : ℕ) (p : entries.Proc) (c : C) (o : entries.Origin) (d : Database C) → (with_stored e k p c o d).procedures ≡ with_procedure p (database.access_by o) d.procedures
  procedures_with First k p c o d = refl
  procedures_with Last k p c o d = refl

  module _ (need : C → ℕ) (h : Held C) (d : Database C) (s : StandsNow need h d) (a : Addition) (p : Proc) (c : C) (l : h.next ≤ a.place) where
    abbrev after_it : Database C
    after_it = with_stored a.end a.place (proc_of p) c (origin_of a.origin) d

    opened_is : access_of (unwrap_or (access_now h.parts (proc_of p)) (access_by a.origin)) ≡ unwrap_or (listed_access d.procedures (proc_of p)) (database.access_by (origin_of a.origin))
    opened_is =
        opened_same (access_now h.parts (proc_of p)) (access_by a.origin)
        ∙ ap₂ (λ o x. unwrap_or o x) (s.access (proc_of p)) (access_by_same a.origin)

    access_stays : (q : entries.Proc) → option_map access_of (access_now (with_clause a p c h.parts) q) ≡ listed_access after_it.procedures q
    access_stays q =
        ap (option_map access_of) (held_access_with a p c h.parts q)
        ∙ go (same_proc (proc_of p) q)
        ∙ sym (ap (λ l. listed_access l q) (procedures_with a.end a.place (proc_of p) c (origin_of a.origin) d) ∙ access_with (proc_of p) (database.access_by (origin_of a.origin)) d.procedures q)
      where
        go : (b : Bool) → option_map access_of (cond b (Some (unwrap_or (access_now h.parts (proc_of p)) (access_by a.origin))) (access_now h.parts q)) ≡ cond b (Some (unwrap_or (listed_access d.procedures (proc_of p)) (database.access_by (origin_of a.origin)))) (listed_access d.procedures q)
        go true = ap (λ x. Some x) opened_is
        go false = s.access q

    kept_stays : (q : entries.Proc) → Keeps h.floor q after_it (clauses_at (with_clause a p c h.parts) q)
    kept_stays q = record {
      from = (s.clauses q).from;
      low = (s.clauses q).low;
      are =
          clauses_with a p c h.parts q
          ∙ go (same_proc (proc_of p) q) refl
          ∙ sym (kept_with a.end (s.clauses q).from a.place (proc_of p) q c (origin_of a.origin) d);
    }
      where
        go : (b : Bool) → same_proc (proc_of p) q ≡ b
            → cond b (placed a.end (fresh a.place c) (clauses_at h.parts (proc_of p))) (clauses_at h.parts q)
            ≡ cond b (placed a.end (fresh a.place c) (kept_of (s.clauses q).from q d.clauses)) (kept_of (s.clauses q).from q d.clauses)
        go true e = ap (placed a.end (fresh a.place c)) (ap (clauses_at h.parts) (is_same (proc_of p) q e) ∙ (s.clauses q).are)
        go false e = (s.clauses q).are

    pub stands_added : StandsNow need (with_added a p c (need c) h) after_it
    stands_added = record {
      access = access_stays;
      clauses = kept_stays;
      used = ap (λ n. n + need c) s.used ∙ sym (cells_with a.end need a.place (proc_of p) c (origin_of a.origin) d);
      before = before_with a.end h.next a.place (proc_of p) c (origin_of a.origin) d l s.before;
      once = λ j. once_with a.end h.next a.place (proc_of p) c (origin_of a.origin) d l s.before j (s.once j);
    }
