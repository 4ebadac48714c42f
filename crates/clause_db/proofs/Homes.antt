-- The homes of the clauses stay true.
use Rattle.std.proofs.Common.{◌≡◌, ◌+◌, ◌<◌, ◌≤◌, ℕ, suc, List, [], ◌∷◌, ◌++◌, find, map, length, Option, Some, None, Bool, true, false, cond, refl, ap, sym, subst, ◌∙◌, arith, eq-eqb}
use Rattle.std.specs.Prelude.{All, nat_lt, ◌==◌}
use Rattle.std.specs.Option.{unwrap_or}
use Rattle.std.specs.Ordering.{is_eq, nat_cmp}
use Rattle.std.specs.declared.cmp.Ordering.TheVariants.{Less, Equal, Greater}
use Rattle.std.specs.BTreeMap as tree
use Rattle.std.specs.BTreeMap.{BTreeMap, is_at}
use Rattle.std.proofs.lemmas.Bool.{false≢true}
use Rattle.std.proofs.lemmas.List.Elements.{All-cons, All-push, All-weaker, All-head, All-tail, All-nil}
use borrow.Author.Tests.{eqb-true}
use Rattle.pl_model.specs.laws.Shown.{proc_of}
use Rattle.pl_model.specs.declared.shows.Proc.{Proc}
use Rattle.gen_core.specs.declared.dated_clause.DatedClause.{DatedClause}
use Rattle.gen_core.specs.Visible.{fresh}
use Rattle.clause_db.specs.declared.parts.ProcedureClauses.{ProcedureClauses}
use Rattle.clause_db.specs.declared.parts.End.{End}
use Rattle.clause_db.specs.declared.parts.End.TheVariants.{First, Last}
use Rattle.clause_db.specs.declared.parts.Addition.{Addition}
use Rattle.clause_db.specs.declared.db.Home.{Home}
use Rattle.clause_db.specs.Located.{Locates}
use Rattle.clause_db.specs.Parts.{Piece, piece, blank, is_part_of, placed, added_to, with_clause}
use Rattle.clause_db.specs.Sound.{Homed, IsSound}
use Rattle.clause_db.proofs.Standing.{apart_with}
use Rattle.clause_db.proofs.Pieces.{test}

is_eq-number : (k q : ℕ) → is_eq (nat_cmp k q) ≡ true → k ≡ q
is_eq-number k q h = go (nat_lt k q) (k == q) refl h
  where
    go : (a b : Bool) → (k == q) ≡ b → is_eq (cond a Less (cond b Equal Greater)) ≡ true → k ≡ q
    go true b e n = absurd (false≢true n)
    go false true e n = eqb-true k q e
    go false false e n = absurd (false≢true n)

-- Another number is not at the key.
pub not_at : (k q : ℕ) → q < k → is_at (nat_cmp k) q ≡ false
not_at k q l = go (is_at (nat_cmp k) q) refl
  where
    go : (b : Bool) → is_at (nat_cmp k) q ≡ b → is_at (nat_cmp k) q ≡ false
    go true e = absurd (let i : k ≡ q = is_eq-number k q e in omega (arith, l, i))
    go false e = e

pub elsewhere : (k q : ℕ) → (k == q) ≡ false → is_at (nat_cmp k) q ≡ false
elsewhere k q n = go (is_at (nat_cmp k) q) refl
  where
    go : (b : Bool) → is_at (nat_cmp k) q ≡ b → is_at (nat_cmp k) q ≡ false
    go true e = absurd (false≢true (sym n ∙ eq-eqb k q (is_eq-number k q e)))
    go false e = e

abbrev pub index_of : {C : Type 0} → Proc → List (Piece C) → ℕ
index_of p [] = 0
index_of p (x ∷ xs) = cond (is_part_of (proc_of p) x) 0 (suc (index_of p xs))

module _ {C K : Type 0} (p : Proc) where
  index_at : (before : List (ProcedureClauses C K)) (x : ProcedureClauses C K) (after : List (ProcedureClauses C K)) → find (test (proc_of p)) before ≡ None → test (proc_of p) x ≡ true → index_of p (map piece (before ++ x ∷ after)) ≡ length before
  index_at [] x after miss hit = ap (λ b. cond b 0 (suc (index_of p (map piece after)))) hit
  index_at (y ∷ before) x after miss hit = go (test (proc_of p) y) refl miss (λ m. index_at before x after m hit)
    where
      go : (b : Bool) → test (proc_of p) y ≡ b → cond b (Some y) (find (test (proc_of p)) before) ≡ None
          → (find (test (proc_of p)) before ≡ None → index_of p (map piece (before ++ x ∷ after)) ≡ length before)
          → cond (test (proc_of p) y) 0 (suc (index_of p (map piece (before ++ x ∷ after)))) ≡ suc (length before)
      go true e m ih = absurd (cc)
      go false e m ih = ap (λ b. cond b 0 (suc (index_of p (map piece (before ++ x ∷ after))))) e ∙ ap suc (ih m)

  index_none : (xs : List (ProcedureClauses C K)) → find (test (proc_of p)) xs ≡ None → index_of p (map piece xs) ≡ length xs
  index_none [] e = refl
  index_none (y ∷ xs) e = go (test (proc_of p) y) refl e (index_none xs)
    where
      go : (b : Bool) → test (proc_of p) y ≡ b → cond b (Some y) (find (test (proc_of p)) xs) ≡ None
          → (find (test (proc_of p)) xs ≡ None → index_of p (map piece xs) ≡ length xs)
          → cond (test (proc_of p) y) 0 (suc (index_of p (map piece xs))) ≡ suc (length xs)
      go true u m ih = absurd (cc)
      go false u m ih = ap (λ b. cond b 0 (suc (index_of p (map piece xs)))) u ∙ ap suc (ih m)

  pub index_is : (xs : List (ProcedureClauses C K)) (r : Option ℕ) → Locates (test (proc_of p)) xs r → index_of p (map piece xs) ≡ unwrap_or r (length xs)
  index_is xs None e = index_none xs e
  index_is xs (Some i) at = ap (λ l. index_of p (map piece l)) at.whole ∙ index_at at.before at.item at.after at.missed at.hits ∙ at.index

module _ {C : Type 0} (need : C → ℕ) where
  abbrev pub Later : ℕ → List (Piece C) → Type 0
  Later n xs = All (λ x. All (λ d. d.place < n) x.clauses) xs

  abbrev pub IsHome : BTreeMap ℕ Home → ℕ → DatedClause C → Type 0
  IsHome homes n d = tree.get nat_cmp homes d.place ≡ Some (record { part = n; cells = need d.clause })

  home_stays : (homes more : BTreeMap ℕ Home) (next n : ℕ) → ((k : ℕ) → k < next → tree.get nat_cmp more k ≡ tree.get nat_cmp homes k)
      → (ds : List (DatedClause C)) → All (λ d. d.place < next) ds → All (IsHome homes n) ds → All (IsHome more n) ds
  home_stays homes more next n same [] l h = All-nil (IsHome more n)
  home_stays homes more next n same (d ∷ ds) l h =
      All-cons (IsHome more n) d ds (same d.place (All-head (λ (x : DatedClause C). x.place < next) d ds l) ∙ All-head (IsHome homes n) d ds h)
      (home_stays homes more next n same ds (All-tail (λ (x : DatedClause C). x.place < next) d ds l) (All-tail (IsHome homes n) d ds h))

  pub homed_stays : (homes more : BTreeMap ℕ Home) (next n : ℕ) → ((k : ℕ) → k < next → tree.get nat_cmp more k ≡ tree.get nat_cmp homes k)
      → (xs : List (Piece C)) → Later next xs → Homed need homes n xs → Homed need more n xs
  homed_stays homes more next n same [] l h = tt
  homed_stays homes more next n same (x ∷ xs) l h = (
    home_stays homes more next n same x.clauses (All-head (λ (y : Piece C). All (λ d. d.place < next) y.clauses) x xs l) h.0,
    homed_stays homes more next (suc n) same xs (All-tail (λ (y : Piece C). All (λ d. d.place < next) y.clauses) x xs l) h.1,
  )

  all_placed : (P : DatedClause C → Type 0) (e : End) (d : DatedClause C) (ds : List (DatedClause C)) → P d → All P ds → All P (placed e d ds)
  all_placed P First d ds h hs = All-cons P d ds h hs
  all_placed P Last d ds h hs = All-push P ds d hs h

  homed_with : (homes more : BTreeMap ℕ Home) (next n : ℕ) (a : Addition) (p : Proc) (c : C) → ((k : ℕ) → k < next → tree.get nat_cmp more k ≡ tree.get nat_cmp homes k)
      → (xs : List (Piece C)) → Later next xs → Homed need homes n xs
      → tree.get nat_cmp more a.place ≡ Some (record { part = n + index_of p xs; cells = need c })
      → Homed need more n (with_clause a p c xs)
  homed_with homes more next n a p c same [] l h at = (
    all_placed (IsHome more n) a.end (fresh a.place c) [] (at ∙ ap (λ i. Some (record { part = i; cells = need c })) (omega arith)) (All-nil (IsHome more n)),
    tt,
  )
  homed_with homes more next n a p c same (x ∷ xs) l h at = go (homed_with homes more next (suc n) a p c same xs) (is_part_of (proc_of p) x) at
    where
      later_here : All (λ d. d.place < next) x.clauses
      later_here = All-head (λ (y : Piece C). All (λ d. d.place < next) y.clauses) x xs l

      later_rest : Later next xs
      later_rest = All-tail (λ (y : Piece C). All (λ d. d.place < next) y.clauses) x xs l

      here : All (IsHome more n) x.clauses
      here = home_stays homes more next n same x.clauses later_here h.0

      go : (Later next xs → Homed need homes (suc n) xs → tree.get nat_cmp more a.place ≡ Some (record { part = suc n + index_of p xs; cells = need c }) → Homed need more (suc n) (with_clause a p c xs))
          → (b : Bool) → tree.get nat_cmp more a.place ≡ Some (record { part = n + cond b 0 (suc (index_of p xs)); cells = need c })
          → Homed need more n (cond b (added_to a c x ∷ xs) (x ∷ with_clause a p c xs))
      go ih true e = (
        all_placed (IsHome more n) a.end (fresh a.place c) x.clauses (e ∙ ap (λ i. Some (record { part = i; cells = need c })) (omega arith)) here,
        homed_stays homes more next (suc n) same xs later_rest h.1,
      )
      go ih false e = (
        here,
        ih later_rest h.1 (e ∙ ap (λ i. Some (record { part = i; cells = need c })) (omega arith)),
      )

  later_more : (n k : ℕ) → n ≤ k → (ds : List (DatedClause C)) → All (λ d. d.place < n) ds → All (λ d. d.place < k + 1) ds
  later_more n k l ds h = All-weaker (λ (d : DatedClause C). d.place < n) (λ (d : DatedClause C). d.place < k + 1) (λ d m. omega (arith, l, m)) ds h

  later_with : (next : ℕ) (a : Addition) (p : Proc) (c : C) → next ≤ a.place → (xs : List (Piece C)) → Later next xs → Later (a.place + 1) (with_clause a p c xs)
  later_with next a p c l [] h =
      All-cons (λ (y : Piece C). All (λ d. d.place < a.place + 1) y.clauses) (added_to a c (blank p)) []
      (all_placed (λ d. d.place < a.place + 1) a.end (fresh a.place c) [] (omega arith) (All-nil (λ (d : DatedClause C). d.place < a.place + 1)))
      (All-nil (λ (y : Piece C). All (λ d. d.place < a.place + 1) y.clauses))
  later_with next a p c l (x ∷ xs) h = go (later_with next a p c l xs) (is_part_of (proc_of p) x)
    where
      here : All (λ d. d.place < a.place + 1) x.clauses
      here = later_more next a.place l x.clauses (All-head (λ (y : Piece C). All (λ d. d.place < next) y.clauses) x xs h)

      rest : Later next xs
      rest = All-tail (λ (y : Piece C). All (λ d. d.place < next) y.clauses) x xs h

      go : (Later next xs → Later (a.place + 1) (with_clause a p c xs)) → (b : Bool) → Later (a.place + 1) (cond b (added_to a c x ∷ xs) (x ∷ with_clause a p c xs))
      go ih true =
          All-cons (λ (y : Piece C). All (λ d. d.place < a.place + 1) y.clauses) (added_to a c x) xs
          (all_placed (λ d. d.place < a.place + 1) a.end (fresh a.place c) x.clauses (omega arith) here)
          (All-weaker (λ (y : Piece C). All (λ d. d.place < next) y.clauses) (λ (y : Piece C). All (λ d. d.place < a.place + 1) y.clauses) (λ y m. later_more next a.place l y.clauses m) xs rest)
      go ih false = All-cons (λ (y : Piece C). All (λ d. d.place < a.place + 1) y.clauses) x (with_clause a p c xs) here (ih rest)

  pub sound_with : (homes more : BTreeMap ℕ Home) (next floor : ℕ) (a : Addition) (p : Proc) (c : C) (xs : List (Piece C)) → IsSound need xs homes next floor → next ≤ a.place
      → ((k : ℕ) → is_at (nat_cmp a.place) k ≡ false → tree.get nat_cmp more k ≡ tree.get nat_cmp homes k)
      → tree.get nat_cmp more a.place ≡ Some (record { part = index_of p xs; cells = need c })
      → IsSound need (with_clause a p c xs) more (a.place + 1) floor
  sound_with homes more next floor a p c xs s l same at = record {
    homed = homed_with homes more next 0 a p c (λ k m. same k (not_at a.place k (omega (arith, l, m)))) xs s.later s.homed (at ∙ ap (λ i. Some (record { part = i; cells = need c })) (omega arith));
    later = later_with next a p c l xs s.later;
    low = let m = s.low in omega (arith, l, m);
    apart = apart_with a p c xs s.apart;
  }

  pub sound_stays : (homes more : BTreeMap ℕ Home) (next floor place : ℕ) (xs : List (Piece C)) → IsSound need xs homes next floor → next ≤ place
      → ((k : ℕ) → is_at (nat_cmp place) k ≡ false → tree.get nat_cmp more k ≡ tree.get nat_cmp homes k)
      → IsSound need xs more next floor
  sound_stays homes more next floor place xs s l same = record {
    homed = homed_stays homes more next 0 (λ k m. same k (not_at place k (omega (arith, l, m)))) xs s.later s.homed;
    later = s.later;
    low = s.low;
    apart = s.apart;
  }

-- What is gone of the homes, where one more goes.
pub gone_more : (old new : BTreeMap ℕ Home) (q k : ℕ) → tree.get nat_cmp new q ≡ None → ((j : ℕ) → is_at (nat_cmp q) j ≡ false → tree.get nat_cmp new j ≡ tree.get nat_cmp old j)
    → ((q == k) ≡ false → tree.get nat_cmp old k ≡ None) → tree.get nat_cmp new k ≡ None
gone_more old new q k none same earlier = go (q == k) refl
  where
    go : (b : Bool) → (q == k) ≡ b → tree.get nat_cmp new k ≡ None
    go true e = subst (λ j. tree.get nat_cmp new j ≡ None) (eqb-true q k e) none
    go false e = same k (elsewhere q k e) ∙ earlier e
