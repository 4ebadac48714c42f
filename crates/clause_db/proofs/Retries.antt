-- The next clause of a call, after the one that it tried last.
use Rattle.std.proofs.Common.{◌≡◌, ◌+◌, ◌≤◌, ℕ, suc, List, [], ◌∷◌, find, filter, map, length, Option, Some, None, Bool, true, false, cond, not, ◌&&◌, ◌||◌, refl, ap, sym, subst, ◌∙◌, arith}
use Rattle.std.specs.Prelude.{All, ◌==◌}
use Rattle.std.specs.List.{list_any, slice_get}
use Rattle.std.specs.Option.{option_map_or, IfSome}
use Rattle.std.specs.Ordering.{nat_cmp}
use Rattle.std.specs.BTreeMap as tree
use Rattle.std.specs.BTreeMap.{BTreeMap}
use Rattle.std.proofs.lemmas.Bool.{false≢true}
use Rattle.std.proofs.lemmas.List.Elements.{All-head, All-tail}
use borrow.Author.Tests.{eqb-true}
use Rattle.pl_model.specs.History.{Proc}
use Rattle.pl_model.specs.Database.{Database, Stored, is_visible, is_of, is_at, seen}
use Rattle.gen_core.specs.declared.dated_clause.DatedClause.{DatedClause}
use Rattle.gen_core.specs.Visible.{behind, first_choice}
use Rattle.gen_core.specs.Visible as list
use Rattle.clause_db.specs.declared.db.Home.{Home}
use Rattle.clause_db.specs.Parts.{Held, Piece, is_part_of, clauses_at}
use Rattle.clause_db.specs.Sound.{Homed}
use Rattle.clause_db.specs.Stands.{dated, is_gone, Keeps, StandsNow, first_named, after}
use Rattle.clause_db.proofs.Homes.{IsHome}
use Rattle.clause_db.proofs.Views.{gone_unseen, tried_same, seen_of, first_same}

-- A list's clause at the place has its home there.
pub record Found {C : Type 0} (homes : BTreeMap ℕ Home) (place n : ℕ) (p : Proc) (xs : List (Piece C)) : Type 0 where
  pub i : ℕ
  pub cells : ℕ
  pub item : Piece C
  pub home : tree.get nat_cmp homes place ≡ Some (record { part = n + i; cells = cells })
  pub at : slice_get xs i ≡ Some item
  pub same : item.clauses ≡ clauses_at xs p

module _ {C : Type 0} (need : C → ℕ) where
  pub home_any : (homes : BTreeMap ℕ Home) (n place : ℕ) (ds : List (DatedClause C)) → All (IsHome need homes n) ds → list_any (λ d. d.place == place) ds ≡ true
      → (cells : ℕ) × (tree.get nat_cmp homes place ≡ Some (record { part = n; cells = cells }))
  home_any homes n place [] h a = absurd (false≢true a)
  home_any homes n place (d ∷ ds) h a = go (home_any homes n place ds) (d.place == place) refl a
    where
      go : (All (IsHome need homes n) ds → list_any (λ d. d.place == place) ds ≡ true → (cells : ℕ) × (tree.get nat_cmp homes place ≡ Some (record { part = n; cells = cells }))) → (b : Bool) → (d.place == place) ≡ b → (b || list_any (λ d. d.place == place) ds) ≡ true → (cells : ℕ) × (tree.get nat_cmp homes place ≡ Some (record { part = n; cells = cells }))
      go ih true e m = (need d.clause, ap (λ k. tree.get nat_cmp homes k) (sym (eqb-true d.place place e)) ∙ All-head (IsHome need homes n) d ds h)
      go ih false e m = ih (All-tail (IsHome need homes n) d ds h) m

  pub home_found : (homes : BTreeMap ℕ Home) (n place : ℕ) (p : Proc) (xs : List (Piece C)) → Homed need homes n xs → list_any (λ d. d.place == place) (clauses_at xs p) ≡ true → Found homes place n p xs
  home_found homes n place p [] h a = absurd (false≢true a)
  home_found homes n place p (x ∷ xs) h a = go (home_found homes (suc n) place p xs h.1) (is_part_of p x) refl a
    where
      clauses : Option (Piece C) → List (DatedClause C)
      clauses o = option_map_or (λ (y : Piece C). y.clauses) o []

      go : (list_any (λ d. d.place == place) (clauses_at xs p) ≡ true → Found homes place (suc n) p xs) → (b : Bool) → is_part_of p x ≡ b → list_any (λ d. d.place == place) (clauses (cond b (Some x) (find (is_part_of p) xs))) ≡ true → Found homes place n p (x ∷ xs)
      go ih true e m =
          let f = home_any homes n place x.clauses h.0 m in
          record {
            i = 0;
            cells = f.0;
            item = x;
            home = f.1 ∙ ap (λ k. Some (record { part = k; cells = f.0 })) (omega arith);
            at = refl;
            same = sym (ap (λ b. clauses (cond b (Some x) (find (is_part_of p) xs))) e);
          }
      go ih false e m =
          let f = ih m in
          record {
            i = suc f.i;
            cells = f.cells;
            item = f.item;
            home = f.home ∙ ap (λ k. Some (record { part = k; cells = f.cells })) (omega arith);
            at = f.at;
            same = f.same ∙ sym (ap (λ b. clauses (cond b (Some x) (find (is_part_of p) xs))) e);
          }

module _ {C : Type 0} (from g j : ℕ) (l : from ≤ g) where
  abbrev keep : List (Stored C) → List (DatedClause C)
  keep ss = map dated (filter (λ s. not (is_gone from s)) ss)

  pub kept_any : (ss : List (Stored C)) → list_any (is_at j) (filter (is_visible g) ss) ≡ true → list_any (λ d. d.place == j) (keep ss) ≡ true
  kept_any [] a = a
  kept_any (s ∷ ss) a = go (kept_any ss) (is_gone from s) refl (is_visible g s) refl a
    where
      any_now : Bool → Bool
      any_now b = list_any (is_at j) (cond b (s ∷ filter (is_visible g) ss) (filter (is_visible g) ss))

      goal_at : Bool → Bool
      goal_at b = list_any (λ d. d.place == j) (map dated (cond (not b) (s ∷ filter (λ s. not (is_gone from s)) ss) (filter (λ s. not (is_gone from s)) ss)))

      or_here : (list_any (is_at j) (filter (is_visible g) ss) ≡ true → list_any (λ d. d.place == j) (keep ss) ≡ true) → (b : Bool) → (b || list_any (is_at j) (filter (is_visible g) ss)) ≡ true → (b || list_any (λ d. d.place == j) (keep ss)) ≡ true
      or_here ih true m = refl
      or_here ih false m = ih m

      or_more : (b c : Bool) → c ≡ true → (b || c) ≡ true
      or_more true c m = refl
      or_more false c m = m

      go : (list_any (is_at j) (filter (is_visible g) ss) ≡ true → list_any (λ d. d.place == j) (keep ss) ≡ true) → (b : Bool) → is_gone from s ≡ b → (v : Bool) → is_visible g s ≡ v → any_now (is_visible g s) ≡ true → goal_at (is_gone from s) ≡ true
      go ih true e v w m = ap goal_at e ∙ ih (sym (ap any_now (gone_unseen from g s l e)) ∙ m)
      go ih false e true w m = ap goal_at e ∙ or_here ih (s.place == j) (sym (ap any_now w) ∙ m)
      go ih false e false w m = ap goal_at e ∙ or_more (s.place == j) (list_any (λ d. d.place == j) (keep ss)) (ih (sym (ap any_now w) ∙ m))

  none_more : (ss : List (Stored C)) → length (filter (is_at j) ss) ≡ 0 → list_any (is_at j) (filter (is_visible g) ss) ≡ false
  none_more [] z = refl
  none_more (s ∷ ss) z = go (none_more ss) (is_at j s) refl z (is_visible g s)
    where
      go : (length (filter (is_at j) ss) ≡ 0 → list_any (is_at j) (filter (is_visible g) ss) ≡ false) → (b : Bool) → is_at j s ≡ b → length (cond b (s ∷ filter (is_at j) ss) (filter (is_at j) ss)) ≡ 0 → (v : Bool) → list_any (is_at j) (cond v (s ∷ filter (is_visible g) ss) (filter (is_visible g) ss)) ≡ false
      go ih true e y v = absurd (omega (arith, y))
      go ih false e y true = ap (λ b. b || list_any (is_at j) (filter (is_visible g) ss)) e ∙ ih y
      go ih false e y false = ih y

  pub behind_same : (t : C → Bool) (ss : List (Stored C)) → length (filter (is_at j) ss) ≤ 1 → list_any (is_at j) (filter (is_visible g) ss) ≡ true
      → filter (λ d. list.is_visible g d && not (t d.clause)) (behind (Some j) (keep ss)) ≡ map dated (filter (λ s. not (t s.clause)) (after j (filter (is_visible g) ss)))
  behind_same t [] o a = absurd (false≢true a)
  behind_same t (s ∷ ss) o a = go (behind_same t ss) (is_at j s) refl o (is_gone from s) refl (is_visible g s) refl a
    where
      seen_here : Bool → List (Stored C)
      seen_here v = cond v (s ∷ filter (is_visible g) ss) (filter (is_visible g) ss)

      keep_here : Bool → List (DatedClause C)
      keep_here b = map dated (cond (not b) (s ∷ filter (λ s. not (is_gone from s)) ss) (filter (λ s. not (is_gone from s)) ss))

      pass : DatedClause C → Bool
      pass d = list.is_visible g d && not (t d.clause)

      left : Bool → List (DatedClause C)
      left b = filter (λ d. list.is_visible g d && not (t d.clause)) (behind (Some j) (keep_here b))

      right : Bool → List (DatedClause C)
      right v = map dated (filter (λ s. not (t s.clause)) (after j (seen_here v)))

      go : (length (filter (is_at j) ss) ≤ 1 → list_any (is_at j) (filter (is_visible g) ss) ≡ true → filter (λ d. list.is_visible g d && not (t d.clause)) (behind (Some j) (keep ss)) ≡ map dated (filter (λ s. not (t s.clause)) (after j (filter (is_visible g) ss))))
          → (m : Bool) → is_at j s ≡ m → length (cond m (s ∷ filter (is_at j) ss) (filter (is_at j) ss)) ≤ 1
          → (b : Bool) → is_gone from s ≡ b → (v : Bool) → is_visible g s ≡ v → list_any (is_at j) (seen_here (is_visible g s)) ≡ true
          → left (is_gone from s) ≡ right (is_visible g s)
      go ih true q u b e false w x =
          absurd (false≢true (sym (none_more ss (omega (arith, u))) ∙ sym (ap (λ v. list_any (is_at j) (seen_here v)) w) ∙ x))
      go ih true q u true e true w x = absurd (false≢true (sym (gone_unseen from g s l e) ∙ w))
      go ih true q u false e true w x =
          ap left e
          ∙ ap (λ b. filter (λ d. list.is_visible g d && not (t d.clause)) (cond b (keep ss) (behind (Some j) (keep ss)))) q
          ∙ tried_same from g l t ss
          ∙ sym (ap (λ b. map dated (filter (λ s. not (t s.clause)) (cond b (filter (is_visible g) ss) (after j (filter (is_visible g) ss))))) q)
          ∙ sym (ap right w)
      go ih false q u true e v w x =
          ap left e
          ∙ ih u (sym (ap (λ v. list_any (is_at j) (seen_here v)) (gone_unseen from g s l e)) ∙ x)
          ∙ sym (ap right (gone_unseen from g s l e))
      go ih false q u false e true w x =
          ap left e
          ∙ ap (λ b. filter (λ d. list.is_visible g d && not (t d.clause)) (cond b (keep ss) (behind (Some j) (keep ss)))) q
          ∙ ih u (sym (ap (λ b. b || list_any (is_at j) (filter (is_visible g) ss)) q) ∙ sym (ap (λ v. list_any (is_at j) (seen_here v)) w) ∙ x)
          ∙ sym (ap (λ b. map dated (filter (λ s. not (t s.clause)) (cond b (filter (is_visible g) ss) (after j (filter (is_visible g) ss))))) q)
          ∙ sym (ap right w)
      go ih false q u false e false w x =
          ap left e
          ∙ ap (λ b. filter (λ d. list.is_visible g d && not (t d.clause)) (cond b (keep ss) (behind (Some j) (keep ss)))) q
          ∙ ih u (sym (ap (λ v. list_any (is_at j) (seen_here v)) w) ∙ x)
          ∙ sym (ap right w)

module _ {C : Type 0} where
  fewer_of : (j : ℕ) (p : Proc) (ss : List (Stored C)) → length (filter (is_at j) (filter (is_of p) ss)) ≤ length (filter (is_at j) ss)
  fewer_of j p [] = omega arith
  fewer_of j p (s ∷ ss) = go (is_of p s) (is_at j s) refl (fewer_of j p ss)
    where
      few : Bool → ℕ
      few b = length (cond b (s ∷ filter (is_at j) (filter (is_of p) ss)) (filter (is_at j) (filter (is_of p) ss)))

      all : Bool → ℕ
      all b = length (cond b (s ∷ filter (is_at j) ss) (filter (is_at j) ss))

      go : (a b : Bool) → is_at j s ≡ b → length (filter (is_at j) (filter (is_of p) ss)) ≤ length (filter (is_at j) ss)
          → length (filter (is_at j) (cond a (s ∷ filter (is_of p) ss) (filter (is_of p) ss))) ≤ all (is_at j s)
      go true true e ih = rw e (omega (arith, ih))
      go true false e ih = rw e ih
      go false true e ih = rw e (omega (arith, ih))
      go false false e ih = rw e ih

  module _ (need : C → ℕ) (h : Held C) (d : Database C) (s : StandsNow need h d) (p : Proc) (g j : ℕ) (l : h.floor ≤ g) (a : list_any (is_at j) (seen g p d) ≡ true) where
    abbrev k : Keeps h.floor p d (clauses_at h.parts p)
    k = s.clauses p

    low : k.from ≤ g
    low = let m = k.low in omega (arith, m, l)

    any_of : list_any (is_at j) (filter (is_visible g) (filter (is_of p) d.clauses)) ≡ true
    any_of = sym (ap (list_any (is_at j)) (seen_of g p d.clauses)) ∙ a

    pub retry_any : list_any (λ x. x.place == j) (clauses_at h.parts p) ≡ true
    retry_any = ap (list_any (λ x. x.place == j)) k.are ∙ kept_any k.from g j low (filter (is_of p) d.clauses) any_of

    pub retry_same : (t : C → Bool) → first_choice (filter (λ x. list.is_visible g x && not (t x.clause)) (behind (Some j) (clauses_at h.parts p))) ≡ first_named (filter (λ s. not (t s.clause)) (after j (seen g p d)))
    retry_same t =
        ap (λ ds. first_choice (filter (λ x. list.is_visible g x && not (t x.clause)) (behind (Some j) ds))) k.are
        ∙ ap first_choice (behind_same k.from g j low t (filter (is_of p) d.clauses) (let m = fewer_of j p d.clauses in let n = s.once j in omega (arith, m, n)) any_of)
        ∙ first_same (filter (λ s. not (t s.clause)) (after j (filter (is_visible g) (filter (is_of p) d.clauses))))
        ∙ sym (ap (λ ss. first_named (filter (λ s. not (t s.clause)) (after j ss))) (seen_of g p d.clauses))

    pub retry_is : (homes : BTreeMap ℕ Home) → Homed need homes 0 h.parts → (home : Home) → tree.get nat_cmp homes j ≡ Some home → (t : C → Bool) (o : Option (ℕ × C × Bool))
        → IfSome (slice_get h.parts home.part) (λ y. o ≡ first_choice (filter (λ x. list.is_visible g x && not (t x.clause)) (behind (Some j) y.clauses)))
        → o ≡ first_named (filter (λ s. not (t s.clause)) (after j (seen g p d)))
    retry_is homes homed home is t o found =
        let f = home_found need homes 0 j p h.parts homed retry_any in
        let part : home.part ≡ f.i = ap (λ x. option_map_or (λ (y : Home). y.part) x 0) (sym is ∙ f.home) ∙ omega arith in
        let hit : o ≡ first_choice (filter (λ x. list.is_visible g x && not (t x.clause)) (behind (Some j) f.item.clauses)) =
        subst (λ x. IfSome x (λ y. o ≡ first_choice (filter (λ x. list.is_visible g x && not (t x.clause)) (behind (Some j) y.clauses)))) (ap (slice_get h.parts) part ∙ f.at) found in
        hit ∙ ap (λ ds. first_choice (filter (λ x. list.is_visible g x && not (t x.clause)) (behind (Some j) ds))) f.same ∙ retry_same t

    none_home : (home : Home) → ◌≡◌ {A = Option Home} None (Some home) → (o : Option (ℕ × C × Bool)) (q : Option (ℕ × C × Bool)) → o ≡ q
    none_home home e o q = absurd (cc)

    pub retry_none : (homes : BTreeMap ℕ Home) → Homed need homes 0 h.parts → tree.get nat_cmp homes j ≡ None → (t : C → Bool) (o : Option (ℕ × C × Bool))
        → o ≡ first_named (filter (λ s. not (t s.clause)) (after j (seen g p d)))
    retry_none homes homed none t o =
        let f = home_found need homes 0 j p h.parts homed retry_any in
        none_home (record { part = 0 + f.i; cells = f.cells }) (sym none ∙ f.home) o (first_named (filter (λ s. not (t s.clause)) (after j (seen g p d))))
