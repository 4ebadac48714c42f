-- Reclaimed clauses: what is left stands for the same databases, from the floor on.
use Rattle.std.proofs.Common.{◌≡◌, ◌+◌, ◌<◌, ◌≤◌, ℕ, zero, suc, max, List, [], ◌∷◌, filter, find, map, length, Option, Some, None, Bool, true, false, cond, not, ◌&&◌, ◌||◌, refl, ap, ap₂, sym, subst, ◌∙◌, arith, lt-ltb, le-ltb, le-leb, eq-eqb}
use Rattle.std.specs.Prelude.{All, nat_lt, nat_le, ◌==◌, slice_index_or, slice_set}
use Rattle.std.specs.List.{list_any, slice_get}
use Rattle.std.specs.Option.{IfSome, option_map, option_map_or, option_and_then}
use Rattle.std.specs.Ordering.{nat_cmp}
use Rattle.std.specs.BTreeMap as tree
use Rattle.std.specs.BTreeMap.{BTreeMap}
use Rattle.std.proofs.lemmas.Bool.{false≢true, ltb-true, ltb-false, leb-false, lt-leb}
use Rattle.std.proofs.lemmas.List.Elements.{All-head, All-tail, All-cons, All-nil, All-weaker, All-filter}
use Rattle.pl_model.specs.History as entries
use Rattle.pl_model.specs.laws.Shown.{proc_of}
use Rattle.pl_model.specs.Database.{Database, Stored, is_of, is_visible, seen, named_clauses}
use Rattle.gen_core.specs.declared.dated_clause.DatedClause.{DatedClause}
use Rattle.gen_core.specs.Visible.{is_droppable, is_droppable_at}
use Rattle.clause_db.specs.declared.access.Access.{Access}
use Rattle.clause_db.specs.declared.access.Life.{Life}
use Rattle.clause_db.specs.declared.db.Home.{Home}
use Rattle.clause_db.specs.Access.{access_of, is_alive, life_at}
use Rattle.clause_db.specs.declared.parts.ProcedureClauses.{ProcedureClauses}
use Rattle.clause_db.specs.Parts.{Held, Piece, piece, is_part_of, clauses_at, access_when, piece_access}
use Rattle.clause_db.specs.Sound.{Homed, IsSound, Apart, names}
use Rattle.clause_db.specs.Stands.{dated, is_gone, Keeps, StandsNow, StandsFor, LivedBelow}
use Rattle.clause_db.specs.Reclaimed.{is_left, is_remembered, reclaimed, reclaimed_at, reclaimed_held, IsDropped}
use Rattle.clause_db.proofs.Homes.{IsHome}
use Rattle.clause_db.proofs.Lives.{over}
use Rattle.clause_db.proofs.Retries.{home_any}
use Rattle.clause_db.proofs.Standing.{own_clauses}
use Rattle.clause_db.proofs.Views.{seen_of}

or_more : (b c : Bool) → c ≡ true → (b || c) ≡ true
or_more true c m = refl
or_more false c m = m

most : (n m : ℕ) → n ≤ max n m
most n m = omega arith

most_right : (n m : ℕ) → m ≤ max n m
most_right n m = omega arith

-- Lives that are forgotten ended below the floor.
forgotten : (o : Option Access) (g floor : ℕ) → floor ≤ g → (ls : List Life) → life_at o g (filter (is_remembered floor) ls) ≡ life_at o g ls
forgotten o g floor le [] = refl
forgotten o g floor le (l ∷ ls) =
    go (nat_le floor l.until) refl (forgotten (cond (is_alive g l) (Some l.access) o) g floor le ls) (forgotten o g floor le ls)
  where
    left : List Life
    left = filter (is_remembered floor) ls

    go : (b : Bool) → nat_le floor l.until ≡ b → life_at (cond (is_alive g l) (Some l.access) o) g left ≡ life_at (cond (is_alive g l) (Some l.access) o) g ls → life_at o g left ≡ life_at o g ls
        → life_at o g (cond b (l ∷ left) left) ≡ life_at (cond (is_alive g l) (Some l.access) o) g ls
    go true e here rest = here
    go false e here rest =
        rest ∙ ap (λ b. life_at (cond b (Some l.access) o) g ls) (sym (over g l.until (nat_lt l.from g) (let m = leb-false floor l.until e in omega (arith, m, le))))

module _ {C : Type 0} (floor : ℕ) where
  -- No clause that is left has the place of one that is dropped.
  abbrev is_left_at : ℕ → DatedClause C → Bool
  is_left_at p d = (d.place == p) && is_left floor d

  abbrev dropped_at : ℕ → List (DatedClause C) → Bool
  dropped_at p ds = list_any (is_droppable_at floor p) ds

  at_place : (p : ℕ) → List (DatedClause C) → ℕ
  at_place p ds = length (filter (λ d. d.place == p) ds)

  pub any_placed : (p : ℕ) (ds : List (DatedClause C)) → dropped_at p ds ≡ true → list_any (λ d. d.place == p) ds ≡ true
  any_placed p [] h = h
  any_placed p (d ∷ ds) h = go (d.place == p) (is_droppable floor d) h (any_placed p ds)
    where
      go : (a b : Bool) → ((a && b) || dropped_at p ds) ≡ true → (dropped_at p ds ≡ true → list_any (λ d. d.place == p) ds ≡ true) → (a || list_any (λ d. d.place == p) ds) ≡ true
      go true b m ih = refl
      go false b m ih = ih m

  one : (test : DatedClause C → Bool) (p : ℕ) (ds : List (DatedClause C)) → list_any (λ d. (d.place == p) && test d) ds ≡ true → 1 ≤ length (filter (λ d. d.place == p) ds)
  one test p [] h = absurd (false≢true h)
  one test p (d ∷ ds) h = go (d.place == p) (test d) h (one test p ds)
    where
      go : (a b : Bool) → ((a && b) || list_any (λ d. (d.place == p) && test d) ds) ≡ true → (list_any (λ d. (d.place == p) && test d) ds ≡ true → 1 ≤ length (filter (λ d. d.place == p) ds))
          → 1 ≤ length (cond a (d ∷ filter (λ d. d.place == p) ds) (filter (λ d. d.place == p) ds))
      go true b m ih = omega arith
      go false b m ih = ih m

  two : (p : ℕ) (ds : List (DatedClause C)) → dropped_at p ds ≡ true → list_any (is_left_at p) ds ≡ true → 2 ≤ length (filter (λ d. d.place == p) ds)
  two p [] h m = absurd (false≢true h)
  two p (d ∷ ds) h m = go (d.place == p) (is_droppable floor d) h m (two p ds)
    where
      go : (a b : Bool) → ((a && b) || dropped_at p ds) ≡ true → ((a && not b) || list_any (is_left_at p) ds) ≡ true
          → (dropped_at p ds ≡ true → list_any (is_left_at p) ds ≡ true → 2 ≤ length (filter (λ d. d.place == p) ds))
          → 2 ≤ length (cond a (d ∷ filter (λ d. d.place == p) ds) (filter (λ d. d.place == p) ds))
      go false b u v ih = ih u v
      go true true u v ih = let o = one (is_left floor) p ds v in omega (arith, o)
      go true false u v ih = let o = one (is_droppable floor) p ds u in omega (arith, o)

  self_left : (ds : List (DatedClause C)) → All (λ d. list_any (is_left_at d.place) ds ≡ true) (filter (is_left floor) ds)
  self_left [] = All-nil (λ (d : DatedClause C). false ≡ true)
  self_left (d ∷ ds) = go (is_left floor d) refl (All-weaker (λ (e : DatedClause C). list_any (is_left_at e.place) ds ≡ true) (λ (e : DatedClause C). list_any (is_left_at e.place) (d ∷ ds) ≡ true) (λ e m. or_more (is_left_at e.place d) (list_any (is_left_at e.place) ds) m) (filter (is_left floor) ds) (self_left ds))
    where
      go : (b : Bool) → is_left floor d ≡ b → All (λ e. list_any (is_left_at e.place) (d ∷ ds) ≡ true) (filter (is_left floor) ds) → All (λ e. list_any (is_left_at e.place) (d ∷ ds) ≡ true) (cond b (d ∷ filter (is_left floor) ds) (filter (is_left floor) ds))
      go true e ih =
          All-cons (λ (e : DatedClause C). list_any (is_left_at e.place) (d ∷ ds) ≡ true) d (filter (is_left floor) ds)
          (ap₂ (λ a b. (a && b) || list_any (is_left_at d.place) ds) (eq-eqb d.place d.place refl) e) ih
      go false e ih = ih

  pub left_apart : (ds : List (DatedClause C)) → ((p : ℕ) → length (filter (λ d. d.place == p) ds) ≤ 1) → All (λ d. dropped_at d.place ds ≡ false) (filter (is_left floor) ds)
  left_apart ds once = All-weaker (λ (d : DatedClause C). list_any (is_left_at d.place) ds ≡ true) (λ (d : DatedClause C). dropped_at d.place ds ≡ false) (λ d m. go d.place m (dropped_at d.place ds) refl) (filter (is_left floor) ds) (self_left ds)
    where
      go : (p : ℕ) → list_any (is_left_at p) ds ≡ true → (b : Bool) → dropped_at p ds ≡ b → dropped_at p ds ≡ false
      go p m false e = e
      go p m true e = absurd (let t = two p ds e m in let o = once p in omega (arith, t, o))

  -- The homes of what is left.
  module _ (need : C → ℕ) (homes more : BTreeMap ℕ Home) (own : List (DatedClause C)) (stay : (p : ℕ) → dropped_at p own ≡ false → tree.get nat_cmp more p ≡ tree.get nat_cmp homes p) where
    abbrev AtHome : ℕ → Type 0
    AtHome t = All (IsHome need homes t) own

    stays : (t n : ℕ) → AtHome t → (n ≡ t → false ≡ true) → (ds : List (DatedClause C)) → All (IsHome need homes n) ds → All (IsHome need more n) ds
    stays t n home apart ds h = All-weaker (IsHome need homes n) (IsHome need more n) (λ d m. go d m (dropped_at d.place own) refl) ds h
      where
        go : (d : DatedClause C) → IsHome need homes n d → (b : Bool) → dropped_at d.place own ≡ b → IsHome need more n d
        go d m false e = stay d.place e ∙ m
        go d m true e =
            let f = home_any need homes t d.place own home (any_placed d.place own e) in
            absurd (false≢true (apart (ap (λ o. option_map_or (λ (y : Home). y.part) o 0) (sym m ∙ f.1))))

    rest : (t n : ℕ) → AtHome t → t < n → (xs : List (Piece C)) → Homed need homes n xs → Homed need more n xs
    rest t n home lt [] h = tt
    rest t n home lt (x ∷ xs) h = (stays t n home (λ e. absurd (omega (arith, lt, e))) x.clauses h.0, rest t (suc n) home (omega (arith, lt)) xs h.1)

    mine : (t : ℕ) → AtHome t → ((p : ℕ) → length (filter (λ d. d.place == p) own) ≤ 1) → All (IsHome need more t) (filter (is_left floor) own)
    mine t home once = λ i d l. stay (slice_index_or (filter (is_left floor) own) i d).place (left_apart own once i d l) ∙ All-filter (is_left floor) (IsHome need homes t) own home i d l

    pub homed_reclaimed : (t : ℕ) → AtHome t → ((p : ℕ) → length (filter (λ d. d.place == p) own) ≤ 1) → (n i : ℕ) → n + i ≡ t → (xs : List (Piece C)) (x : Piece C) → slice_get xs i ≡ Some x → x.clauses ≡ own
        → Homed need homes n xs → Homed need more n (reclaimed_at i floor xs)
    homed_reclaimed t home once n i e [] x at is h = tt
    homed_reclaimed t home once n zero e (y ∷ xs) x at is h =
        let same : y.clauses ≡ own = ap (λ o. option_map_or (λ (z : Piece C). z.clauses) o []) at ∙ is in
        let n_is : t ≡ n = omega (arith, e) in
        (subst (λ m. All (IsHome need more m) (filter (is_left floor) y.clauses)) n_is (subst (λ ds. All (IsHome need more t) (filter (is_left floor) ds)) (sym same) (mine t home once)), rest t (suc n) home (omega (arith, e)) xs h.1)
    homed_reclaimed t home once n (suc i) e (y ∷ xs) x at is h = (
      stays t n home (λ u. absurd (omega (arith, e, u))) y.clauses h.0,
      homed_reclaimed t home once (suc n) i (omega (arith, e)) xs x at is h.1,
    )

module _ {C : Type 0} where
  home_here : (need : C → ℕ) (homes : BTreeMap ℕ Home) (n i : ℕ) (xs : List (Piece C)) (x : Piece C) → slice_get xs i ≡ Some x → Homed need homes n xs → All (IsHome need homes (n + i)) x.clauses
  home_here need homes n i [] x at h = absurd (cc)
  home_here need homes n zero (y ∷ xs) x at h =
      let e : n ≡ n + 0 = omega arith in
      subst (λ m. All (IsHome need homes m) x.clauses) e (subst (λ ds. All (IsHome need homes n) ds) (ap (λ o. option_map_or (λ (z : Piece C). z.clauses) o []) at) h.0)
  home_here need homes n (suc i) (y ∷ xs) x at h =
      let e : suc n + i ≡ n + suc i = omega arith in
      subst (λ m. All (IsHome need homes m) x.clauses) e (home_here need homes (suc n) i xs x at h.1)

  pub names_reclaimed : (i floor : ℕ) (xs : List (Piece C)) → names (reclaimed_at i floor xs) ≡ names xs
  names_reclaimed i floor [] = refl
  names_reclaimed zero floor (x ∷ xs) = refl
  names_reclaimed (suc i) floor (x ∷ xs) = ap (λ l. proc_of x.name ∷ l) (names_reclaimed i floor xs)

  all_reclaimed : (P : Piece C → Type 0) (floor : ℕ) → ((x : Piece C) → P x → P (reclaimed floor x)) → (i : ℕ) (xs : List (Piece C)) → All P xs → All P (reclaimed_at i floor xs)
  all_reclaimed P floor keeps i [] h = h
  all_reclaimed P floor keeps zero (x ∷ xs) h = All-cons P (reclaimed floor x) xs (keeps x (All-head P x xs h)) (All-tail P x xs h)
  all_reclaimed P floor keeps (suc i) (x ∷ xs) h = All-cons P x (reclaimed_at i floor xs) (All-head P x xs h) (all_reclaimed P floor keeps i xs (All-tail P x xs h))

  pub sound_reclaimed : (need : C → ℕ) (homes more : BTreeMap ℕ Home) (next low floor i : ℕ) (xs : List (Piece C)) (x : Piece C) → slice_get xs i ≡ Some x
      → ((p : ℕ) → list_any (is_droppable_at floor p) x.clauses ≡ false → tree.get nat_cmp more p ≡ tree.get nat_cmp homes p)
      → ((p : ℕ) → length (filter (λ d. d.place == p) x.clauses) ≤ 1)
      → IsSound need xs homes next low → IsSound need (reclaimed_at i floor xs) more (max next floor) (max low floor)
  sound_reclaimed need homes more next low floor i xs x at stay once s = record {
    homed = homed_reclaimed floor need homes more x.clauses stay (0 + i) (home_here need homes 0 i xs x at s.homed) once 0 i refl xs x at refl s.homed;
    later = all_reclaimed Later floor (λ y m. All-filter (is_left floor) (λ (d : DatedClause C). d.place < max next floor) y.clauses m) i xs
        (All-weaker (λ (y : Piece C). All (λ d. d.place < next) y.clauses) Later (λ y m. All-weaker (λ (d : DatedClause C). d.place < next) (λ (d : DatedClause C). d.place < max next floor) (λ d u. let v = most next floor in omega (arith, u, v)) y.clauses m) xs s.later);
    low = let m = s.low in omega (arith, m);
    apart = subst Apart (sym (names_reclaimed i floor xs)) s.apart;
  }
    where
      Later : Piece C → Type 0
      Later y = All (λ d. d.place < max next floor) y.clauses

  piece_forgotten : (g floor : ℕ) → floor ≤ g → (x : Piece C) → piece_access g (reclaimed floor x) ≡ piece_access g x
  piece_forgotten g floor le x = go x.access
    where
      go : (o : Option Access) → access_when o x.since g (filter (is_remembered floor) x.lives) ≡ access_when o x.since g x.lives
      go None = forgotten None g floor le x.lives
      go (Some a) = ap (λ r. cond (nat_lt x.since g) (Some a) r) (forgotten None g floor le x.lives)

  told_reclaimed : {Y : Type 0} (F : Option (Piece C) → Y) (floor : ℕ) → ((x : Piece C) → F (Some (reclaimed floor x)) ≡ F (Some x)) → (i : ℕ) (xs : List (Piece C)) (q : entries.Proc) → F (find (is_part_of q) (reclaimed_at i floor xs)) ≡ F (find (is_part_of q) xs)
  told_reclaimed {Y} F floor same i [] q = refl
  told_reclaimed {Y} F floor same zero (x ∷ xs) q = go (is_part_of q x)
    where
      go : (b : Bool) → F (cond b (Some (reclaimed floor x)) (find (is_part_of q) xs)) ≡ F (cond b (Some x) (find (is_part_of q) xs))
      go true = same x
      go false = refl
  told_reclaimed {Y} F floor same (suc i) (x ∷ xs) q = go (is_part_of q x) (told_reclaimed F floor same i xs q)
    where
      go : (b : Bool) → F (find (is_part_of q) (reclaimed_at i floor xs)) ≡ F (find (is_part_of q) xs) → F (cond b (Some x) (find (is_part_of q) (reclaimed_at i floor xs))) ≡ F (cond b (Some x) (find (is_part_of q) xs))
      go true ih = refl
      go false ih = ih

  clauses_reclaimed : (i floor : ℕ) (xs : List (Piece C)) (q : entries.Proc) → (b : Bool) × (clauses_at (reclaimed_at i floor xs) q ≡ cond b (filter (is_left floor) (clauses_at xs q)) (clauses_at xs q))
  clauses_reclaimed i floor [] q = (false, refl)
  clauses_reclaimed zero floor (x ∷ xs) q = go (is_part_of q x)
    where
      of : Option (Piece C) → List (DatedClause C)
      of o = option_map_or (λ (y : Piece C). y.clauses) o []

      go : (b : Bool) → (r : Bool) × (of (cond b (Some (reclaimed floor x)) (find (is_part_of q) xs)) ≡ cond r (filter (is_left floor) (of (cond b (Some x) (find (is_part_of q) xs)))) (of (cond b (Some x) (find (is_part_of q) xs))))
      go true = (true, refl)
      go false = (false, refl)
  clauses_reclaimed (suc i) floor (x ∷ xs) q = go (is_part_of q x) (clauses_reclaimed i floor xs q)
    where
      of : Option (Piece C) → List (DatedClause C)
      of o = option_map_or (λ (y : Piece C). y.clauses) o []

      go : (b : Bool) → (r : Bool) × (clauses_at (reclaimed_at i floor xs) q ≡ cond r (filter (is_left floor) (clauses_at xs q)) (clauses_at xs q))
          → (r : Bool) × (of (cond b (Some x) (find (is_part_of q) (reclaimed_at i floor xs))) ≡ cond r (filter (is_left floor) (of (cond b (Some x) (find (is_part_of q) xs)))) (of (cond b (Some x) (find (is_part_of q) xs))))
      go true ih = (false, refl)
      go false ih = ih

  -- What is left of what is kept.
  gone_either : (from floor : ℕ) (s : Stored C) → is_gone (max from floor) s ≡ (is_gone from s || is_gone floor s)
  gone_either from floor s = go s.erased
    where
      or_lt : (k : ℕ) (a b : Bool) → nat_lt k from ≡ a → nat_lt k floor ≡ b → nat_lt k (max from floor) ≡ (a || b)
      or_lt k true b u v = lt-ltb k (max from floor) (let m = ltb-true k from u in let n = most from floor in omega (arith, m, n))
      or_lt k false true u v = lt-ltb k (max from floor) (let m = ltb-true k floor v in let n = most_right from floor in omega (arith, m, n))
      or_lt k false false u v = le-ltb k (max from floor) (let m = ltb-false k from u in let n = ltb-false k floor v in omega (arith, m, n))

      go : (o : Option ℕ) → option_map_or (λ k. nat_lt k (max from floor)) o false ≡ (option_map_or (λ k. nat_lt k from) o false || option_map_or (λ k. nat_lt k floor) o false)
      go None = refl
      go (Some k) = or_lt k (nat_lt k from) (nat_lt k floor) refl refl

  abbrev keep : ℕ → List (Stored C) → List (DatedClause C)
  keep from ss = map dated (filter (λ s. not (is_gone from s)) ss)

  left_of_kept : (from floor : ℕ) (ss : List (Stored C)) → filter (is_left floor) (keep from ss) ≡ keep (max from floor) ss
  left_of_kept from floor [] = refl
  left_of_kept from floor (s ∷ ss) =
      go (is_gone from s) (is_gone floor s) refl (left_of_kept from floor ss)
      ∙ sym (ap (λ b. map dated (cond (not b) (s ∷ filter (λ s. not (is_gone (max from floor) s)) ss) (filter (λ s. not (is_gone (max from floor) s)) ss))) (gone_either from floor s))
    where
      go : (a b : Bool) → is_gone floor s ≡ b → filter (is_left floor) (keep from ss) ≡ keep (max from floor) ss → filter (is_left floor) (map dated (cond (not a) (s ∷ filter (λ s. not (is_gone from s)) ss) (filter (λ s. not (is_gone from s)) ss)))
          ≡ map dated (cond (not (a || is_gone floor s)) (s ∷ filter (λ s. not (is_gone (max from floor) s)) ss) (filter (λ s. not (is_gone (max from floor) s)) ss))
      go true b e ih = ih
      go false true e ih =
          ap (λ r. cond (not r) (dated s ∷ filter (is_left floor) (keep from ss)) (filter (is_left floor) (keep from ss))) e
          ∙ ih
          ∙ sym (ap (λ r. map dated (cond (not r) (s ∷ filter (λ s. not (is_gone (max from floor) s)) ss) (filter (λ s. not (is_gone (max from floor) s)) ss))) e)
      go false false e ih =
          ap (λ r. cond (not r) (dated s ∷ filter (is_left floor) (keep from ss)) (filter (is_left floor) (keep from ss))) e
          ∙ ap (λ l. dated s ∷ l) ih
          ∙ sym (ap (λ r. map dated (cond (not r) (s ∷ filter (λ s. not (is_gone (max from floor) s)) ss) (filter (λ s. not (is_gone (max from floor) s)) ss))) e)

  -- Where all updates lie below the floor, what is left is what the floor sees.
  left_seen : (n floor : ℕ) → n ≤ floor → (ss : List (Stored C)) → All (λ s. s.place < n) ss → filter (λ s. not (is_gone floor s)) ss ≡ filter (is_visible floor) ss
  left_seen n floor le [] h = refl
  left_seen n floor le (s ∷ ss) h =
      ap₂ (λ b l. cond b (s ∷ l) l) (same s.erased) (left_seen n floor le ss (All-tail (λ (x : Stored C). x.place < n) s ss h))
    where
      turned : (a b : ℕ) → not (nat_lt a b) ≡ nat_le b a
      turned a b = go (nat_lt a b) refl
        where
          go : (r : Bool) → nat_lt a b ≡ r → not r ≡ nat_le b a
          go true e = sym (lt-leb b a (ltb-true a b e))
          go false e = sym (le-leb b a (ltb-false a b e))

      same : (o : Option ℕ) → not (option_map_or (λ k. nat_lt k floor) o false) ≡ (nat_lt s.place floor && elim o [ None ↦ true | Some k ↦ nat_le floor k ])
      same o =
          bare o
          ∙ sym (ap (λ b. b && elim o [ None ↦ true | Some k ↦ nat_le floor k ]) (lt-ltb s.place floor (let m = All-head (λ (x : Stored C). x.place < n) s ss h in omega (arith, m, le))))
        where
          bare : (o : Option ℕ) → not (option_map_or (λ k. nat_lt k floor) o false) ≡ elim o [ None ↦ true | Some k ↦ nat_le floor k ]
          bare None = refl
          bare (Some k) = turned k floor

  module _ (need : C → ℕ) (h : Held C) (d : ℕ → Database C) (s : StandsFor need h d) (floor i : ℕ) where
    last : d (max h.next floor) ≡ d h.next
    last = s.rests (max h.next floor) (most h.next floor)

    now : StandsNow need (reclaimed_held i floor h) (d h.next)
    now = record {
      access = λ q. ap (option_map access_of) (told_reclaimed (option_and_then (λ (x : Piece C). x.access)) floor (λ x. refl) i h.parts q) ∙ s.newest.access q;
      clauses = kept;
      used = s.newest.used;
      before = All-weaker (λ (x : Stored C). x.place < h.next) (λ (x : Stored C). x.place < max h.next floor) (λ x m. let u = most h.next floor in omega (arith, m, u)) (d h.next).clauses s.newest.before;
      once = s.newest.once;
    }
      where
        kept : (q : entries.Proc) → Keeps (max h.floor floor) q (d h.next) (clauses_at (reclaimed_at i floor h.parts) q)
        kept q = let r = clauses_reclaimed i floor h.parts q in go r.0 r.1
          where
            go : (b : Bool) → clauses_at (reclaimed_at i floor h.parts) q ≡ cond b (filter (is_left floor) (clauses_at h.parts q)) (clauses_at h.parts q) → Keeps (max h.floor floor) q (d h.next) (clauses_at (reclaimed_at i floor h.parts) q)
            go true e =
                let t = s.newest.clauses q in
                let m = t.low in
                record {
                  from = max t.from floor;
                  low = omega (arith, m);
                  are = e ∙ ap (filter (is_left floor)) t.are ∙ left_of_kept t.from floor (filter (is_of q) (d h.next).clauses);
                }
            go false e =
                let t = s.newest.clauses q in
                let m = t.low in
                record { from = t.from; low = omega (arith, m); are = e ∙ t.are }

    pub stands_reclaimed : StandsFor need (reclaimed_held i floor h) d
    stands_reclaimed = record {
      newest = subst (StandsNow need (reclaimed_held i floor h)) (sym last) now;
      low = let m = s.low in omega (arith, m);
      rests = λ g m. s.rests g (let u = most h.next floor in omega (arith, m, u)) ∙ sym last;
      access = λ g low p.
          ap (option_map access_of) (told_reclaimed (option_and_then (piece_access g)) floor (λ x. piece_forgotten g floor (let u = most_right h.floor floor in omega (arith, low, u)) x) i h.parts p)
          ∙ s.access g (let u = most h.floor floor in omega (arith, low, u)) p;
      views = λ g low p. s.views g (let u = most h.floor floor in omega (arith, low, u)) p ∙ ap (λ x. named_clauses (seen g p x)) (sym last);
      lived = all_reclaimed (LivedBelow (max h.next floor)) floor (λ x m. (m.0, All-filter (is_remembered floor) (λ (l : Life). l.until < max h.next floor) x.lives m.1)) i h.parts
          (All-weaker (LivedBelow h.next) (LivedBelow (max h.next floor)) (λ x m. let a = m.0 in let u = most h.next floor in
          ((omega (arith, a, u)), All-weaker (λ (l : Life). l.until < h.next) (λ (l : Life). l.until < max h.next floor) (λ l v. omega (arith, u, v)) x.lives m.1)) h.parts s.lived);
    }

    -- Exactly the clauses that the floor sees are left, where no update lies after it.
    pub left_is_seen : h.next ≤ floor → Apart (names h.parts) → (x : Piece C) → slice_get h.parts i ≡ Some x → filter (is_left floor) x.clauses ≡ map dated (seen floor (proc_of x.name) (d floor))
    left_is_seen le apart x at =
        let p = proc_of x.name in
        let t = s.newest.clauses p in
        let m = t.low in
        let u = s.low in
        let from : max t.from floor ≡ floor = omega (arith, m, u, le) in
        ap (filter (is_left floor)) (sym (own_clauses i h.parts x apart at) ∙ t.are)
        ∙ left_of_kept t.from floor (filter (is_of p) (d h.next).clauses)
        ∙ ap (λ n. keep n (filter (is_of p) (d h.next).clauses)) from
        ∙ ap (map dated) (left_seen h.next floor le (filter (is_of p) (d h.next).clauses) (All-filter (is_of p) (λ (y : Stored C). y.place < h.next) (d h.next).clauses s.newest.before))
        ∙ sym (ap (map dated) (seen_of floor p (d h.next).clauses))
        ∙ ap (λ y. map dated (seen floor p y)) (sym (s.rests floor le))

module _ {C K : Type 0} (floor : ℕ) where
  -- The procedures as a list of parts.
  pub set_reclaimed : (xs : List (ProcedureClauses C K)) (i : ℕ) (d z : ProcedureClauses C K) → i < length xs → piece z ≡ reclaimed floor (piece (slice_index_or xs i d)) → map piece (slice_set xs i z) ≡ reclaimed_at i floor (map piece xs)
  set_reclaimed [] i d z l e = absurd (omega (arith, l))
  set_reclaimed (x ∷ xs) zero d z l e = ap (λ y. y ∷ map piece xs) e
  set_reclaimed (x ∷ xs) (suc i) d z l e = ap (λ l. piece x ∷ l) (set_reclaimed xs i d z (omega (arith, l)) e)

module _ {C : Type 0} where
  get_reclaimed : (i floor : ℕ) (xs : List (Piece C)) → slice_get (reclaimed_at i floor xs) i ≡ option_map (reclaimed floor) (slice_get xs i)
  get_reclaimed i floor [] = refl
  get_reclaimed zero floor (x ∷ xs) = refl
  get_reclaimed (suc i) floor (x ∷ xs) = get_reclaimed i floor xs

  is_there : (i : ℕ) (xs : List (Piece C)) → i < length xs → (x : Piece C) × (slice_get xs i ≡ Some x)
  is_there i [] l = absurd (omega (arith, l))
  is_there zero (x ∷ xs) l = (x, refl)
  is_there (suc i) (x ∷ xs) l = is_there i xs (omega (arith, l))

  pub sound_dropped : (need : C → ℕ) (homes more : BTreeMap ℕ Home) (next low floor i : ℕ) (xs : List (Piece C)) (places : List ℕ) (clauses : List C) → i < length xs
      → IfSome (slice_get xs i) (λ x. IsDropped floor x.clauses places clauses)
      → ((k : ℕ) → list_any (λ q. q == k) places ≡ false → tree.get nat_cmp more k ≡ tree.get nat_cmp homes k)
      → IsSound need xs homes next low → IsSound need (reclaimed_at i floor xs) more (max next floor) (max low floor)
  sound_dropped need homes more next low floor i xs places clauses l drops stay s =
      let x = is_there i xs l in
      let t : IsDropped floor x.0.clauses places clauses = subst (λ o. IfSome o (λ y. IsDropped floor y.clauses places clauses)) x.1 drops in
      sound_reclaimed need homes more next low floor i xs x.0 x.1 (λ p n. stay p (t.places_are p ∙ n)) t.once s

  pub left_at : (need : C → ℕ) (h new : Held C) (b : ℕ → Database C) → StandsFor need h b → (floor i : ℕ) → new ≡ reclaimed_held i floor h → h.next ≤ floor → Apart (names h.parts)
      → IfSome (slice_get new.parts i) (λ x. x.clauses ≡ map dated (seen floor (proc_of x.name) (b floor)))
  left_at need h new b s floor i is le apart =
      subst (λ n. IfSome (slice_get n.parts i) (λ x. x.clauses ≡ map dated (seen floor (proc_of x.name) (b floor)))) (sym is)
      (subst (λ o. IfSome o (λ x. x.clauses ≡ map dated (seen floor (proc_of x.name) (b floor)))) (sym (get_reclaimed i floor h.parts)) (go (slice_get h.parts i) refl))
    where
      go : (o : Option (Piece C)) → slice_get h.parts i ≡ o → IfSome (option_map (reclaimed floor) o) (λ x. x.clauses ≡ map dated (seen floor (proc_of x.name) (b floor)))
      go None e = tt
      go (Some x) e = left_is_seen need h b s floor i le apart x e
