-- An erased clause, beside the same in the database of the definitions.
use Rattle.std.proofs.Common.{◌≡◌, ◌+◌, ◌-◌, ◌<◌, ◌≤◌, ℕ, zero, suc, List, [], ◌∷◌, find, filter, map, length, Option, Some, None, Bool, true, false, cond, not, ◌&&◌, ◌||◌, refl, ap, ap₂, sym, subst, ◌∙◌, arith}
use Rattle.std.specs.Prelude.{All, is_some, nat_lt, ◌==◌, slice_index_or, slice_set}
use Rattle.std.specs.List.{list_any, slice_get}
use Rattle.std.specs.Option.{option_map, option_map_or, option_and_then}
use Rattle.std.specs.Ordering.{nat_cmp}
use Rattle.std.specs.Result.{IfOk}
use Rattle.std.specs.declared.result.Result.{Result}
use Rattle.std.specs.declared.result.Result.TheVariants.{Ok, Err}
use Rattle.std.specs.BTreeMap as tree
use Rattle.std.specs.BTreeMap.{BTreeMap}
use Rattle.std.proofs.lemmas.Bool.{false≢true}
use Rattle.std.proofs.lemmas.List.Elements.{All-head, All-tail, All-cons, All-nil, All-map, All-weaker}
use borrow.Author.Tests.{eqb-true, ltb-true}
use Rattle.pl_model.specs.History as entries
use Rattle.pl_model.specs.laws.Shown.{proc_of}
use Rattle.pl_model.specs.Database.{Database, Stored, is_of, is_at, is_erased, is_there, cells_of, erased_where, without_clause}
use Rattle.gen_core.specs.declared.dated_clause.DatedClause.{DatedClause}
use Rattle.gen_core.specs.Visible.{is_live, erased_by}
use Rattle.clause_db.specs.declared.parts.ProcedureClauses.{ProcedureClauses}
use Rattle.clause_db.specs.declared.db.Home.{Home}
use Rattle.clause_db.specs.Access.{access_of}
use Rattle.clause_db.specs.Parts.{Held, Piece, piece, is_part_of, clauses_at, piece_access, access_now, access_at, without_place, without_at, has_live}
use Rattle.clause_db.specs.Sound.{Homed, Apart, IsSound, names}
use Rattle.clause_db.specs.Stands.{dated, is_gone, StandsNow}
use Rattle.clause_db.proofs.Homes.{IsHome}
use Rattle.clause_db.proofs.Procs.{same_self}
use Rattle.clause_db.proofs.Standing.{names_without, own_clauses}
use Rattle.clause_db.proofs.Retries.{home_found}

or_more : (b c : Bool) → c ≡ true → (b || c) ≡ true
or_more true c m = refl
or_more false c m = m

not_yet : (k from : ℕ) → from ≤ k → nat_lt k from ≡ false
not_yet k from l = go (nat_lt k from) refl
  where
    go : (b : Bool) → nat_lt k from ≡ b → nat_lt k from ≡ false
    go true e = absurd (let m = ltb-true k from e in omega (arith, l, m))
    go false e = e

both : (a b : Bool) → (a ≡ true → b ≡ true) → (b ≡ true → a ≡ true) → a ≡ b
both true true f g = refl
both true false f g = absurd (false≢true (f refl))
both false true f g = absurd (false≢true (g refl))
both false false f g = refl

pub if_ok : {T E : Type 0} (r : Result T E) (P Q : T → Type 0) → ((x : T) → P x → Q x) → IfOk r P → IfOk r Q
if_ok (Ok x) P Q f h = f x h
if_ok (Err e) P Q f h = tt

pub if_both : {T E : Type 0} (r : Result T E) (P O Q : T → Type 0) → ((x : T) → P x → O x → Q x) → IfOk r P → IfOk r O → IfOk r Q
if_both (Ok x) P O Q f h k = f x h k
if_both (Err e) P O Q f h k = tt

-- The procedures as a list of parts.
module _ {C K : Type 0} (j k : ℕ) where
  pub set_without : (xs : List (ProcedureClauses C K)) (i : ℕ) (d z : ProcedureClauses C K) → i < length xs → piece z ≡ without_place j k (piece (slice_index_or xs i d)) → map piece (slice_set xs i z) ≡ without_at i j k (map piece xs)
  set_without [] i d z l e = absurd (omega (arith, l))
  set_without (x ∷ xs) zero d z l e = ap (λ y. y ∷ map piece xs) e
  set_without (x ∷ xs) (suc i) d z l e = ap (λ l. piece x ∷ l) (set_without xs i d z (omega (arith, l)) e)

  pub past_without : (xs : List (ProcedureClauses C K)) (i : ℕ) → length xs ≤ i → without_at i j k (map piece xs) ≡ map piece xs
  past_without [] i l = refl
  past_without (x ∷ xs) zero l = absurd (omega (arith, l))
  past_without (x ∷ xs) (suc i) l = ap (λ l. piece x ∷ l) (past_without xs i (omega (arith, l)))

  pub get_piece : (xs : List (ProcedureClauses C K)) (i : ℕ) (d : ProcedureClauses C K) → i < length xs → slice_get (map piece xs) i ≡ Some (piece (slice_index_or xs i d))
  get_piece [] i d l = absurd (omega (arith, l))
  get_piece (x ∷ xs) zero d l = refl
  get_piece (x ∷ xs) (suc i) d l = get_piece xs i d (omega (arith, l))

  pub get_past : (xs : List (ProcedureClauses C K)) (i : ℕ) → length xs ≤ i → ◌≡◌ {A = Option (Piece C)} (slice_get (map piece xs) i) None
  get_past [] i l = refl
  get_past (x ∷ xs) zero l = absurd (omega (arith, l))
  get_past (x ∷ xs) (suc i) l = get_past xs i (omega (arith, l))

module _ {C : Type 0} (j k : ℕ) where
  abbrev pub at_live : DatedClause C → Bool
  at_live d = (d.place == j) && is_live d

  abbrev pub any_live : List (DatedClause C) → Bool
  any_live ds = list_any at_live ds

  abbrev pub stored_live : Stored C → Bool
  stored_live s = is_at j s && not (is_erased s)

  -- Where no clause of the place is left, none is erased.
  pub none_erased : (ds : List (DatedClause C)) → any_live ds ≡ false → map (erased_by j k) ds ≡ ds
  none_erased [] e = refl
  none_erased (d ∷ ds) e = go (at_live d) refl e (none_erased ds)
    where
      go : (b : Bool) → at_live d ≡ b → (b || any_live ds) ≡ false → (any_live ds ≡ false → map (erased_by j k) ds ≡ ds) → erased_by j k d ∷ map (erased_by j k) ds ≡ d ∷ ds
      go true u m ih = absurd (false≢true (sym m))
      go false u m ih = ap₂ (λ y l. y ∷ l) (ap (λ b. cond b (record d { erased = Some k }) d) u) (ih m)

  pub any_place : (ds : List (DatedClause C)) → any_live ds ≡ true → list_any (λ d. d.place == j) ds ≡ true
  any_place [] e = e
  any_place (d ∷ ds) e = go (d.place == j) (is_live d) e (any_place ds)
    where
      go : (a b : Bool) → ((a && b) || any_live ds) ≡ true → (any_live ds ≡ true → list_any (λ d. d.place == j) ds ≡ true) → (a || list_any (λ d. d.place == j) ds) ≡ true
      go true b m ih = refl
      go false b m ih = ih m

  no_home : (need : C → ℕ) (homes : BTreeMap ℕ Home) (n m cells : ℕ) → tree.get nat_cmp homes j ≡ Some (record { part = m; cells = cells }) → (n ≡ m → false ≡ true) → (ds : List (DatedClause C)) → All (IsHome need homes n) ds → any_live ds ≡ false
  no_home need homes n m cells at apart [] h = refl
  no_home need homes n m cells at apart (d ∷ ds) h =
      go (d.place == j) refl (All-head (IsHome need homes n) d ds h) (no_home need homes n m cells at apart ds (All-tail (IsHome need homes n) d ds h))
    where
      go : (b : Bool) → (d.place == j) ≡ b → IsHome need homes n d → any_live ds ≡ false → ((b && is_live d) || any_live ds) ≡ false
      go true e u ih =
          let place : d.place ≡ j = eqb-true d.place j e in
          absurd (false≢true (apart (ap (λ o. option_map_or (λ (y : Home). y.part) o 0) (sym u ∙ ap (tree.get nat_cmp homes) place ∙ at))))
      go false e u ih = ih

  pub same_piece : (x : Piece C) → any_live x.clauses ≡ false → without_place j k x ≡ x
  same_piece x e = ap (λ ds. record x { clauses = ds }) (none_erased x.clauses e)

  rest_same : (need : C → ℕ) (homes : BTreeMap ℕ Home) (n m cells : ℕ) → tree.get nat_cmp homes j ≡ Some (record { part = m; cells = cells }) → m < n → (xs : List (Piece C)) → Homed need homes n xs → map (without_place j k) xs ≡ xs
  rest_same need homes n m cells at l [] h = refl
  rest_same need homes n m cells at l (x ∷ xs) h =
      ap₂ (λ y ys. y ∷ ys) (same_piece x (no_home need homes n m cells at (λ e. absurd (omega (arith, l, e))) x.clauses h.0)) (rest_same need homes (suc n) m cells at (omega (arith, l)) xs h.1)

  -- Only the procedure at which the clause has its home changes.
  pub without_all : (need : C → ℕ) (homes : BTreeMap ℕ Home) (n i cells : ℕ) → tree.get nat_cmp homes j ≡ Some (record { part = n + i; cells = cells }) → (xs : List (Piece C)) → Homed need homes n xs → without_at i j k xs ≡ map (without_place j k) xs
  without_all need homes n i cells at [] h = refl
  without_all need homes n zero cells at (x ∷ xs) h =
      ap (λ ys. without_place j k x ∷ ys) (sym (rest_same need homes (suc n) (n + 0) cells at (omega arith) xs h.1))
  without_all need homes n (suc i) cells at (x ∷ xs) h =
      ap₂ (λ y ys. y ∷ ys) (sym (same_piece x (no_home need homes n (n + suc i) cells at (λ e. absurd (omega (arith, e))) x.clauses h.0)))
      (without_all need homes (suc n) i cells (at ∙ ap (λ m. Some (record { part = m; cells = cells })) (omega arith)) xs h.1)

  pub clauses_without : (xs : List (Piece C)) (q : entries.Proc) → clauses_at (map (without_place j k) xs) q ≡ map (erased_by j k) (clauses_at xs q)
  clauses_without [] q = refl
  clauses_without (x ∷ xs) q = go (is_part_of q x) (clauses_without xs q)
    where
      of : Option (Piece C) → List (DatedClause C)
      of o = option_map_or (λ (y : Piece C). y.clauses) o []

      go : (b : Bool) → of (find (is_part_of q) (map (without_place j k) xs)) ≡ map (erased_by j k) (of (find (is_part_of q) xs))
          → of (cond b (Some (without_place j k x)) (find (is_part_of q) (map (without_place j k) xs))) ≡ map (erased_by j k) (of (cond b (Some x) (find (is_part_of q) xs)))
      go true ih = refl
      go false ih = ih

  pub access_without : (xs : List (Piece C)) (q : entries.Proc) → access_now (map (without_place j k) xs) q ≡ access_now xs q
  access_without [] q = refl
  access_without (x ∷ xs) q = go (is_part_of q x) (access_without xs q)
    where
      go : (b : Bool) → access_now (map (without_place j k) xs) q ≡ access_now xs q
          → option_and_then (λ (y : Piece C). y.access) (cond b (Some (without_place j k x)) (find (is_part_of q) (map (without_place j k) xs))) ≡ option_and_then (λ (y : Piece C). y.access) (cond b (Some x) (find (is_part_of q) xs))
      go true ih = refl
      go false ih = ih

  pub at_without : (g : ℕ) (xs : List (Piece C)) (q : entries.Proc) → access_at g (map (without_place j k) xs) q ≡ access_at g xs q
  at_without g [] q = refl
  at_without g (x ∷ xs) q = go (is_part_of q x) (at_without g xs q)
    where
      go : (b : Bool) → access_at g (map (without_place j k) xs) q ≡ access_at g xs q
          → option_and_then (piece_access g) (cond b (Some (without_place j k x)) (find (is_part_of q) (map (without_place j k) xs))) ≡ option_and_then (piece_access g) (cond b (Some x) (find (is_part_of q) xs))
      go true ih = refl
      go false ih = ih

  gone_erased : (from : ℕ) (s : Stored C) → is_gone from s ≡ true → is_some s.erased ≡ true
  gone_erased from s h = go s.erased h
    where
      go : (e : Option ℕ) → option_map_or (λ k. nat_lt k from) e false ≡ true → is_some e ≡ true
      go None n = absurd (false≢true n)
      go (Some k) n = refl

  gone_dead : (from : ℕ) (s : Stored C) → is_gone from s ≡ true → stored_live s ≡ false
  gone_dead from s h = go (s.place == j) (gone_erased from s h)
    where
      go : (b : Bool) → is_some s.erased ≡ true → (b && not (is_some s.erased)) ≡ false
      go true e = ap not e
      go false e = refl

  abbrev keep : ℕ → List (Stored C) → List (DatedClause C)
  keep from ss = map dated (filter (λ s. not (is_gone from s)) ss)

  -- What is not erased is kept.
  pub any_kept : (from : ℕ) (ss : List (Stored C)) → any_live (keep from ss) ≡ list_any stored_live ss
  any_kept from [] = refl
  any_kept from (s ∷ ss) = go (is_gone from s) refl (any_kept from ss)
    where
      go : (b : Bool) → is_gone from s ≡ b → any_live (keep from ss) ≡ list_any stored_live ss
          → any_live (map dated (cond (not b) (s ∷ filter (λ s. not (is_gone from s)) ss) (filter (λ s. not (is_gone from s)) ss))) ≡ (stored_live s || list_any stored_live ss)
      go true e ih = ih ∙ sym (ap (λ b. b || list_any stored_live ss) (gone_dead from s e))
      go false e ih = ap (λ b. stored_live s || b) ih

  pub there_of : (ss : List (Stored C)) → list_any stored_live ss ≡ true → (q : entries.Proc) × (list_any stored_live (filter (is_of q) ss) ≡ true)
  there_of [] a = absurd (false≢true a)
  there_of (s ∷ ss) a = go (stored_live s) refl a (there_of ss)
    where
      go : (b : Bool) → stored_live s ≡ b → (b || list_any stored_live ss) ≡ true → (list_any stored_live ss ≡ true → (q : entries.Proc) × (list_any stored_live (filter (is_of q) ss) ≡ true))
          → (q : entries.Proc) × (list_any stored_live (filter (is_of q) (s ∷ ss)) ≡ true)
      go true e m ih = (
        s.procedure,
        ap (λ b. list_any stored_live (cond b (s ∷ filter (is_of s.procedure) ss) (filter (is_of s.procedure) ss))) (same_self s.procedure)
            ∙ ap (λ b. b || list_any stored_live (filter (is_of s.procedure) ss)) e,
      )
      go false e m ih = let f = ih m in (f.0, more (is_of f.0 s) f.0 f.1)
        where
          more : (b : Bool) (q : entries.Proc) → list_any stored_live (filter (is_of q) ss) ≡ true → list_any stored_live (cond b (s ∷ filter (is_of q) ss) (filter (is_of q) ss)) ≡ true
          more true q h = or_more (stored_live s) (list_any stored_live (filter (is_of q) ss)) h
          more false q h = h

  pub of_there : (q : entries.Proc) (ss : List (Stored C)) → list_any stored_live (filter (is_of q) ss) ≡ true → list_any stored_live ss ≡ true
  of_there q [] a = a
  of_there q (s ∷ ss) a = go (is_of q s) (stored_live s) refl a (of_there q ss)
    where
      go : (b c : Bool) → stored_live s ≡ c → list_any stored_live (cond b (s ∷ filter (is_of q) ss) (filter (is_of q) ss)) ≡ true → (list_any stored_live (filter (is_of q) ss) ≡ true → list_any stored_live ss ≡ true)
          → (stored_live s || list_any stored_live ss) ≡ true
      go true true e m ih = ap (λ b. b || list_any stored_live ss) e
      go true false e m ih = or_more (stored_live s) (list_any stored_live ss) (ih (sym (ap (λ b. b || list_any stored_live (filter (is_of q) ss)) e) ∙ m))
      go false c e m ih = or_more (stored_live s) (list_any stored_live ss) (ih m)

  none_at_same : (ss : List (Stored C)) → length (filter (is_at j) ss) ≡ 0 → map (erased_where (is_at j) k) ss ≡ ss
  none_at_same [] z = refl
  none_at_same (s ∷ ss) z = go (is_at j s) refl z (none_at_same ss)
    where
      go : (b : Bool) → is_at j s ≡ b → length (cond b (s ∷ filter (is_at j) ss) (filter (is_at j) ss)) ≡ 0
          → (length (filter (is_at j) ss) ≡ 0 → map (erased_where (is_at j) k) ss ≡ ss) → erased_where (is_at j) k s ∷ map (erased_where (is_at j) k) ss ≡ s ∷ ss
      go true e y ih = absurd (omega (arith, y))
      go false e y ih = ap₂ (λ x xs. x ∷ xs) (ap (λ b. cond (b && not (is_erased s)) (record s { erased = Some k }) s) e) (ih y)

  -- The cells of the erased clause are no longer counted.
  pub cells_without : (need : C → ℕ) (n : ℕ) (ss : List (Stored C)) → length (filter (is_at j) ss) ≤ 1 → list_any stored_live ss ≡ true → All (λ s. stored_live s ≡ true → need s.clause ≡ n) ss
      → cells_of need (map (erased_where (is_at j) k) ss) + n ≡ cells_of need ss
  cells_without need n [] o a h = absurd (false≢true a)
  cells_without need n (s ∷ ss) o a h =
      go (s.place == j) refl o (is_some s.erased) refl a (All-head (λ (x : Stored C). stored_live x ≡ true → need x.clause ≡ n) s ss h)
      (λ u m. cells_without need n ss u m (All-tail (λ (x : Stored C). stored_live x ≡ true → need x.clause ≡ n) s ss h))
    where
      new : Bool → Bool → List (Stored C) → ℕ
      new b e rest = cells_of need (cond (b && not e) (record s { erased = Some k }) s ∷ rest)

      old : Bool → ℕ
      old e = cond e (cells_of need ss) (need s.clause + cells_of need ss)

      go : (b : Bool) → (s.place == j) ≡ b → length (cond b (s ∷ filter (is_at j) ss) (filter (is_at j) ss)) ≤ 1
          → (e : Bool) → is_some s.erased ≡ e → ((b && not e) || list_any stored_live ss) ≡ true → (stored_live s ≡ true → need s.clause ≡ n)
          → (length (filter (is_at j) ss) ≤ 1 → list_any stored_live ss ≡ true → cells_of need (map (erased_where (is_at j) k) ss) + n ≡ cells_of need ss)
          → new (s.place == j) (is_some s.erased) (map (erased_where (is_at j) k) ss) + n ≡ old (is_some s.erased)
      go true u o false w m c ih =
          let cost = c (ap₂ (λ x y. x && not y) u w) in
          let rest = ap (cells_of need) (none_at_same ss (omega (arith, o))) in
          rw (u, w) (omega (arith, cost, rest))
      go true u o true w m c ih = rw (u, w) (ap (λ e. cond e (cells_of need (map (erased_where (is_at j) k) ss)) (need s.clause + cells_of need (map (erased_where (is_at j) k) ss)) + n) w ∙ ih (omega (arith, o)) m)
      go false u o false w m c ih = let rest = ih o m in rw (u, w) (omega (arith, rest))
      go false u o true w m c ih = rw (u, w) (ih o m)

  -- What the home says that the clause costs.
  pub cost_at : (need : C → ℕ) (homes : BTreeMap ℕ Home) (home : Home) → tree.get nat_cmp homes j ≡ Some home → (n : ℕ) (xs : List (Piece C)) → Homed need homes n xs → (q : entries.Proc)
      → All (λ d. at_live d ≡ true → need d.clause ≡ home.cells) (clauses_at xs q)
  cost_at need homes home at n [] h q = All-nil (λ (d : DatedClause C). at_live d ≡ true → need d.clause ≡ home.cells)
  cost_at need homes home at n (x ∷ xs) h q = go (is_part_of q x) (cost_at need homes home at (suc n) xs h.1 q)
    where
      place_of : (d : DatedClause C) → at_live d ≡ true → d.place ≡ j
      place_of d e = by (d.place == j) refl e
        where
          by : (b : Bool) → (d.place == j) ≡ b → (b && is_live d) ≡ true → d.place ≡ j
          by true u m = eqb-true d.place j u
          by false u m = absurd (false≢true m)

      go : (b : Bool) → All (λ d. at_live d ≡ true → need d.clause ≡ home.cells) (clauses_at xs q)
          → All (λ d. at_live d ≡ true → need d.clause ≡ home.cells) (option_map_or (λ (y : Piece C). y.clauses) (cond b (Some x) (find (is_part_of q) xs)) [])
      go true ih = λ i d l u. ap (λ o. option_map_or (λ (y : Home). y.cells) o 0) (sym (h.0 i d l) ∙ ap (tree.get nat_cmp homes) (place_of (slice_index_or x.clauses i d) u) ∙ at)
      go false ih = ih

  cost_kept : (from n : ℕ) (need : C → ℕ) (ss : List (Stored C)) → All (λ d. at_live d ≡ true → need d.clause ≡ n) (keep from ss) → All (λ s. stored_live s ≡ true → need s.clause ≡ n) ss
  cost_kept from n need [] h = All-nil (λ (s : Stored C). stored_live s ≡ true → need s.clause ≡ n)
  cost_kept from n need (s ∷ ss) h = go (is_gone from s) refl h (cost_kept from n need ss)
    where
      go : (b : Bool) → is_gone from s ≡ b → All (λ d. at_live d ≡ true → need d.clause ≡ n) (map dated (cond (not b) (s ∷ filter (λ s. not (is_gone from s)) ss) (filter (λ s. not (is_gone from s)) ss)))
          → (All (λ d. at_live d ≡ true → need d.clause ≡ n) (keep from ss) → All (λ s. stored_live s ≡ true → need s.clause ≡ n) ss) → All (λ s. stored_live s ≡ true → need s.clause ≡ n) (s ∷ ss)
      go true e m ih = All-cons (λ (s : Stored C). stored_live s ≡ true → need s.clause ≡ n) s ss (λ u. absurd (false≢true (sym (gone_dead from s e) ∙ u))) (ih m)
      go false e m ih =
          All-cons (λ (s : Stored C). stored_live s ≡ true → need s.clause ≡ n) s ss (All-head (λ (d : DatedClause C). at_live d ≡ true → need d.clause ≡ n) (dated s) (keep from ss) m)
          (ih (All-tail (λ (d : DatedClause C). at_live d ≡ true → need d.clause ≡ n) (dated s) (keep from ss) m))

  cost_all : (R : Stored C → Type 0) (ss : List (Stored C)) → ((q : entries.Proc) → All R (filter (is_of q) ss)) → All R ss
  cost_all R [] h = All-nil R
  cost_all R (s ∷ ss) h = All-cons R s ss here (cost_all R ss rest)
    where
      here : R s
      here = All-head R s (filter (is_of s.procedure) ss) (subst (λ b. All R (cond b (s ∷ filter (is_of s.procedure) ss) (filter (is_of s.procedure) ss))) (same_self s.procedure) (h s.procedure))

      rest : (q : entries.Proc) → All R (filter (is_of q) ss)
      rest q = go (is_of q s) (h q)
        where
          go : (b : Bool) → All R (cond b (s ∷ filter (is_of q) ss) (filter (is_of q) ss)) → All R (filter (is_of q) ss)
          go true m = All-tail R s (filter (is_of q) ss) m
          go false m = m

  abbrev marked : Stored C → Stored C
  marked s = record s { erased = Some k }

  -- What is kept once the clause is erased.
  of_erased : (q : entries.Proc) (ss : List (Stored C)) → filter (is_of q) (map (erased_where (is_at j) k) ss) ≡ map (erased_where (is_at j) k) (filter (is_of q) ss)
  of_erased q [] = refl
  of_erased q (s ∷ ss) =
      ap (λ b. cond b (erased_where (is_at j) k s ∷ filter (is_of q) (map (erased_where (is_at j) k) ss)) (filter (is_of q) (map (erased_where (is_at j) k) ss))) (same (stored_live s))
      ∙ go (is_of q s) (of_erased q ss)
    where
      same : (a : Bool) → is_of q (cond a (marked s) s) ≡ is_of q s
      same true = refl
      same false = refl

      go : (b : Bool) → filter (is_of q) (map (erased_where (is_at j) k) ss) ≡ map (erased_where (is_at j) k) (filter (is_of q) ss)
          → cond b (erased_where (is_at j) k s ∷ filter (is_of q) (map (erased_where (is_at j) k) ss)) (filter (is_of q) (map (erased_where (is_at j) k) ss)) ≡ map (erased_where (is_at j) k) (cond b (s ∷ filter (is_of q) ss) (filter (is_of q) ss))
      go true ih = ap (λ l. erased_where (is_at j) k s ∷ l) ih
      go false ih = ih

  kept_erased : (from : ℕ) → from ≤ k → (ss : List (Stored C)) → keep from (map (erased_where (is_at j) k) ss) ≡ map (erased_by j k) (keep from ss)
  kept_erased from l [] = refl
  kept_erased from l (s ∷ ss) = go (stored_live s) refl (is_gone from s) refl (kept_erased from l ss)
    where
      more : List (Stored C)
      more = filter (λ s. not (is_gone from s)) (map (erased_where (is_at j) k) ss)

      left : Bool → List (DatedClause C)
      left a = map dated (cond (not (is_gone from (cond a (marked s) s))) (cond a (marked s) s ∷ more) more)

      right : Bool → List (DatedClause C)
      right b = map (erased_by j k) (map dated (cond (not b) (s ∷ filter (λ s. not (is_gone from s)) ss) (filter (λ s. not (is_gone from s)) ss)))

      here : Bool → List (DatedClause C)
      here a = cond a (record (dated s) { erased = Some k }) (dated s) ∷ map (erased_by j k) (keep from ss)

      go : (a : Bool) → stored_live s ≡ a → (b : Bool) → is_gone from s ≡ b → keep from (map (erased_where (is_at j) k) ss) ≡ map (erased_by j k) (keep from ss) → left (stored_live s) ≡ right (is_gone from s)
      go true u true w ih = absurd (false≢true (sym (gone_dead from s w) ∙ u))
      go true u false w ih =
          ap left u ∙ ap (λ g. map dated (cond (not g) (marked s ∷ more) more)) (not_yet k from l) ∙ ap (λ ds. dated (marked s) ∷ ds) ih ∙ sym (ap here u) ∙ sym (ap right w)
      go false u true w ih =
          ap left u ∙ ap (λ g. map dated (cond (not g) (s ∷ more) more)) w ∙ ih ∙ sym (ap right w)
      go false u false w ih =
          ap left u ∙ ap (λ g. map dated (cond (not g) (s ∷ more) more)) w ∙ ap (λ ds. dated s ∷ ds) ih ∙ sym (ap here u) ∙ sym (ap right w)

  once_erased : (m : ℕ) (ss : List (Stored C)) → length (filter (is_at m) (map (erased_where (is_at j) k) ss)) ≡ length (filter (is_at m) ss)
  once_erased m [] = refl
  once_erased m (s ∷ ss) =
      ap (λ b. length (cond b (erased_where (is_at j) k s ∷ filter (is_at m) (map (erased_where (is_at j) k) ss)) (filter (is_at m) (map (erased_where (is_at j) k) ss)))) (same (stored_live s))
      ∙ go (is_at m s) (once_erased m ss)
    where
      same : (a : Bool) → is_at m (cond a (marked s) s) ≡ is_at m s
      same true = refl
      same false = refl

      go : (b : Bool) → length (filter (is_at m) (map (erased_where (is_at j) k) ss)) ≡ length (filter (is_at m) ss)
          → length (cond b (erased_where (is_at j) k s ∷ filter (is_at m) (map (erased_where (is_at j) k) ss)) (filter (is_at m) (map (erased_where (is_at j) k) ss))) ≡ length (cond b (s ∷ filter (is_at m) ss) (filter (is_at m) ss))
      go true ih = ap suc ih
      go false ih = ih

  before_erased : (n more : ℕ) → n ≤ more → (ss : List (Stored C)) → All (λ s. s.place < n) ss → All (λ s. s.place < more) (map (erased_where (is_at j) k) ss)
  before_erased n more l ss h =
      All-map (λ (s : Stored C). s.place < more) (erased_where (is_at j) k) ss
      (All-weaker (λ (s : Stored C). s.place < n) (λ (s : Stored C). (erased_where (is_at j) k s).place < more) (λ s m. subst (λ p. p < more) (sym (same s (stored_live s))) (omega (arith, l, m))) ss h)
    where
      same : (s : Stored C) (a : Bool) → (cond a (marked s) s).place ≡ s.place
      same s true = refl
      same s false = refl

module _ {C : Type 0} (j k : ℕ) (need : C → ℕ) (h : Held C) (d : Database C) (s : StandsNow need h d) (homes : BTreeMap ℕ Home) (homed : Homed need homes 0 h.parts) where
  any_at : (q : entries.Proc) → any_live j k (clauses_at h.parts q) ≡ list_any (stored_live j k) (filter (is_of q) d.clauses)
  any_at q = let kept = s.clauses q in ap (any_live j k) kept.are ∙ any_kept j k kept.from (filter (is_of q) d.clauses)

  -- Where the place has no home, no such clause is there.
  pub there_home : is_there j d ≡ true → (f : entries.Proc) × (any_live j k (clauses_at h.parts f) ≡ true)
  there_home a = let q = there_of j k d.clauses a in (q.0, any_at q.0 ∙ q.1)

  pub there_found : is_there j d ≡ true → (i cells : ℕ) × (x : Piece C) × (tree.get nat_cmp homes j ≡ Some (record { part = i; cells = cells })) × (slice_get h.parts i ≡ Some x) × (any_live j k x.clauses ≡ true)
  there_found a =
      let q = there_home a in
      let f = home_found need homes 0 j q.0 h.parts homed (any_place j k (clauses_at h.parts q.0) q.1) in
      (f.i, f.cells, f.item, f.home ∙ ap (λ n. Some (record { part = n; cells = f.cells })) (omega arith), f.at, ap (any_live j k) f.same ∙ q.1)

  pub found_there : (x : Piece C) → clauses_at h.parts (proc_of x.name) ≡ x.clauses → any_live j k x.clauses ≡ true → is_there j d ≡ true
  found_there x own a = of_there j k (proc_of x.name) d.clauses (sym (any_at (proc_of x.name)) ∙ ap (any_live j k) own ∙ a)

  module _ (home : Home) (at : tree.get nat_cmp homes j ≡ Some home) (there : is_there j d ≡ true) (next : h.next ≤ k) (low : h.floor ≤ k) where
    cost : All (λ x. stored_live j k x ≡ true → need x.clause ≡ home.cells) d.clauses
    cost = cost_all j k (λ x. stored_live j k x ≡ true → need x.clause ≡ home.cells) d.clauses (λ q.
        let kept = s.clauses q in cost_kept j k kept.from home.cells need (filter (is_of q) d.clauses)
        (subst (λ ds. All (λ x. at_live j k x ≡ true → need x.clause ≡ home.cells) ds) kept.are (cost_at j k need homes home at 0 h.parts homed q)))

    pub stands_erased : StandsNow need (record h { parts = map (without_place j k) h.parts; used = h.used - home.cells; next = k + 1 }) (without_clause j k d)
    stands_erased = record {
      access = λ q. ap (option_map access_of) (access_without j k h.parts q) ∙ s.access q;
      clauses = λ q. record {
        from = (s.clauses q).from;
        low = (s.clauses q).low;
        are =
            clauses_without j k h.parts q
            ∙ ap (map (erased_by j k)) (s.clauses q).are
            ∙ sym (kept_erased j k (s.clauses q).from (let m = (s.clauses q).low in omega (arith, m, low)) (filter (is_of q) d.clauses))
            ∙ sym (ap (λ l. map dated (filter (λ x. not (is_gone (s.clauses q).from x)) l)) (of_erased j k q d.clauses));
      };
      used = (let e = cells_without j k need home.cells d.clauses (s.once j) there cost in let u = s.used in omega (arith, e, u));
      before = before_erased j k h.next (k + 1) (omega (arith, next)) d.clauses s.before;
      once = λ m. let e = once_erased j k m d.clauses in let o = s.once m in omega (arith, e, o);
    }

module _ {C : Type 0} (need : C → ℕ) (j k : ℕ) where
  erased_all : (P : DatedClause C → Type 0) → ((d : DatedClause C) → P d → P (record d { erased = Some k })) → (ds : List (DatedClause C)) → All P ds → All P (map (erased_by j k) ds)
  erased_all P keeps ds h = All-map P (erased_by j k) ds (All-weaker P (λ d. P (erased_by j k d)) (λ d m. go d m ((d.place == j) && is_live d)) ds h)
    where
      go : (d : DatedClause C) → P d → (b : Bool) → P (cond b (record d { erased = Some k }) d)
      go d m true = keeps d m
      go d m false = m

  homed_without : (homes : BTreeMap ℕ Home) (n i : ℕ) (xs : List (Piece C)) → Homed need homes n xs → Homed need homes n (without_at i j k xs)
  homed_without homes n i [] h = tt
  homed_without homes n zero (x ∷ xs) h = (erased_all (IsHome need homes n) (λ d m. m) x.clauses h.0, h.1)
  homed_without homes n (suc i) (x ∷ xs) h = (h.0, homed_without homes (suc n) i xs h.1)

  later_without : (next i : ℕ) → next ≤ k → (xs : List (Piece C)) → All (λ x. All (λ d. d.place < next) x.clauses) xs → All (λ x. All (λ d. d.place < k + 1) x.clauses) (without_at i j k xs)
  later_without next i l [] h = All-nil (λ (x : Piece C). All (λ d. d.place < k + 1) x.clauses)
  later_without next zero l (x ∷ xs) h =
      All-cons (λ (x : Piece C). All (λ d. d.place < k + 1) x.clauses) (without_place j k x) xs
      (erased_all (λ d. d.place < k + 1) (λ d m. m) x.clauses (All-weaker (λ (d : DatedClause C). d.place < next) (λ (d : DatedClause C). d.place < k + 1) (λ d m. omega (arith, l, m)) x.clauses (All-head (λ (x : Piece C). All (λ d. d.place < next) x.clauses) x xs h)))
      (All-weaker (λ (x : Piece C). All (λ d. d.place < next) x.clauses) (λ (x : Piece C). All (λ d. d.place < k + 1) x.clauses)
      (λ x m. All-weaker (λ (d : DatedClause C). d.place < next) (λ (d : DatedClause C). d.place < k + 1) (λ d m. omega (arith, l, m)) x.clauses m) xs (All-tail (λ (x : Piece C). All (λ d. d.place < next) x.clauses) x xs h))
  later_without next (suc i) l (x ∷ xs) h =
      All-cons (λ (x : Piece C). All (λ d. d.place < k + 1) x.clauses) x (without_at i j k xs)
      (All-weaker (λ (d : DatedClause C). d.place < next) (λ (d : DatedClause C). d.place < k + 1) (λ d m. omega (arith, l, m)) x.clauses (All-head (λ (x : Piece C). All (λ d. d.place < next) x.clauses) x xs h))
      (later_without next i l xs (All-tail (λ (x : Piece C). All (λ d. d.place < next) x.clauses) x xs h))

  pub sound_without : (homes : BTreeMap ℕ Home) (next floor i : ℕ) (xs : List (Piece C)) → IsSound need xs homes next floor → next ≤ k → IsSound need (without_at i j k xs) homes (k + 1) floor
  sound_without homes next floor i xs s l = record {
    homed = homed_without homes 0 i xs s.homed;
    later = later_without next i l xs s.later;
    low = let m = s.low in omega (arith, l, m);
    apart = subst Apart (sym (names_without i j k xs)) s.apart;
  }

  -- Where the clause is not there, nothing changes.
  pub unchanged_at : (i : ℕ) (xs : List (Piece C)) → option_map_or (λ (x : Piece C). has_live j x.clauses) (slice_get xs i) false ≡ false → without_at i j k xs ≡ xs
  unchanged_at i [] e = refl
  unchanged_at zero (x ∷ xs) e = ap (λ y. y ∷ xs) (same_piece j k x e)
  unchanged_at (suc i) (x ∷ xs) e = ap (λ l. x ∷ l) (unchanged_at i xs e)

module _ {C : Type 0} (j k : ℕ) (need : C → ℕ) (h : Held C) (d : Database C) (s : StandsNow need h d) (homes : BTreeMap ℕ Home) (homed : Homed need homes 0 h.parts) where
  pub no_home_there : tree.get nat_cmp homes j ≡ None → false ≡ is_there j d
  no_home_there none = go (is_there j d) refl
    where
      clash : (home : Home) → ◌≡◌ {A = Option Home} None (Some home) → false ≡ is_there j d
      clash home e = absurd (cc)

      go : (b : Bool) → is_there j d ≡ b → false ≡ is_there j d
      go true e = let f = there_found j k need h d s homes homed e in clash (record { part = f.0; cells = f.1 }) (sym none ∙ f.3)
      go false e = sym e

  module _ (apart : Apart (names h.parts)) (home : Home) (at : tree.get nat_cmp homes j ≡ Some home) where
    pub was_there : option_map_or (λ (x : Piece C). has_live j x.clauses) (slice_get h.parts home.part) false ≡ is_there j d
    was_there = both (option_map_or (λ (x : Piece C). has_live j x.clauses) (slice_get h.parts home.part) false) (is_there j d) (from_parts (slice_get h.parts home.part) refl) to_parts
      where
        from_parts : (o : Option (Piece C)) → slice_get h.parts home.part ≡ o → option_map_or (λ (x : Piece C). has_live j x.clauses) o false ≡ true → is_there j d ≡ true
        from_parts None e a = absurd (false≢true a)
        from_parts (Some x) e a = found_there j k need h d s homes homed x (own_clauses home.part h.parts x apart e) a

        to_parts : is_there j d ≡ true → option_map_or (λ (x : Piece C). has_live j x.clauses) (slice_get h.parts home.part) false ≡ true
        to_parts a =
            let f = there_found j k need h d s homes homed a in
            let part : home.part ≡ f.0 = ap (λ o. option_map_or (λ (y : Home). y.part) o 0) (sym at ∙ f.3) in
            ap (λ o. option_map_or (λ (x : Piece C). has_live j x.clauses) o false) (ap (slice_get h.parts) part ∙ f.4) ∙ f.5

    pub all_without : without_at home.part j k h.parts ≡ map (without_place j k) h.parts
    all_without = without_all j k need homes 0 home.part home.cells (at ∙ ap (λ m. Some (record { part = m; cells = home.cells })) (omega arith)) h.parts homed
