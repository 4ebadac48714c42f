-- What the database says after a change, and what calls find of it.
use Rattle.std.proofs.Common.{inl, inr, ⊎_elim, ◌≡◌, ◌<◌, ◌≤◌, ℕ, zero, suc, length, List, [], ◌∷◌, find, filter, map, Option, Some, None, Bool, true, false, cond, not, ◌&&◌, refl, ap, sym, subst, ◌∙◌}
use Rattle.std.specs.Prelude.{◌==◌, All, IfSome, IfNone}
use Rattle.std.proofs.lemmas.Bool.{false≢true}
use Rattle.std.proofs.lemmas.Option.{same_Some}
use Rattle.std.specs.List.{list_any, slice_get}
use Rattle.std.specs.Option.{MatchOption, option_map, option_map_or, option_and_then}
use Rattle.std.specs.Result.{MatchResult}
use Rattle.std.specs.declared.result.Result.{Result}
use Rattle.std.specs.declared.result.Result.TheVariants.{Ok, Err}
use Rattle.std.specs.Ordering.{nat_cmp}
use Rattle.std.specs.BTreeMap as tree
use Rattle.std.specs.BTreeMap.{BTreeMap}
use Rattle.std.proofs.lemmas.List.{length-map}
use Rattle.std.proofs.lemmas.List.Elements.{All-nil, All-head, All-tail}
use Rattle.pl_model.specs.History as entries
use Rattle.pl_model.specs.History.{Clause}
use Rattle.pl_model.specs.Service.{clause_cells}
use Rattle.pl_model.specs.laws.Shown.{proc_of, origin_of}
use Rattle.pl_model.specs.Database.{Database, Stored, is_at, is_there, seen, choices, current_procedures, without_clause, without_procedure, with_dynamic_procedures}
use Rattle.pl_model.specs.declared.shows.Proc.{Proc}
use Rattle.gen_core.specs.declared.dated_clause.DatedClause.{DatedClause}
use Rattle.gen_core.specs.Hits.{hit_of}
use Rattle.gen_core.specs.declared.hit.Hit.{Hit}
use Rattle.gen_core.specs.Visible.{is_visible, behind, first_choice}
use Rattle.clause_db.specs.declared.db.Home.{Home}
use Rattle.clause_db.specs.declared.fault.DbFault.{DbFault}
use Rattle.clause_db.specs.declared.fault.DbFault.TheVariants.{Static as StaticFault}
use Rattle.clause_db.specs.declared.parts.Addition.{Addition}
use Rattle.clause_db.specs.Access.{access_of}
use Rattle.clause_db.specs.declared.parts.ProcedureClauses.{ProcedureClauses}
use Rattle.clause_db.specs.Parts.{Held, Piece, piece, is_part_of, clauses_at, piece_access, held_access, with_added, has_live, erased_held}
use Rattle.clause_db.specs.Faults.{held_addition_fault, addition_fault, change_fault, is_static_access}
use Rattle.clause_db.specs.Dynamic.{dynamic_held}
use Rattle.clause_db.specs.Abolished.{abolished_held}
use Rattle.clause_db.specs.Listed.{listed_from}
use Rattle.clause_db.specs.Sound.{Homed, Apart, names}
use Rattle.clause_db.specs.Stands.{StandsFor, then_at, first_named, after, program_access}
use Rattle.clause_db.specs.Reading.{read_dated, read_piece, read_held, read_hit, Costs, EachHeld, IsAmong, IsHeld, SaysFor}
use Rattle.clause_db.proofs.Adding.{with_stored}
use Rattle.clause_db.proofs.Added.{addition_fault_same, stands_then}
use Rattle.clause_db.proofs.Closing.{stands_closed}
use Rattle.clause_db.proofs.Erased.{there_is, none_there, erased_stands}
use Rattle.clause_db.proofs.InOrder.{listed_is}
use Rattle.clause_db.proofs.MadeDynamic.{fault_is, stands_dynamic}
use Rattle.clause_db.proofs.Named.{call_then, any_named, after_named}
use Rattle.clause_db.proofs.Retries.{retry_is, retry_none}
use Rattle.clause_db.proofs.Standing.{own_clauses, own_found}
use Rattle.clause_db.proofs.Reading.{names_read, clauses_read, access_read, addition_fault_read, statics_read, added_read, erased_read, any_live_read, get_read, abolished_read, homed_read, dynamic_read, listed_read, first_read, behind_read, tried_read}

-- ADDITIONS
module _ {C : Type 0} (need : C → ℕ) (f : C → Clause) (h new : Held C) (d : ℕ → Database Clause) (s : SaysFor f h d) (a : Addition) (p : Proc) (c : C) (l : h.next ≤ a.place) (costs : need c ≡ clause_cells (f c)) where
  abbrev change : Database Clause → Database Clause
  change = with_stored a.end a.place (proc_of p) (f c) (origin_of a.origin)

  fault_says : held_addition_fault a.place h (proc_of p) a.origin (need c) ≡ addition_fault clause_cells (d a.place) (proc_of p) a.origin (f c)
  fault_says =
      sym (addition_fault_read f a.place h (proc_of p) a.origin (need c))
      ∙ ap (held_addition_fault a.place (read_held f h) (proc_of p) a.origin) costs
      ∙ addition_fault_same clause_cells (read_held f h) d s a.place l (proc_of p) a.origin (f c)

  says_then : new ≡ with_added a p c (need c) h → SaysFor f new (then_at a.place change d)
  says_then e =
      subst (λ n. StandsFor clause_cells n (then_at a.place change d))
      (sym (ap (read_held f) e ∙ added_read f a p c (need c) h ∙ ap (λ n. with_added a p (f c) n (read_held f h)) costs))
      (stands_then clause_cells (read_held f h) (read_held f h) d s a p (f c) l)

  pub added_says : {T E : Type 0} (r : Result T E) (B : E → Type 0) (F : DbFault → Type 0)
      → IfSome (held_addition_fault a.place h (proc_of p) a.origin (need c)) F
      → IfNone (held_addition_fault a.place h (proc_of p) a.origin (need c)) (MatchResult r (λ _. new ≡ with_added a p c (need c) h) B)
      → MatchOption (addition_fault clause_cells (d a.place) (proc_of p) a.origin (f c)) (MatchResult r (λ _. SaysFor f new (then_at a.place change d)) B) F
  added_says r B F some none =
      subst (λ o. MatchOption o (MatchResult r (λ _. SaysFor f new (then_at a.place change d)) B) F) fault_says
      (go (held_addition_fault a.place h (proc_of p) a.origin (need c)) some none)
    where
      result : {T E : Type 0} (r : Result T E) (B : E → Type 0) → MatchResult r (λ _. new ≡ with_added a p c (need c) h) B → MatchResult r (λ _. SaysFor f new (then_at a.place change d)) B
      result (Ok x) B e = says_then e
      result (Err x) B e = e

      go : (o : Option DbFault) → IfSome o F → IfNone o (MatchResult r (λ _. new ≡ with_added a p c (need c) h) B) → MatchOption o (MatchResult r (λ _. SaysFor f new (then_at a.place change d)) B) F
      go None x y = result r B y
      go (Some e) x y = x

-- ERASURES
module _ {C : Type 0} (j k : ℕ) (need : C → ℕ) (f : C → Clause) (costs : Costs need f) (h : Held C) (d : ℕ → Database Clause) (s : SaysFor f h d) (l : h.next ≤ k) (homes : BTreeMap ℕ Home) (homed : Homed need homes 0 h.parts) where
  homed_in : Homed clause_cells homes 0 (read_held f h).parts
  homed_in = homed_read f need clause_cells costs homes 0 h.parts homed

  pub none_says : (b : Bool) → tree.get nat_cmp homes j ≡ None → b ≡ false → (new : Held C) → (b ≡ is_there j (d k)) × (b ≡ true → SaysFor f new (then_at k (without_clause j k) d))
  none_says b none e new = (e ∙ none_there j k clause_cells (read_held f h) d s l homes homed_in none, λ t. absurd (false≢true (sym e ∙ t)))

  module _ (apart : Apart (names h.parts)) (home : Home) (at : tree.get nat_cmp homes j ≡ Some home) where
    apart_in : Apart (names (read_held f h).parts)
    apart_in = subst Apart (sym (names_read f h.parts)) apart

    pub there_says : option_map_or (λ (x : Piece C). has_live j x.clauses) (slice_get h.parts home.part) false ≡ is_there j (d k)
    there_says = sym (any_live_read f home.part j h.parts) ∙ there_is j k clause_cells (read_held f h) d s l homes homed_in apart_in home at

    pub erased_says : (new : Held C) (b : Bool) → b ≡ option_map_or (λ (x : Piece C). has_live j x.clauses) (slice_get h.parts home.part) false
        → (b ≡ true → new ≡ erased_held home.part j k home.cells h)
        → (b ≡ is_there j (d k)) × (b ≡ true → SaysFor f new (then_at k (without_clause j k) d))
    erased_says new b was is =
        let was_in = was ∙ sym (any_live_read f home.part j h.parts) in (
          was_in ∙ there_is j k clause_cells (read_held f h) d s l homes homed_in apart_in home at,
          λ hit. erased_stands j k clause_cells (read_held f h) d s l homes homed_in apart_in home at (read_held f new) b was_in (λ t. ap (read_held f) (is t) ∙ erased_read f home.part j k home.cells h) hit,
        )

-- PROCEDURES THAT ARE ABOLISHED OR MADE DYNAMIC
module _ {C : Type 0} (f : C → Clause) (h : Held C) (d : ℕ → Database Clause) (s : SaysFor f h d) (k : ℕ) (l : h.next ≤ k) where
  pub changed_says : (ps : List Proc) (b : Bool) → b ≡ list_any (λ p. is_static_access (held_access k h (proc_of p))) ps → (Q : Type 0) (F : DbFault → Type 0) → (b ≡ true → F StaticFault) → (b ≡ false → Q)
      → MatchOption (change_fault (d k) (map proc_of ps)) Q F
  changed_says ps b is Q F static open_ =
      subst (λ o. MatchOption o Q F) (sym (fault_is clause_cells (read_held f h) d s k l ps b (is ∙ sym (statics_read f k h ps)))) (go b static open_)
    where
      go : (t : Bool) → (t ≡ true → F StaticFault) → (t ≡ false → Q) → MatchOption (cond t (Some StaticFault) None) Q F
      go true x y = x refl
      go false x y = y refl

  pub closed_says : (need : C → ℕ) → Costs need f → (new : Held C) (p : entries.Proc) → new ≡ abolished_held need k p h → SaysFor f new (then_at k (without_procedure p k) d)
  closed_says need costs new p e =
      subst (λ n. StandsFor clause_cells n (then_at k (without_procedure p k) d)) (sym (ap (read_held f) e ∙ abolished_read f need clause_cells costs k p h))
      (stands_closed clause_cells (read_held f h) d s k l p)

  pub dynamic_says : (new : Held C) (ps : List Proc) → new ≡ dynamic_held k ps h → SaysFor f new (then_at k (with_dynamic_procedures (map proc_of ps)) d)
  dynamic_says new ps e =
      subst (λ n. StandsFor clause_cells n (then_at k (with_dynamic_procedures (map proc_of ps)) d)) (sym (ap (read_held f) e ∙ dynamic_read f k ps h))
      (stands_dynamic clause_cells (read_held f h) d s k l ps)

-- CALLS
module _ {C : Type 0} (f : C → Clause) (h : Held C) (d : ℕ → Database Clause) (s : SaysFor f h d) (g : ℕ) (low : h.floor ≤ g) where
  pub listed_says : Apart (names h.parts) → listed_from g [] h.parts ≡ current_procedures g (d g)
  listed_says apart = sym (listed_read f g [] h.parts) ∙ listed_is clause_cells (read_held f h) d s (subst Apart (sym (names_read f h.parts)) apart) g low

  pub access_says : Apart (names h.parts) → (i : ℕ) (x : Piece C) → slice_get h.parts i ≡ Some x → option_map access_of (piece_access g x) ≡ program_access (d g) (proc_of x.name)
  access_says apart i x at =
      ap (option_map access_of) (sym (ap (λ o. option_and_then (λ (y : Piece C). piece_access g y) o) (own_found i h.parts x apart at)) ∙ sym (access_read f g (proc_of x.name) h.parts))
      ∙ s.access g low (proc_of x.name)

  -- a procedure that has not stood there
  pub missed_says : (p : entries.Proc) → find (is_part_of p) h.parts ≡ None → (program_access (d g) p ≡ None) × ((t : Clause → Bool) → choices t g p (d g) ≡ [])
  missed_says p none = (
    sym (s.access g low p) ∙ ap (option_map access_of) (access_read f g p h.parts ∙ ap (λ o. option_and_then (λ (y : Piece C). piece_access g y) o) none),
    λ t. empty (choices t g p (d g)) (sym (call_then clause_cells (read_held f h) d s t g p low) ∙ ap (λ ds. first_choice (filter (λ x. is_visible g x && not (t x.clause)) ds)) (clauses_read f p h.parts ∙ ap (λ o. map (read_dated f) (option_map_or (λ (y : Piece C). y.clauses) o [])) none)),
  )
    where
      some_none : (v : _) → ◌≡◌ {A = Option (ℕ × Clause × Bool)} (Some v) None → (Q : Type 0) → Q
      some_none v e Q = absurd (cc)

      empty : (ss : List (Stored Clause)) → first_named ss ≡ None → ss ≡ []
      empty [] e = refl
      empty (x ∷ xs) e = some_none _ e _

  module _ (t : C → Bool) (u : Clause → Bool) (each : EachHeld (λ c. t c ≡ u (f c)) h) where
    each_at : (p : entries.Proc) → All (λ d. t d.clause ≡ u (f d.clause)) (clauses_at h.parts p)
    each_at p = go h.parts each
      where
        P : DatedClause C → Type 0
        P d = t d.clause ≡ u (f d.clause)

        pick : (b : Bool) (x : Piece C) (o : Option (Piece C)) → All P x.clauses → All P (option_map_or (λ (y : Piece C). y.clauses) o []) → All P (option_map_or (λ (y : Piece C). y.clauses) (cond b (Some x) o) [])
        pick true x o a b = a
        pick false x o a b = b

        go : (xs : List (Piece C)) → All (λ x. All P x.clauses) xs → All P (clauses_at xs p)
        go [] a = All-nil P
        go (x ∷ xs) a = pick (is_part_of p x) x (find (is_part_of p) xs) (All-head (λ (y : Piece C). All P y.clauses) x xs a) (go xs (All-tail (λ (y : Piece C). All P y.clauses) x xs a))

    each_behind : (o : Option ℕ) (ds : List (DatedClause C)) → All (λ d. t d.clause ≡ u (f d.clause)) ds → All (λ d. t d.clause ≡ u (f d.clause)) (behind o ds)
    each_behind None ds a = a
    each_behind (Some j) [] a = a
    each_behind (Some j) (x ∷ ds) a = let rest = All-tail (λ (e : DatedClause C). t e.clause ≡ u (f e.clause)) x ds a in go (x.place == j) rest (each_behind (Some j) ds rest)
      where
        go : (b : Bool) → All (λ d. t d.clause ≡ u (f d.clause)) ds → All (λ d. t d.clause ≡ u (f d.clause)) (behind (Some j) ds) → All (λ d. t d.clause ≡ u (f d.clause)) (cond b ds (behind (Some j) ds))
        go true y z = y
        go false y z = z

    hit_read : (ds : List (DatedClause C)) → All (λ d. t d.clause ≡ u (f d.clause)) ds
        → read_hit f (first_choice (filter (λ x. is_visible g x && not (t x.clause)) ds)) ≡ first_choice (filter (λ x. is_visible g x && not (u x.clause)) (map (read_dated f) ds))
    hit_read ds a = sym (ap first_choice (tried_read f t u g ds a) ∙ first_read f (filter (λ x. is_visible g x && not (t x.clause)) ds))

    pub first_says : Apart (names h.parts) → (i : ℕ) (x : Piece C) → slice_get h.parts i ≡ Some x
        → read_hit f (first_choice (filter (λ y. is_visible g y && not (t y.clause)) x.clauses)) ≡ first_named (choices u g (proc_of x.name) (d g))
    first_says apart i x at =
        let p = proc_of x.name in
        ap (λ ds. read_hit f (first_choice (filter (λ y. is_visible g y && not (t y.clause)) ds))) (sym (own_clauses i h.parts x apart at))
        ∙ hit_read (clauses_at h.parts p) (each_at p)
        ∙ ap (λ ds. first_choice (filter (λ y. is_visible g y && not (u y.clause)) ds)) (sym (clauses_read f p h.parts))
        ∙ call_then clause_cells (read_held f h) d s u g p low

    module _ (need : C → ℕ) (costs : Costs need f) (j : ℕ) (p : entries.Proc) (any : list_any (is_at j) (seen g p (d g)) ≡ true) (homes : BTreeMap ℕ Home) (homed : Homed need homes 0 h.parts) where
      there : list_any (is_at j) (seen g p (d (read_held f h).next)) ≡ true
      there = sym (any_named j _ _ (s.views g low p)) ∙ any

      -- what is found behind the clause, by what stands at its home
      pub next_says : (home : Home) → tree.get nat_cmp homes j ≡ Some home → (o : Option (ℕ × C × Bool))
          → IfSome (slice_get h.parts home.part) (λ y. o ≡ first_choice (filter (λ x. is_visible g x && not (t x.clause)) (behind (Some j) y.clauses)))
          → read_hit f o ≡ first_named (filter (λ x. not (u x.clause)) (after j (seen g p (d g))))
      next_says home at o found =
          retry_is clause_cells (read_held f h) (d (read_held f h).next) s.newest p g j low there homes (homed_read f need clause_cells costs homes 0 h.parts homed) home at u (read_hit f o) (moved (slice_get h.parts home.part) refl found)
          ∙ sym (after_named u j _ _ (s.views g low p))
        where
          found_in : Option (Piece Clause) → Type 0
          found_in v = IfSome v (λ y. read_hit f o ≡ first_choice (filter (λ x. is_visible g x && not (u x.clause)) (behind (Some j) y.clauses)))

          P : DatedClause C → Type 0
          P e = t e.clause ≡ u (f e.clause)

          at_index : (xs : List (Piece C)) (i : ℕ) (x : Piece C) → All (λ y. All P y.clauses) xs → slice_get xs i ≡ Some x → All P x.clauses
          at_index [] i x a e = absurd (cc)
          at_index (y ∷ xs) zero x a e = subst (λ z. IfSome z (λ w. All P w.clauses)) e (All-head (λ (w : Piece C). All P w.clauses) y xs a)
          at_index (y ∷ xs) (suc i) x a e = at_index xs i x (All-tail (λ (w : Piece C). All P w.clauses) y xs a) e

          moved : (v : Option (Piece C)) → slice_get h.parts home.part ≡ v → IfSome v (λ y. o ≡ first_choice (filter (λ x. is_visible g x && not (t x.clause)) (behind (Some j) y.clauses))) → found_in (slice_get (map (read_piece f) h.parts) home.part)
          moved None e x = subst found_in (sym (get_read f home.part h.parts ∙ ap (option_map (read_piece f)) e)) tt
          moved (Some y) e x = subst found_in (sym (get_read f home.part h.parts ∙ ap (option_map (read_piece f)) e))
              (ap (read_hit f) x ∙ hit_read (behind (Some j) y.clauses) (each_behind (Some j) y.clauses (at_index h.parts home.part y each e)) ∙ ap (λ ds. first_choice (filter (λ x. is_visible g x && not (u x.clause)) ds)) (sym (behind_read f (Some j) y.clauses)))

      pub nowhere_says : tree.get nat_cmp homes j ≡ None → read_hit f None ≡ first_named (filter (λ x. not (u x.clause)) (after j (seen g p (d g))))
      nowhere_says none =
          retry_none clause_cells (read_held f h) (d (read_held f h).next) s.newest p g j low there homes (homed_read f need clause_cells costs homes 0 h.parts homed) none u None
          ∙ sym (after_named u j _ _ (s.views g low p))

-- an index of what is held is one of what holds it
pub within : {C K : Type 0} (xs : List (ProcedureClauses C K)) (i : ℕ) → i < length (map piece xs) → i < length xs
within xs i lt = subst (λ n. i < n) (length-map xs piece) lt

-- WHAT A CALL FINDS IS HELD
module _ {C : Type 0} where
  first_among : (q : DatedClause C → Bool) (h : Hit C) (ds : List (DatedClause C)) → Some (h.place, h.clause.now, h.more) ≡ first_choice (filter q ds) → IsAmong h.clause.now ds
  first_among q h [] e = absurd (cc)
  first_among q h (d ∷ ds) e = go (q d) (first_among q h ds) e
    where
      go : (b : Bool) → (Some (h.place, h.clause.now, h.more) ≡ first_choice (filter q ds) → IsAmong h.clause.now ds) → Some (h.place, h.clause.now, h.more) ≡ first_choice (cond b (d ∷ filter q ds) (filter q ds)) → IsAmong h.clause.now (d ∷ ds)
      go true ih m = inl (sym (ap (λ (v : ℕ × C × Bool). v.1) (same_Some _ _ m)))
      go false ih m = inr (ih m)

  behind_among : (c : C) (o : Option ℕ) (ds : List (DatedClause C)) → IsAmong c (behind o ds) → IsAmong c ds
  behind_among c None ds a = a
  behind_among c (Some j) [] a = a
  behind_among c (Some j) (d ∷ ds) a = go (d.place == j) (behind_among c (Some j) ds) a
    where
      go : (b : Bool) → (IsAmong c (behind (Some j) ds) → IsAmong c ds) → IsAmong c (cond b ds (behind (Some j) ds)) → IsAmong c (d ∷ ds)
      go true ih m = inr m
      go false ih m = inr (ih m)

  pub hit_held : (r : Option (Hit C)) (q : DatedClause C → Bool) (o : Option ℕ) (ds : List (DatedClause C)) → hit_of r ≡ first_choice (filter q (behind o ds)) → IfSome r (λ h. IsAmong h.clause.now ds)
  hit_held None q o ds e = tt
  hit_held (Some h) q o ds e = behind_among h.clause.now o ds (first_among q h (behind o ds) e)

  pub first_held : (r : Option (Hit C)) (q : DatedClause C → Bool) (h : Held C) → Apart (names h.parts) → (i : ℕ) (x : Piece C) → slice_get h.parts i ≡ Some x
      → hit_of r ≡ first_choice (filter q x.clauses) → IfSome r (λ y. IsHeld y.clause.now h)
  first_held None q h apart i x at e = tt
  first_held (Some y) q h apart i x at e = (proc_of x.name, subst (IsAmong y.clause.now) (sym (own_clauses i h.parts x apart at)) (hit_held (Some y) q None x.clauses e))

  pub next_held : (r : Option (Hit C)) (q : DatedClause C → Bool) (j : ℕ) (h : Held C) → Apart (names h.parts) → (i : ℕ) (v : Option (Piece C)) → slice_get h.parts i ≡ v
      → IfSome v (λ x. hit_of r ≡ first_choice (filter q (behind (Some j) x.clauses))) → IfNone v (r ≡ None) → IfSome r (λ y. IsHeld y.clause.now h)
  next_held r q j h apart i None at some none = subst (λ y. IfSome y (λ z. IsHeld z.clause.now h)) (sym none) tt
  next_held None q j h apart i (Some x) at some none = tt
  next_held (Some y) q j h apart i (Some x) at some none = (proc_of x.name, subst (IsAmong y.clause.now) (sym (own_clauses i h.parts x apart at)) (hit_held (Some y) q (Some j) x.clauses some))

  among_passes : (P : C → Type 0) (c : C) (ds : List (DatedClause C)) → All (λ d. P d.clause) ds → IsAmong c ds → P c
  among_passes P c [] a m = absurd m
  among_passes P c (d ∷ ds) a m = ⊎_elim (λ (e : d.clause ≡ c). subst P e (All-head (λ (x : DatedClause C). P x.clause) d ds a)) (λ (n : IsAmong c ds). among_passes P c ds (All-tail (λ (x : DatedClause C). P x.clause) d ds a) n) m

  -- what holds of each clause that is held holds of one
  pub held_passes : (P : C → Type 0) (h : Held C) (c : C) → EachHeld P h → IsHeld c h → P c
  held_passes P h c each held = among_passes P c (clauses_at h.parts held.0) (go h.parts each) held.1
    where
      Q : DatedClause C → Type 0
      Q d = P d.clause

      pick : (b : Bool) (x : Piece C) (o : Option (Piece C)) → All Q x.clauses → All Q (option_map_or (λ (y : Piece C). y.clauses) o []) → All Q (option_map_or (λ (y : Piece C). y.clauses) (cond b (Some x) o) [])
      pick true x o a b = a
      pick false x o a b = b

      go : (xs : List (Piece C)) → All (λ x. All Q x.clauses) xs → All Q (clauses_at xs held.0)
      go [] a = All-nil Q
      go (x ∷ xs) a = pick (is_part_of held.0 x) x (find (is_part_of held.0) xs) (All-head (λ (y : Piece C). All Q y.clauses) x xs a) (go xs (All-tail (λ (y : Piece C). All Q y.clauses) x xs a))
