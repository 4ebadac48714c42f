-- When an index is sound: each clause stands on a number that its place gives, and is listed under the key of its first
-- argument and by its erasure.
use Rattle.std.specs.Prelude.{◌≡◌, ℕ, ◌<◌, ◌≤◌, Bool, true, false, ◌&&◌, ◌||◌, ◌==◌, not, Option, Some, None, List, [], map, filter, nat_lt, sum_by, IsSome, if◌then◌else◌}
use Rattle.std.specs.Option.{IfSome, option_map, option_map_or, unwrap_or}
use Rattle.std.specs.Ordering.{is_eq, nat_cmp, ordering_then}
use Rattle.std.specs.declared.cmp.Ordering.{Ordering}
use Rattle.std.specs.BTreeMap as tree
use Rattle.std.specs.BTreeSet as set
use Rattle.std.specs.BTreeMap.{is_at}
use Rattle.std.specs.Map.{set_value, remove_entry}
use Rattle.gen_core.specs.NumberMaps.{ByNumber}
use Rattle.gen_core.specs.NumberMaps as numbers
use Rattle.gen_core.specs.declared.dated_clause.DatedClause.{DatedClause}
use Rattle.gen_core.specs.declared.clause_index.Entry.{Entry}
use Rattle.gen_core.specs.declared.clause_index.ClauseIndex.{ClauseIndex}
use Rattle.gen_core.specs.Index.{is_listed}
use Rattle.gen_core.specs.Visible.{is_droppable, is_live, erased_all, counted, behind}
use Rattle.gen_core.specs.Numbers.{IsNumbered, first_number, last_number}

-- The clause on a number.
abbrev pub dated_at : {C K : Type 0} → ByNumber (Entry C K) → ℕ → Option (DatedClause C)
dated_at m number = option_map (λ e. e.dated) (numbers.get m number)

-- The clauses in the order of their numbers.
abbrev pub clauses_of : {C K : Type 0} → ByNumber (Entry C K) → List (DatedClause C)
clauses_of m = map (λ e. e.1.dated) m.entries

-- The clauses from a number on.
abbrev pub clauses_from : {C K : Type 0} → ℕ → ByNumber (Entry C K) → List (DatedClause C)
clauses_from n m = map (λ e. e.1.dated) (filter (λ e. not (nat_lt e.0 n)) m.entries)

-- What stands after the clause that was added at a place is what stands from a number on, or nothing.
abbrev pub IsAfter : {C K : Type 0} → ByNumber (Entry C K) → Option ℕ → Option ℕ → Type 0
IsAfter m place None = behind place (clauses_of m) ≡ []
IsAfter m place (Some n) = behind place (clauses_of m) ≡ clauses_from n m

-- Whether there is a clause on the number that passes.
abbrev pub holds : {C K : Type 0} → ByNumber (Entry C K) → (DatedClause C → Bool) → ℕ → Bool
holds m test number = option_map_or test (dated_at m number) false

-- The number on which the clause added at the place stands: that one alone, or none.
abbrev pub IsNumberOf : {C K : Type 0} → ByNumber (Entry C K) → ℕ → Option ℕ → Type 0
IsNumberOf m place None = (q : ℕ) → holds m (λ d. d.place == place) q ≡ false
IsNumberOf m place (Some number) = (q : ℕ) → holds m (λ d. d.place == place) q ≡ (q == number)

-- The map gained a clause on a number.
pub record Added {C K : Type 0} (old new : ByNumber (Entry C K)) (number : ℕ) (d : DatedClause C) : Type 0 where
  pub entry : Entry C K
  pub dated : entry.dated ≡ d
  pub entries : new.entries ≡ tree.insert_entry nat_cmp old.entries number entry

module _ {C K : Type 0} (order : K → K → Ordering) where
  -- A number more is listed under a key.
  pub record Lists (any : K → Bool) (key : K) (number : ℕ) (old new : ClauseIndex C K) : Type 0 where
    pub by_key : (k : K) (q : ℕ) → is_listed order new.index.by_key k q ≡ ((not (any key) && is_eq (order k key)) && (q == number) || is_listed order old.index.by_key k q)
    pub by_any : (q : ℕ) → set.contains nat_cmp new.any q ≡ (any key && (q == number) || set.contains nat_cmp old.any q)

  -- The same numbers are listed.
  pub record ListsSame (old new : ClauseIndex C K) : Type 0 where
    pub by_key : (k : K) (q : ℕ) → is_listed order new.index.by_key k q ≡ is_listed order old.index.by_key k q
    pub by_any : (q : ℕ) → set.contains nat_cmp new.any q ≡ set.contains nat_cmp old.any q

  -- A number is no longer listed under a key.
  pub record Unlists (any : K → Bool) (key : K) (number : ℕ) (old new : ClauseIndex C K) : Type 0 where
    pub by_key : (k : K) (q : ℕ) → is_listed order new.index.by_key k q ≡ (not ((not (any key) && is_eq (order k key)) && (q == number)) && is_listed order old.index.by_key k q)
    pub by_any : (q : ℕ) → set.contains nat_cmp new.any q ≡ (not (any key && (q == number)) && set.contains nat_cmp old.any q)

-- Whether a clause was erased at the place.
abbrev pub is_erased_at : {C : Type 0} → ℕ → DatedClause C → Bool
is_erased_at place d = option_map_or (λ k. k == place) d.erased false

-- The entry, erased at the place.
abbrev pub marked : {C K : Type 0} → ℕ → Entry C K → Entry C K
marked place e = record e { dated = record e.dated { erased = Some place } }

-- The entry, erased at the place if it was not erased before.
abbrev pub marked_all : {C K : Type 0} → ℕ → Entry C K → Entry C K
marked_all place e = record e { dated = erased_all place e.dated }

-- The place of the erasure of the clause, if it is erased at the place where it was not erased before.
abbrev pub erased_from : {C : Type 0} → ℕ → DatedClause C → ℕ
erased_from place d = unwrap_or d.erased place

-- The entry on the number is erased at the place.
pub record Marks {C K : Type 0} (old new : ByNumber (Entry C K)) (number place : ℕ) : Type 0 where
  pub entries : IfSome (numbers.get old number) (λ e. new.entries ≡ set_value (is_at (nat_cmp number)) old.entries (marked place e))
  pub updates : (q : ℕ) → numbers.get new q ≡ (if q == number then option_map (marked place) (numbers.get old number) else numbers.get old q)
  pub ordered : numbers.IsOrdered new

-- The clause on a number is erased.
pub record MarkedAt {C K : Type 0} (old new : ByNumber (Entry C K)) (number place : ℕ) : Type 0 where
  pub entry : Entry C K
  pub was : numbers.get old number ≡ Some entry
  pub live : is_live entry.dated ≡ true
  pub entries : new.entries ≡ set_value (is_at (nat_cmp number)) old.entries (marked place entry)

-- There is none on it that is not erased.
pub record MarkedNone {C K : Type 0} (old new : ByNumber (Entry C K)) (number : ℕ) : Type 0 where
  pub none : holds old is_live number ≡ false
  pub same : new.entries ≡ old.entries

abbrev pub MarksAt : {C K : Type 0} → ByNumber (Entry C K) → ByNumber (Entry C K) → ℕ → ℕ → Bool → Type 0
MarksAt old new number place true = MarkedAt old new number place
MarksAt old new number place false = MarkedNone old new number

-- The clause that was added at a place is erased.
pub record Erased {C K : Type 0} (old new : ByNumber (Entry C K)) (clause place : ℕ) : Type 0 where
  pub number : ℕ
  pub entry : Entry C K
  pub was : numbers.get old number ≡ Some entry
  pub live : is_live entry.dated ≡ true
  pub only : (q : ℕ) → holds old (λ d. d.place == clause) q ≡ (q == number)
  pub entries : new.entries ≡ set_value (is_at (nat_cmp number)) old.entries (marked place entry)

-- There is none that is not erased.
pub record ErasesNone {C K : Type 0} (old new : ByNumber (Entry C K)) (clause : ℕ) : Type 0 where
  pub none : (q : ℕ) → holds old (λ d. (d.place == clause) && is_live d) q ≡ false
  pub same : new.entries ≡ old.entries

abbrev pub ErasesAt : {C K : Type 0} → ByNumber (Entry C K) → ByNumber (Entry C K) → ℕ → ℕ → Bool → Type 0
ErasesAt old new clause place true = Erased old new clause place
ErasesAt old new clause place false = ErasesNone old new clause

-- A clause that was erased at the place is taken out.
pub record TakesOut {C K : Type 0} (old new : ByNumber (Entry C K)) (place : ℕ) (dated : DatedClause C) : Type 0 where
  pub number : ℕ
  pub entry : Entry C K
  pub was : numbers.get old number ≡ Some entry
  pub at : entry.dated.erased ≡ Some place
  pub dated_is : dated ≡ entry.dated
  pub entries : new.entries ≡ remove_entry (is_at (nat_cmp number)) old.entries

-- A clause that was erased below the floor is taken out, or there is none.
pub record DropsOne {C K : Type 0} (old new : ByNumber (Entry C K)) (floor : ℕ) (dated : DatedClause C) : Type 0 where
  pub number : ℕ
  pub entry : Entry C K
  pub was : numbers.get old number ≡ Some entry
  pub droppable : is_droppable floor entry.dated ≡ true
  pub dated_is : dated ≡ entry.dated
  pub entries : new.entries ≡ remove_entry (is_at (nat_cmp number)) old.entries

pub record DropsNone {C K : Type 0} (old new : ByNumber (Entry C K)) (floor : ℕ) : Type 0 where
  pub none : (q : ℕ) → holds old (is_droppable floor) q ≡ false
  pub same : new.entries ≡ old.entries

abbrev pub Drops : {C K : Type 0} → ByNumber (Entry C K) → ByNumber (Entry C K) → ℕ → Option (DatedClause C) → Type 0
Drops old new floor None = DropsNone old new floor
Drops old new floor (Some d) = DropsOne old new floor d

-- The first erasure: no clause was erased before it.
abbrev pub IsFirstErased : {C K : Type 0} → ByNumber (Entry C K) → Option (ℕ × ℕ) → Type 0
IsFirstErased m None = (k q : ℕ) → holds m (is_erased_at k) q ≡ false
IsFirstErased m (Some p) =
    (holds m (is_erased_at p.0) p.1 ≡ true)
    × ((k q : ℕ) → holds m (is_erased_at k) q ≡ true → p.0 ≤ k)

-- The order of pairs of numbers.
abbrev pub pair_order : ℕ × ℕ → ℕ × ℕ → Ordering
pair_order p q = ordering_then (nat_cmp p.0 q.0) (nat_cmp p.1 q.1)

module _ {C K : Type 0} (order : K → K → Ordering) (any : K → Bool) (key_of : C → K) where
  pub record IsSound (s : ClauseIndex C K) : Type 0 where
    pub ordered : numbers.IsOrdered s.clauses
    pub numbered : (number : ℕ) → IfSome (numbers.get s.clauses number) (λ e. IsNumbered number e.dated.place × (e.key ≡ key_of e.dated.clause))
    pub once : (place : ℕ) → place < 562949953421312 → IsSome (numbers.get s.clauses (first_number place)) → numbers.get s.clauses (last_number place) ≡ None
    pub listed : (k : K) (number : ℕ) → is_listed order s.index.by_key k number ≡ holds s.clauses (λ d. not (any (key_of d.clause)) && is_eq (order k (key_of d.clause))) number
    pub listed_any : (number : ℕ) → set.contains nat_cmp s.any number ≡ holds s.clauses (λ d. any (key_of d.clause)) number
    pub listed_erased : (k number : ℕ) → set.contains pair_order s.erased (k, number) ≡ holds s.clauses (is_erased_at k) number
    pub gone_is : set.btree_set_len s.erased ≡ sum_by (λ e. counted e.dated) (numbers.values s.clauses)
