-- What a generation sees of a list of dated clauses in database order (the logical update view, ISO 7.5.4), and what
-- updates make of it.
use Rattle.std.specs.Prelude.{◌≡◌, ℕ, Bool, true, false, ◌&&◌, ◌==◌, not, nat_lt, nat_le, Option, Some, None, List, [], ◌∷◌, ◌++◌, map, filter, if◌then◌else◌}
use Rattle.std.specs.Option.{option_map_or, is_some}
use Rattle.std.specs.List.Sorted.{IsPermutation}
use Rattle.std.specs.declared.cmp.Ordering.{Ordering}
use Rattle.pl_model.specs.FirstArguments.{are_apart}
use Rattle.gen_core.specs.declared.dated_clause.DatedClause.{DatedClause}

-- A clause added at the place k is there from the generation k + 1 on, one erased at k is gone from k + 1 on.
abbrev pub is_visible : {C : Type 0} → ℕ → DatedClause C → Bool
is_visible g d = nat_lt d.place g && option_map_or (λ k. nat_le g k) d.erased true

-- Whether the clause was erased by one of the first updates, as many as the floor says.
abbrev pub is_droppable : {C : Type 0} → ℕ → DatedClause C → Bool
is_droppable floor d = option_map_or (λ k. nat_lt k floor) d.erased false

-- Whether the clause is not erased.
abbrev pub is_live : {C : Type 0} → DatedClause C → Bool
is_live d = not (is_some d.erased)

-- A clause that the update at the place adds.
abbrev pub fresh : {C : Type 0} → ℕ → C → DatedClause C
fresh place clause = record { place = place; clause = clause; erased = None }

-- The clause that was added at the place `clause`, if it is not erased, is erased at the place `place`.
abbrev pub erased_by : {C : Type 0} → ℕ → ℕ → DatedClause C → DatedClause C
erased_by clause place d = if d.place == clause && is_live d then record d { erased = Some place } else d

-- The clause, erased at the place if it was not erased before.
abbrev pub erased_all : {C : Type 0} → ℕ → DatedClause C → DatedClause C
erased_all place d = if is_live d then record d { erased = Some place } else d

-- What a clause costs that is not erased, by the size of a clause.
abbrev pub live_size : {C : Type 0} → (C → ℕ) → DatedClause C → ℕ
live_size size d = if is_live d then size d.clause else 0

-- Whether the clause was added at the place and erased below the floor.
abbrev pub is_droppable_at : {C : Type 0} → ℕ → ℕ → DatedClause C → Bool
is_droppable_at floor place d = (d.place == place) && is_droppable floor d

-- One for an erased clause.
abbrev pub counted : {C : Type 0} → DatedClause C → ℕ
counted d = if is_some d.erased then 1 else 0

-- What stands after the clause that was added at a place, or the whole list.
abbrev pub behind : {C : Type 0} → Option ℕ → List (DatedClause C) → List (DatedClause C)
behind None ds = ds
behind (Some place) [] = []
behind (Some place) (d ∷ ds) = if d.place == place then ds else behind (Some place) ds

-- Whether a call at the generation `g`, whose first argument has the key `first`, tries the clause (ISO 7.7.10): the
-- generation sees it, and the keys of the first arguments do not keep them apart.
abbrev pub is_choice : {C K : Type 0} → (K → K → Ordering) → (K → Bool) → (C → K) → ℕ → K → DatedClause C → Bool
is_choice order any key_of g first d = is_visible g d && not (are_apart order any first (key_of d.clause))

abbrev pub has_any : {X : Type 0} → List X → Bool
has_any [] = false
has_any (x ∷ xs) = true

-- The first of these clauses, with its place and whether more follow.
abbrev pub first_choice : {C : Type 0} → List (DatedClause C) → Option (ℕ × C × Bool)
first_choice [] = None
first_choice (d ∷ ds) = Some (d.place, d.clause, has_any ds)

-- A clause that was erased below the floor is taken out.
pub record DropsOne {C : Type 0} (floor : ℕ) (dropped : DatedClause C) (old new : List (DatedClause C)) : Type 0 where
  pub before : List (DatedClause C)
  pub after : List (DatedClause C)
  pub whole : old ≡ before ++ dropped ∷ after
  pub left : new ≡ before ++ after
  pub droppable : is_droppable floor dropped ≡ true

-- Exactly the clauses that were erased below the floor are dropped, each once, and the others stay in their order.
pub record Reclaims {C : Type 0} (floor : ℕ) (dropped : List C) (old new : List (DatedClause C)) : Type 0 where
  pub kept : new ≡ filter (λ d. not (is_droppable floor d)) old
  pub once : IsPermutation (map (λ d. d.clause) (filter (is_droppable floor) old)) dropped
