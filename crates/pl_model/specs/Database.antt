-- The clause database (ISO 7.5): the procedures of the program and their clauses, each with the generation from which on
-- it is there and the one from which on it is gone. A generation is a number of updates: the update at the place `k`
-- leads from the generation `k` to `k + 1`. A call sees the clauses of its own generation over all its retries (the
-- logical update view, ISO 7.5.4; SWI-Prolog manual, section 'Update view'). The clauses are of any type `C`.
use Rattle.std.specs.Prelude.{ℕ, ◌+◌, ◌^◌, List, [], ◌∷◌, ◌++◌, map, filter, find, Option, Some, None, is_some, option_map, Bool, true, false, if◌then◌else◌, ◌==◌, ◌&&◌, nat_lt, nat_le, not}
use Rattle.std.specs.List.{list_any}
use Rattle.std.specs.Ordering.{nat_cmp, ordering_then}
use Rattle.std.specs.declared.cmp.Ordering.{Ordering}
use Rattle.std.specs.declared.cmp.Ordering.TheVariants.{Less, Equal, Greater}
use Rattle.pl_term.specs.Order.{text_order}
use Rattle.pl_model.specs.History.{Proc, Origin, consult, assert}
use Rattle.pl_model.specs.Predicates.{same_proc}
pub use Rattle.pl_model.specs.SystemPredicates.{is_system}

-- A procedure is static or dynamic (ISO 7.5.2). A goal can neither change a static one nor look into it.
pub data Access : Type 0 where
  static : Access
  dynamic : Access

pub record Procedure : Type 0 where
  pub indicator : Proc
  pub access : Access

-- A clause of the database: the place of the update that added it, which names it, and that of the one that erased it.
pub record Stored (C : Type 0) : Type 0 where
  pub place : ℕ
  pub procedure : Proc
  pub clause : C
  pub erased : Option ℕ

pub record Database (C : Type 0) : Type 0 where
  -- the procedures of the program; those of the system stand in `system_predicates`
  pub procedures : List Procedure
  -- the clauses in database order, the erased ones included
  pub clauses : List (Stored C)

abbrev pub opening_database : {C : Type 0} → Database C
opening_database = record { procedures = []; clauses = [] }

-- Whether the procedure is static or dynamic, where there is one.
abbrev pub access_of : {C : Type 0} → Database C → Proc → Option Access
access_of d p =
    if is_system p
    then Some static
    else option_map (λ (q : Procedure). q.access) (find (λ (q : Procedure). same_proc q.indicator p) d.procedures)

abbrev pub is_static : {C : Type 0} → Database C → Proc → Bool
is_static d p = elim (access_of d p) [ None ↦ false | Some a ↦ elim a [ static ↦ true | dynamic ↦ false ] ]

abbrev pub is_known : {C : Type 0} → Database C → Proc → Bool
is_known d p = is_some (access_of d p)

-- The clause was added before the generation, and was not erased before it.
abbrev pub is_visible : {C : Type 0} → ℕ → Stored C → Bool
is_visible g s = nat_lt s.place g && elim s.erased [ None ↦ true | Some k ↦ nat_le g k ]

abbrev pub is_of : {C : Type 0} → Proc → Stored C → Bool
is_of p s = same_proc s.procedure p

abbrev pub is_at : {C : Type 0} → ℕ → Stored C → Bool
is_at j s = s.place == j

abbrev pub is_erased : {C : Type 0} → Stored C → Bool
is_erased s = is_some s.erased

-- The clauses of the procedure that a call at the generation sees, in database order.
abbrev pub seen : {C : Type 0} → ℕ → Proc → Database C → List (Stored C)
seen g p d = filter (λ s. is_of p s && is_visible g s) d.clauses

-- What a call knows of a clause: the place that names it, and the clause.
abbrev pub named_clauses : {C : Type 0} → List (Stored C) → List (ℕ × C)
named_clauses ss = map (λ s. (s.place, s.clause)) ss

-- Of these, the clauses that a test on the first argument does not exclude: those that a call tries (ISO 7.7.10).
abbrev pub choices : {C : Type 0} → (C → Bool) → ℕ → Proc → Database C → List (Stored C)
choices is_excluded g p d = filter (λ s. not (is_excluded s.clause)) (seen g p d)

-- Whether the clause that was added at the place is still there.
abbrev pub is_there : {C : Type 0} → ℕ → Database C → Bool
is_there j d = list_any (λ s. is_at j s && not (is_erased s)) d.clauses

-- Predicate indicators in the standard order of the terms Name/Arity (ISO 7.2).
abbrev pub indicator_order : Proc → Proc → Ordering
indicator_order p q = ordering_then (text_order p.name q.name) (nat_cmp p.arity q.arity)

-- The procedure in its place among others that are in order, each of which stands there once.
abbrev pub put_among : Proc → List Proc → List Proc
put_among p [] = p ∷ []
put_among p (q ∷ qs) =
    elim (indicator_order p q) [ Less ↦ p ∷ (q ∷ qs) | Equal ↦ q ∷ qs | Greater ↦ q ∷ put_among p qs ]

-- The procedures of these clauses that are visible at the generation.
abbrev pub procedures_of : {C : Type 0} → ℕ → List (Stored C) → List Proc
procedures_of g [] = []
procedures_of g (s ∷ ss) =
    if is_visible g s then put_among s.procedure (procedures_of g ss) else procedures_of g ss

-- The procedures of the program that have a clause, in standard order (ISO 8.8.2).
abbrev pub current_procedures : {C : Type 0} → ℕ → Database C → List Proc
current_procedures g d = procedures_of g d.clauses

-- The cells of the clauses that are not erased, by what each clause takes. There are fewer than 2^40 of them.
abbrev pub cells_of : {C : Type 0} → (C → ℕ) → List (Stored C) → ℕ
cells_of need [] = 0
cells_of need (s ∷ ss) = if is_erased s then cells_of need ss else need s.clause + cells_of need ss

abbrev pub used_cells : {C : Type 0} → (C → ℕ) → Database C → ℕ
used_cells need d = cells_of need d.clauses

abbrev pub has_room : {C : Type 0} → (C → ℕ) → C → Database C → Bool
has_room need c d = nat_lt (used_cells need d + need c) (2 ^ 40)

-- What the updates change. The procedure is made, if it is not there: static where its first clause comes from a text
-- that is consulted, and dynamic where a goal adds it (ISO 7.5.2, 8.9.1).
abbrev pub access_by : Origin → Access
access_by consult = static
access_by assert = dynamic

abbrev pub with_procedure : Proc → Access → List Procedure → List Procedure
with_procedure p a [] = record { indicator = p; access = a } ∷ []
with_procedure p a (q ∷ qs) = if same_proc q.indicator p then q ∷ qs else q ∷ with_procedure p a qs

abbrev pub added_clause : {C : Type 0} → ℕ → Proc → C → Stored C
added_clause k p c = record { place = k; procedure = p; clause = c; erased = None }

abbrev pub with_first : {C : Type 0} → ℕ → Proc → C → Origin → Database C → Database C
with_first k p c o d =
    record {
      procedures = with_procedure p (access_by o) d.procedures;
      clauses = added_clause k p c ∷ d.clauses;
    }

abbrev pub with_last : {C : Type 0} → ℕ → Proc → C → Origin → Database C → Database C
with_last k p c o d =
    record {
      procedures = with_procedure p (access_by o) d.procedures;
      clauses = d.clauses ++ added_clause k p c ∷ [];
    }

-- The clause, erased at the place if it passes the test and was not erased before.
abbrev pub erased_where : {C : Type 0} → (Stored C → Bool) → ℕ → Stored C → Stored C
erased_where test k s = if test s && not (is_erased s) then record s { erased = Some k } else s

-- The clause that was added at the place `j` is erased (ISO 8.9.3).
abbrev pub without_clause : {C : Type 0} → ℕ → ℕ → Database C → Database C
without_clause j k d = record d { clauses = map (erased_where (is_at j) k) d.clauses }

-- The procedure is taken away with all its clauses (ISO 8.9.4).
abbrev pub without_procedure : {C : Type 0} → Proc → ℕ → Database C → Database C
without_procedure p k d =
    record {
      procedures = filter (λ (q : Procedure). not (same_proc q.indicator p)) d.procedures;
      clauses = map (erased_where (is_of p) k) d.clauses;
    }

-- The procedures are made dynamic, if they are not there (ISO 7.4.2.1).
abbrev pub with_dynamic : List Proc → List Procedure → List Procedure
with_dynamic [] qs = qs
with_dynamic (p ∷ ps) qs = with_dynamic ps (with_procedure p dynamic qs)

abbrev pub with_dynamic_procedures : {C : Type 0} → List Proc → Database C → Database C
with_dynamic_procedures ps d = record d { procedures = with_dynamic ps d.procedures }
