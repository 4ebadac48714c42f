-- What the database holds: procedures with their clauses.
use Rattle.std.specs.Prelude.{ℕ, zero, suc, ◌+◌, ◌-◌, ◌==◌, ◌&&◌, nat_lt, List, [], ◌∷◌, ◌++◌, map, find, Option, Some, None, Bool, if◌then◌else◌}
use Rattle.std.specs.List.{list_any}
use Rattle.std.specs.Option.{option_map_or, option_and_then, unwrap_or}
use Rattle.pl_model.specs.laws.Shown.{proc_of}
use Rattle.pl_model.specs.History as entries
use Rattle.pl_model.specs.Predicates.{same_proc}
use Rattle.pl_model.specs.Database.{is_system}
use Rattle.pl_model.specs.Flags.{Flags}
use Rattle.pl_model.specs.OperatorTable.{OperatorTable}
use Rattle.pl_model.specs.declared.shows.Proc.{Proc}
use Rattle.gen_core.specs.declared.dated_clause.DatedClause.{DatedClause}
use Rattle.gen_core.specs.Visible.{fresh, erased_by, is_live}
use Rattle.clause_db.specs.declared.access.Access.{Access}
use Rattle.clause_db.specs.declared.access.Access.TheVariants.{Static}
use Rattle.clause_db.specs.declared.access.Life.{Life}
use Rattle.clause_db.specs.declared.parts.ProcedureClauses.{ProcedureClauses}
use Rattle.clause_db.specs.declared.parts.End.{End}
use Rattle.clause_db.specs.declared.parts.End.TheVariants.{First, Last}
use Rattle.clause_db.specs.declared.parts.Addition.{Addition}
use Rattle.clause_db.specs.Access.{access_by, life_at}

-- A procedure with its clauses in database order.
pub record Piece (C : Type 0) : Type 0 where
  pub name : Proc
  -- none where there is no such procedure now
  pub access : Option Access
  -- the place of the update that made it, where it is there
  pub since : ℕ
  -- what it was before it was abolished, the earliest first
  pub lives : List Life
  pub clauses : List (DatedClause C)

abbrev pub piece : {C K : Type 0} → ProcedureClauses C K → Piece C
piece x = record { name = x.name; access = x.access; since = x.since; lives = x.lives.items; clauses = x.clauses }

-- A predicate of which there has been no procedure.
abbrev pub blank : {C : Type 0} → Proc → Piece C
blank p = record { name = p; access = None; since = 0; lives = []; clauses = [] }

-- How the procedure may be used at the generation.
abbrev pub access_when : Option Access → ℕ → ℕ → List Life → Option Access
access_when None since g ls = life_at None g ls
access_when (Some a) since g ls = if nat_lt since g then Some a else life_at None g ls

abbrev pub piece_access : {C : Type 0} → ℕ → Piece C → Option Access
piece_access g x = access_when x.access x.since g x.lives

-- The procedures, in the order in which they were made; the cells of the clauses that are not erased; the flags and the
-- operators; a bound on the places of the updates so far; and the generation from which on each call finds its clauses.
pub record Held (C : Type 0) : Type 0 where
  pub parts : List (Piece C)
  pub used : ℕ
  pub flags : Flags
  pub operators : OperatorTable
  pub next : ℕ
  pub floor : ℕ

abbrev pub is_part_of : {C : Type 0} → entries.Proc → Piece C → Bool
is_part_of p x = same_proc (proc_of x.name) p

-- The clauses of a procedure in database order.
abbrev pub clauses_at : {C : Type 0} → List (Piece C) → entries.Proc → List (DatedClause C)
clauses_at xs p = option_map_or (λ x. x.clauses) (find (is_part_of p) xs) []

-- How a procedure of the program may be used, as the database stands and at a generation.
abbrev pub access_now : {C : Type 0} → List (Piece C) → entries.Proc → Option Access
access_now xs p = option_and_then (λ x. x.access) (find (is_part_of p) xs)

abbrev pub access_at : {C : Type 0} → ℕ → List (Piece C) → entries.Proc → Option Access
access_at g xs p = option_and_then (piece_access g) (find (is_part_of p) xs)

abbrev pub held_access : {C : Type 0} → ℕ → Held C → entries.Proc → Option Access
held_access g h p = if is_system p then Some Static else access_at g h.parts p

abbrev pub placed : {X : Type 0} → End → X → List X → List X
placed First x xs = x ∷ xs
placed Last x xs = xs ++ x ∷ []

-- The procedure is made by the update at the place, where it is not there.
abbrev pub opened_since : Option Access → ℕ → ℕ → ℕ
opened_since None k since = k
opened_since (Some a) k since = since

abbrev pub opened : {C : Type 0} → ℕ → Access → Piece C → Piece C
opened k a x = record x { access = Some (unwrap_or x.access a); since = opened_since x.access k x.since }

-- The procedure is changed, where it is among them.
abbrev pub changed_in : {C : Type 0} → (Piece C → Piece C) → entries.Proc → List (Piece C) → List (Piece C)
changed_in f p [] = []
changed_in f p (x ∷ xs) = if is_part_of p x then f x ∷ xs else x ∷ changed_in f p xs

-- The procedure with one clause more.
abbrev pub added_to : {C : Type 0} → Addition → C → Piece C → Piece C
added_to a c x = record (opened a.place (access_by a.origin) x) { clauses = placed a.end (fresh a.place c) x.clauses }

-- The procedures with one clause more.
abbrev pub with_clause : {C : Type 0} → Addition → Proc → C → List (Piece C) → List (Piece C)
with_clause a p c [] = added_to a c (blank p) ∷ []
with_clause a p c (x ∷ xs) = if is_part_of (proc_of p) x then added_to a c x ∷ xs else x ∷ with_clause a p c xs

abbrev pub with_added : {C : Type 0} → Addition → Proc → C → ℕ → Held C → Held C
with_added a p c need h = record h {
  parts = with_clause a p c h.parts;
  used = h.used + need;
  next = a.place + 1;
}

-- Whether a clause that was added at a place is among these and not erased.
abbrev pub has_live : {C : Type 0} → ℕ → List (DatedClause C) → Bool
has_live j ds = list_any (λ d. (d.place == j) && is_live d) ds

-- The clause that was added at a place is erased.
abbrev pub without_place : {C : Type 0} → ℕ → ℕ → Piece C → Piece C
without_place j k x = record x { clauses = map (erased_by j k) x.clauses }

-- The clause is erased in the procedure at an index.
abbrev pub without_at : {C : Type 0} → ℕ → ℕ → ℕ → List (Piece C) → List (Piece C)
without_at i j k [] = []
without_at zero j k (x ∷ xs) = without_place j k x ∷ xs
without_at (suc i) j k (x ∷ xs) = x ∷ without_at i j k xs

abbrev pub erased_held : {C : Type 0} → ℕ → ℕ → ℕ → ℕ → Held C → Held C
erased_held i j k cells h = record h {
  parts = without_at i j k h.parts;
  used = h.used - cells;
  next = k + 1;
}
