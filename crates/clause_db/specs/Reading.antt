-- WHAT THE DATABASE SAYS: each clause that it holds, read by a function, as one that gives for a stored term the clause
-- that the term says by the texts of its atoms. Of clauses that are gone nothing is read.
use Rattle.std.specs.Prelude.{◌≡◌, ◌⊎◌, ℕ, Bool, List, [], ◌∷◌, map, Option, All}
use Rattle.std.specs.Option.{option_map}
use Rattle.pl_model.specs.History.{Clause, Proc}
use Rattle.pl_model.specs.Database.{Database}
use Rattle.pl_model.specs.Service.{clause_cells}
use Rattle.gen_core.specs.declared.dated_clause.DatedClause.{DatedClause}
use Rattle.clause_db.specs.Parts.{Held, Piece, clauses_at}
use Rattle.clause_db.specs.Stands.{StandsFor}

abbrev pub read_dated : {C B : Type 0} → (C → B) → DatedClause C → DatedClause B
read_dated f d = record { place = d.place; clause = f d.clause; erased = d.erased }

abbrev pub read_piece : {C B : Type 0} → (C → B) → Piece C → Piece B
read_piece f x = record { name = x.name; access = x.access; since = x.since; lives = x.lives; clauses = map (read_dated f) x.clauses }

abbrev pub read_held : {C B : Type 0} → (C → B) → Held C → Held B
read_held f h = record { parts = map (read_piece f) h.parts; used = h.used; flags = h.flags; operators = h.operators; next = h.next; floor = h.floor }

-- what a call finds
abbrev pub read_hit : {C B : Type 0} → (C → B) → Option (ℕ × C × Bool) → Option (ℕ × B × Bool)
read_hit f o = option_map (λ h. (h.0, f h.1, h.2)) o

-- a clause costs what it costs in texts
abbrev pub Costs : {C : Type 0} → (C → ℕ) → (C → Clause) → Type 0
Costs need f = (c : _) → need c ≡ clause_cells (f c)

-- THE DATABASE SAYS what the databases of the definitions say, at every generation from the floor on
abbrev pub SaysFor : {C : Type 0} → (C → Clause) → Held C → (ℕ → Database Clause) → Type 0
SaysFor f h d = StandsFor clause_cells (read_held f h) d

-- each clause that is held passes
abbrev pub EachHeld : {C : Type 0} → (C → Type 0) → Held C → Type 0
EachHeld P h = All (λ x. All (λ d. P d.clause) x.clauses) h.parts

-- the clause is one of these, and one that is held
abbrev pub IsAmong : {C : Type 0} → C → List (DatedClause C) → Type 0
IsAmong c [] = ⊥
IsAmong c (d ∷ ds) = (d.clause ≡ c) ⊎ IsAmong c ds

abbrev pub IsHeld : {C : Type 0} → C → Held C → Type 0
IsHeld c h = (p : Proc) × IsAmong c (clauses_at h.parts p)
