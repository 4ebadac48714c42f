-- Procedures that are abolished.
use Rattle.std.specs.Prelude.{ℕ, ◌+◌, ◌-◌, List, [], ◌∷◌, ◌++◌, map, sum_by, Option, Some, None}
use Rattle.pl_model.specs.History.{Proc}
use Rattle.gen_core.specs.declared.dated_clause.DatedClause.{DatedClause}
use Rattle.gen_core.specs.Visible.{erased_all, live_size}
use Rattle.clause_db.specs.declared.access.Access.{Access}
use Rattle.clause_db.specs.declared.access.Life.{Life}
use Rattle.clause_db.specs.Parts.{Piece, Held, clauses_at, changed_in}

-- What the procedure was, by its earlier lives and that which the update at the place ends.
abbrev pub buried : Option Access → ℕ → ℕ → List Life → List Life
buried None since k ls = ls
buried (Some a) since k ls = ls ++ record { access = a; from = since; until = k } ∷ []

-- The procedure is taken away with all its clauses by the update at the place (ISO 8.9.4).
abbrev pub closed : {C : Type 0} → ℕ → Piece C → Piece C
closed k x = record x { access = None; lives = buried x.access x.since k x.lives; clauses = map (erased_all k) x.clauses }

abbrev pub live_cells : {C : Type 0} → (C → ℕ) → List (DatedClause C) → ℕ
live_cells need ds = sum_by (live_size need) ds

abbrev pub abolished_held : {C : Type 0} → (C → ℕ) → ℕ → Proc → Held C → Held C
abolished_held need k p h = record h {
  parts = changed_in (closed k) p h.parts;
  used = h.used - live_cells need (clauses_at h.parts p);
  next = k + 1;
}
