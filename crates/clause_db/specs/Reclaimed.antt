-- A procedure whose clauses are reclaimed: those that one of the first updates erased, as many as the floor says.
use Rattle.std.specs.Prelude.{◌≡◌, ℕ, zero, suc, ◌≤◌, ◌==◌, List, [], ◌∷◌, filter, map, length, max, not, nat_le, Bool}
use Rattle.std.specs.List.{list_any}
use Rattle.std.specs.List.Sorted.{IsPermutation}
use Rattle.gen_core.specs.declared.dated_clause.DatedClause.{DatedClause}
use Rattle.gen_core.specs.Visible.{is_droppable, is_droppable_at}
use Rattle.clause_db.specs.declared.access.Life.{Life}
use Rattle.clause_db.specs.Parts.{Piece, Held}

abbrev pub is_left : {C : Type 0} → ℕ → DatedClause C → Bool
is_left floor d = not (is_droppable floor d)

-- A life that ended below the floor is forgotten.
abbrev pub is_remembered : ℕ → Life → Bool
is_remembered floor l = nat_le floor l.until

abbrev pub reclaimed : {C : Type 0} → ℕ → Piece C → Piece C
reclaimed floor x = record x { lives = filter (is_remembered floor) x.lives; clauses = filter (is_left floor) x.clauses }

abbrev pub reclaimed_at : {C : Type 0} → ℕ → ℕ → List (Piece C) → List (Piece C)
reclaimed_at i floor [] = []
reclaimed_at zero floor (x ∷ xs) = reclaimed floor x ∷ xs
reclaimed_at (suc i) floor (x ∷ xs) = x ∷ reclaimed_at i floor xs

abbrev pub reclaimed_held : {C : Type 0} → ℕ → ℕ → Held C → Held C
reclaimed_held i floor h = record h { parts = reclaimed_at i floor h.parts; next = max h.next floor; floor = max h.floor floor }

-- What is dropped of a procedure's clauses, and where: each clause once, and none that is left has the place of one of them.
pub record IsDropped {C : Type 0} (floor : ℕ) (old : List (DatedClause C)) (places : List ℕ) (clauses : List C) : Type 0 where
  pub all : IsPermutation (map (λ d. d.clause) (filter (is_droppable floor) old)) clauses
  pub places_are : (p : ℕ) → list_any (λ q. q == p) places ≡ list_any (is_droppable_at floor p) old
  pub once : (p : ℕ) → length (filter (λ d. d.place == p) old) ≤ 1
