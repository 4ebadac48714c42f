-- WHAT ALL CLAUSES THAT ARE HELD WEIGH together, by what each of them weighs: as how often it names an atom.
use Rattle.std.specs.Prelude.{ℕ, ◌+◌, List, [], ◌∷◌}
use Rattle.gen_core.specs.declared.dated_clause.DatedClause.{DatedClause}
use Rattle.clause_db.specs.Parts.{Held, Piece}

abbrev pub weight_in : {C : Type 0} → (C → ℕ) → List (DatedClause C) → ℕ
weight_in w [] = 0
weight_in w (d ∷ ds) = w d.clause + weight_in w ds

abbrev pub weight_of : {C : Type 0} → (C → ℕ) → List (Piece C) → ℕ
weight_of w [] = 0
weight_of w (x ∷ xs) = weight_in w x.clauses + weight_of w xs

abbrev pub weight : {C : Type 0} → (C → ℕ) → Held C → ℕ
weight w h = weight_of w h.parts
