-- The atoms that an engine has in use.
use Rattle.std.specs.Prelude.{ℕ, List, [], ◌∷◌, ◌++◌}
use Rattle.term_store.specs.NumberedNames.{atoms_in}
use Rattle.iso_engine.specs.declared.doing.Doing.{Doing}
use Rattle.iso_engine.specs.declared.doing.Doing.TheVariants.{Running, Failing, Throwing, Erasing, Clearing, Answering, Ended}
use Rattle.iso_engine.specs.declared.doing.End.{End}
use Rattle.iso_engine.specs.declared.doing.End.TheVariants.{Solved, NoMore, Threw, Halted, Exited}
use Rattle.iso_engine.specs.declared.doing.Left.{Left}
use Rattle.iso_engine.specs.declared.doing.Left.TheVariants as left
use Rattle.iso_engine.specs.declared.engine.Engine.{Engine}
use Rattle.iso_search.specs.Live.{open_generations, search_atoms}

-- Those of the clause that retractall/1 has found.
abbrev pub left_atoms : Left → List ℕ
left_atoms left.None = []
left_atoms (left.Found a f) = atoms_in f.clause
left_atoms (left.After place) = []

abbrev pub end_atoms : End → List ℕ
end_atoms Solved = []
end_atoms NoMore = []
end_atoms (Threw b) = atoms_in b
end_atoms (Halted k) = []
end_atoms (Exited b) = atoms_in b

abbrev pub doing_atoms : Doing → List ℕ
doing_atoms (Running list) = []
doing_atoms Failing = []
doing_atoms (Throwing b outer) = atoms_in b
doing_atoms (Erasing place list) = []
doing_atoms (Clearing list g x) = left_atoms x
doing_atoms Answering = []
doing_atoms (Ended x) = end_atoms x

abbrev pub engine_atoms : Engine → List ℕ
engine_atoms e = search_atoms e.search ++ doing_atoms e.doing

-- The generations of which clauses may still be asked for: those of its choice points, and that of the clauses that retractall/1
-- has not looked at.
abbrev pub left_generations : ℕ → Left → List ℕ
left_generations g left.None = []
left_generations g (left.Found a f) = g ∷ []
left_generations g (left.After place) = g ∷ []

abbrev pub doing_generations : Doing → List ℕ
doing_generations (Clearing list g x) = left_generations g x
doing_generations _ = []

abbrev pub engine_generations : Engine → List ℕ
engine_generations e = open_generations e.search ++ doing_generations e.doing
