-- The newest choice point, where clauses were not tried there.
use Rattle.std.specs.Prelude.{Bool, true, false, List, [], ◌∷◌}
use Rattle.iso_search.specs.declared.choices.Alternative.{Alternative}
use Rattle.iso_search.specs.declared.choices.Alternative.TheVariants.{Clauses}
use Rattle.iso_search.specs.declared.choices.ChoicePoint.{ChoicePoint}
use Rattle.iso_search.specs.declared.failure.Back.{Back}
use Rattle.iso_search.specs.declared.failure.Back.TheVariants.{Retry}
use Rattle.iso_engine.specs.declared.untried.Untried.{Untried}

abbrev pub retry_of : Untried → Back
retry_of u = Retry u.purpose u.goal u.generation u.place u.next

-- Clauses were not tried there.
abbrev pub are_clauses : Alternative → Bool
are_clauses (Clauses p goal generation place) = true
are_clauses _ = false

-- The same of the newest of some choice points, the newest first.
abbrev pub are_clauses_newest : List ChoicePoint → Bool
are_clauses_newest [] = false
are_clauses_newest (k ∷ ks) = are_clauses k.alternative
