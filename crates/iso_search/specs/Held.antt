-- The frames that choice points hold.
use Rattle.std.specs.Prelude.{ℕ, List, [], ◌∷◌}
use Rattle.iso_search.specs.declared.choices.ChoicePoint.{ChoicePoint}

-- How many frames the choice points, the newest first, go back to at most: those of the newest, since the others hold fewer.
abbrev pub frames_held : List ChoicePoint → ℕ
frames_held [] = 0
frames_held (k ∷ ks) = k.frames
