-- What a look at a line of sub_atom/5 finds.
use Rattle.std.specs.Prelude.{◌<◌, Some}
use Rattle.pl_term.specs.Tree.{Chars}
use Rattle.atom_parts.specs.declared.parts.Looked.{Looked}
use Rattle.atom_parts.specs.declared.parts.Looked.TheVariants.{Here, From}
use Rattle.atom_parts.specs.declared.parts.Parts.{Parts}
use Rattle.atom_parts.specs.declared.parts.Spot.{Spot}
use Rattle.atom_parts.specs.Parts.{IsNextPart, IsSpot, line_at}
use Rattle.atom_parts.specs.Skipping.{ArePassed}

-- The next line that unifies, or a later one up to which none does.
abbrev pub IsLooked : Chars → Parts → Spot → Looked → Type 0
IsLooked text w from (Here p) = IsNextPart text w from (Some p)
IsLooked text w from (From p) = IsSpot w.length p × ((line_at from < line_at p) × ArePassed text w (line_at from) (line_at p))
