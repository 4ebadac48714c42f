-- Texts that were asked of atoms, where it is told which ones were.
use Rattle.std.specs.Prelude.{◌≡◌, List, ◌++◌, Option}
use Rattle.std.specs.Option.{option_map}
use Rattle.std.specs.List.{All}
use Rattle.pl_term.specs.Tree.{Chars}

-- Texts were asked since, after those that had been, and this holds of each.
pub record Gains (P : Chars → Type 0) (old new : Option (List Chars)) : Type 0 where
  pub more : List Chars
  pub asked : new ≡ option_map (λ ts. ts ++ more) old
  pub each : All P more
