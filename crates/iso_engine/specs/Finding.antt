-- The places of variables that were found.
use Rattle.std.specs.Prelude.{◌≡◌, zero, List, length, map}
use Rattle.std.specs.List.{All}
use Rattle.pl_term.specs.Tree.{var}
use Rattle.term_store.specs.declared.words.Place.{Place}
use Rattle.term_store.specs.Contents.{Contents, Holds, term_at, upwards}

-- Places that are still to be looked at, and those of the variables found so far, which have the first numbers.
pub record AreFound (s : Contents) (walk found : List Place) : Type 0 where
  pub walk_inside : All (Holds s) walk
  pub inside : All (Holds s) found
  pub stands : map (term_at s) found ≡ map var (upwards zero (length found))
