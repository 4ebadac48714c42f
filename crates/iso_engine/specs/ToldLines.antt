-- Lines of tables that the shared state told, as they stand in a store.
use Rattle.std.specs.Prelude.{◌≡◌, ◌<◌, ◌+◌, ℕ, Bool, List, [], ◌∷◌, length, map, drop, get_or, Option, Some, None}
use Rattle.std.specs.List.{All}
use Rattle.pl_term.specs.Tree.{Trees, trees}
use Rattle.pl_model.specs.BuiltinRows.{Answer, unifying}
use Rattle.pl_model.specs.Terms.{arguments}
use Rattle.term_store.specs.declared.words.Place.{Place}
use Rattle.term_store.specs.Contents.{Adds, Contents, Holds, SameSize, term_at}
use Rattle.iso_search.specs.declared.told.Line.{Line}
use Rattle.iso_search.specs.declared.told.Line.TheVariants.{Indicator, Flag, Operator}
use Rattle.iso_search.specs.Conversions.{Grows}
use Rattle.iso_search.specs.Reading.{IsView, View, reads}
use Rattle.iso_search.specs.Told.{line_answer}
use Rattle.iso_engine.specs.Leading.{AreUnified}

-- The cells of the terms that a line makes.
abbrev pub line_cells : Line → ℕ
line_cells (Indicator name arity) = 3
line_cells (Flag flag value) = 0
line_cells (Operator priority specifier name) = 0

-- Places for the terms of a line were made, and the arguments of the goal unified with them.
pub record IsLineUnified (b : Bool) (s : Contents) (goal : Place) (line : Line) (u : Contents) : Type 0 where
  pub made : Contents
  pub places : List Place
  pub grows : Grows s made
  pub inside : All (Holds made) places
  pub stand : (v : View) → IsView v → trees (map (reads v made) places) ≡ (line_answer v.names line).terms
  pub unified : AreUnified b made (arguments (term_at made goal)) (trees (map (term_at made) places)) u
  pub adds : Adds made u
  pub size : SameSize made u

-- The first of the lines from one on that unifies with the terms.
abbrev pub IsNextTold : (Line → Answer) → Trees → List Line → ℕ → Option ℕ → Type 0
IsNextTold f ts ls from None = unifying ts (drop from (map f ls)) ≡ []
IsNextTold f ts ls from (Some k) =
    (k < length ls)
    × (unifying ts (drop from (map f ls)) ≡ unifying ts (drop k (map f ls)))
    × ((line : Line) → line ≡ get_or ls k line → unifying ts (drop k (map f ls)) ≡ f line ∷ unifying ts (drop (k + 1) (map f ls)))
