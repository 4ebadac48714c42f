-- The line of a slice's solution.
use Rattle.std.specs.Prelude.{◌≡◌, ℕ, List, encode_utf8_all}
use Rattle.std.specs.Arc.{arc_value}
use Rattle.pl_term.specs.Tree.{Chars, Tree}
use Rattle.run_model.specs.Report.{solution_line, with_line}
use Rattle.atom_api.specs.Names.{Names}
use Rattle.iso_engine.specs.declared.engine.Engine.{Engine}
use Rattle.iso_engine.specs.declared.slices.Slice.{Slice}
use Rattle.iso_engine.specs.declared.slices.Slice.TheVariants.{Solution}
use Rattle.iso_engine.specs.Slices.{IsAnswerHeld}

-- Where there is a solution, each atom of its terms is held.
abbrev pub IsHeldFor : Slice → Names → Engine → Type 0
IsHeldFor (Solution ops) m e = IsAnswerHeld m e
IsHeldFor _ m e = Unit {0}

-- The line stands after the text, or there is none.
abbrev pub IsPut : Slice → List (Chars × ℕ) → List Tree → List ℕ → List ℕ → Type 0
IsPut (Solution ops) names ts old new = (t : Chars) → old ≡ encode_utf8_all t → new ≡ encode_utf8_all (with_line t (solution_line names (arc_value ops) ts))
IsPut _ names ts old new = new ≡ old
