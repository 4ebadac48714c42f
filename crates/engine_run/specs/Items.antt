-- The items of a script, and what is written of its file.
use Rattle.std.specs.Prelude.{◌≡◌, ℕ, List, [], Bool, true, Option, Some, None, encode_utf8_all}
use Rattle.pl_term.specs.Tree.{Chars, Tree}
use Rattle.run_model.specs.Execution.{Execution}
use Rattle.run_model.specs.Report.{all_consulted}
use Rattle.pl_model.specs.declared.ends.How.{How}
use Rattle.script_api.specs.Parts.{Part}
use Rattle.script_api.specs.Scripts.{is_directive, some_fault, written_at}

-- A directive at hand has ended, or there is none.
abbrev pub IsDirectiveAsked : Option Part → Option (How Tree) → Type 0
IsDirectiveAsked None None = Unit {0}
IsDirectiveAsked (Some p) (Some how) = is_directive p ≡ true
IsDirectiveAsked o how = ⊥

-- The text has what is written of the file, and it is told whether a fault is in it.
abbrev pub IsText : Chars → Bool → Execution → List ℕ → Type 0
IsText name kept x bytes = (bytes ≡ encode_utf8_all (all_consulted name [] (written_at x))) × (some_fault (written_at x) ≡ kept)
