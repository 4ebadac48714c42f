-- What is written of an engine at the end of a run.
use Rattle.std.specs.Prelude.{◌≡◌, ℕ, ◌==◌, ◌||◌, Option, Some, None, if◌then◌else◌}
use Rattle.pl_term.specs.Tree.{Chars}
use Rattle.run_model.specs.Lawful.{Program, is_goal_number}
use Rattle.engine_run.specs.declared.runner.Lines.{Lines}
use Rattle.engine_run.specs.declared.runner.Lines.TheVariants.{Solutions, Texts}

-- what is written of its goal, the name of the file that it consults, and the word that its goal is: on which board, and with which number there
pub record Writing : Type 0 where
  pub lines : Lines
  pub file : Chars
  pub word : Option (ℕ × ℕ)

-- THE SOLUTIONS are written of the command's goals, which the first engine and those with their numbers run, and of no other
abbrev pub lines_of : Program → ℕ → Lines
lines_of p e = if (e == 1) || is_goal_number p e then Solutions else Texts

-- THE WORD that their goal is has their number
abbrev pub word_of : Program → ℕ → ℕ → Option (ℕ × ℕ)
word_of p board e = if (e == 1) || is_goal_number p e then Some (board, e) else None

-- The word of the goal with this number, if it has one
abbrev pub word_on : ℕ → Option ℕ → Option (ℕ × ℕ)
word_on board None = None
word_on board (Some n) = Some (board, n)

-- WHAT IS WRITTEN OF THE ENGINE is what its number says, under the names of the word with its number on this board; the first consults the file with this name
pub record WritesSo (p : Program) (file : Chars) (board e : ℕ) (w : Writing) : Type 0 where
  pub lines : w.lines ≡ lines_of p e
  pub word_is : w.word ≡ word_of p board e
  pub file_is : e ≡ 1 → w.file ≡ file
