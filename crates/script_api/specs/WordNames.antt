-- The names of the variables of a command's goal, as its word was read.
use Rattle.std.specs.Prelude.{ℕ, ◌-◌, List, [], Option, Some, None, slice_get}
use Rattle.pl_term.specs.Tree.{Chars}
use Rattle.word_board.specs.declared.word.GoalWord.{GoalWord}
use Rattle.word_board.specs.declared.word.GoalWord.TheVariants.{Goal, Faulty}
use Rattle.word_board.specs.Seen.{SeenWords}

-- Those of a word: none where it is no goal.
abbrev pub names_in_word : Option GoalWord → List (Chars × ℕ)
names_in_word None = []
names_in_word (Some (Goal t names)) = names.items
names_in_word (Some (Faulty f)) = []

-- Those of the word with this number, from 1 on.
abbrev pub names_at : List GoalWord → ℕ → List (Chars × ℕ)
names_at ws n = names_in_word (slice_get ws (n - 1))

-- Those of a goal that is the word with its number among the words of a board: none where it is no goal of the command.
abbrev pub names_told : Option (SeenWords × ℕ) → List (Chars × ℕ)
names_told None = []
names_told (Some p) = names_at p.0.words p.1

-- The board, and the number of the word.
abbrev pub word_told : Option (SeenWords × ℕ) → Option (ℕ × ℕ)
word_told None = None
word_told (Some p) = Some (p.0.board, p.1)
