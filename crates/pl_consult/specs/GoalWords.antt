-- Goal words as they were read, and the goals whose engines could not be started.
use Rattle.std.specs.Prelude.{◌≡◌, ℕ, suc, List, [], ◌∷◌, ◌++◌, map, drop, Option, Some, None}
use Rattle.std.specs.Arc.{arc_value}
use Rattle.pl_term.specs.Tree.{Chars, Tree}
use Rattle.pl_model.specs.declared.grammar.Quotes.{Quotes}
use Rattle.pl_model.specs.OperatorTable.{OperatorTable}
use Rattle.run_model.specs.Execution.{Word, goal_word, faulty_word, word_read, further_goals, Refusal}
use Rattle.word_board.specs.declared.word.GoalWord.{GoalWord}
use Rattle.word_board.specs.declared.word.GoalWord.TheVariants.{Goal, Faulty}
use Rattle.word_board.specs.Seen.{SeenWords}
use Rattle.pl_consult.specs.declared.goal_words.WordsRead.{WordsRead}
use Rattle.pl_consult.specs.declared.goal_words.RefusedGoal.{RefusedGoal}
use Rattle.pl_consult.specs.Steps.{IsFirst}

abbrev pub word_of : GoalWord → Word
word_of (Goal t names) = goal_word t names.items
word_of (Faulty f) = faulty_word f.kind f.at

-- The words that stand on the board, once they were read: none before.
abbrev pub read_of : Option SeenWords → List GoalWord
read_of None = []
read_of (Some w) = w.words

-- The words as they were read.
abbrev pub words_of : List GoalWord → List Word
words_of ws = map word_of ws

-- The names of the variables of the first goal, once the words are read.
abbrev pub names_in : GoalWord → List (Chars × ℕ)
names_in (Goal t names) = names.items
names_in (Faulty f) = []

abbrev pub names_by : List GoalWord → List (Chars × ℕ)
names_by [] = []
names_by (w ∷ ws) = names_in w

-- The goals that could not be started.
abbrev pub refusal_of : RefusedGoal → Refusal
refusal_of r = record { number = r.number; ball = r.ball; operators = arc_value r.operators }

abbrev pub refusals_of : List RefusedGoal → List Refusal
refusals_of rs = map refusal_of rs

-- One more is kept, with this number and this ball, under these operators.
pub record HasKept (n : ℕ) (b : Tree) (ops : OperatorTable) (old new : List RefusedGoal) : Type 0 where
  pub goal : RefusedGoal
  pub is : refusal_of goal ≡ record { number = n; ball = b; operators = ops }
  pub put : new ≡ old ++ goal ∷ []

-- The words are read so, with the goal of the first one and the further goals, each with its number.
pub record AreReadSo (ops : OperatorTable) (quotes : Quotes) (words : List Chars) (r : WordsRead) : Type 0 where
  pub words_are : words_of r.read.items ≡ map (word_read ops quotes) words
  pub first_is : IsFirst r.first (words_of r.read.items)
  pub goals_are : r.goals.items ≡ further_goals (words_of r.read.items)

-- At this place of the list stands the goal with this number.
abbrev pub IsAt : ℕ → ℕ → Tree → List (ℕ × Tree) → Type 0
IsAt at n g gs = drop at gs ≡ (n, g) ∷ drop (suc at) gs

-- The goal that a word is, with its number.
abbrev pub goal_of : ℕ → Word → List (ℕ × Tree)
goal_of n (goal_word t names) = (n, t) ∷ []
goal_of n (faulty_word kind at) = []
