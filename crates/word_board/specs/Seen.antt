-- The words that stand on a board.
use Rattle.std.specs.Prelude.{ℕ, List}
use Rattle.word_board.specs.declared.word.GoalWord.{GoalWord}

pub record SeenWords : Type 0 where
  pub board : ℕ
  pub words : List GoalWord
