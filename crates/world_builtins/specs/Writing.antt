-- What comes of a text that is written under the operators.
use Rattle.std.specs.Prelude.{◌≡◌, ◌++◌, ℕ, List, [], ◌∷◌, length, Option, encode_utf8_all}
use Rattle.pl_term.specs.Tree.{Chars}
use Rattle.pl_model.specs.OperatorTable.{OperatorTable}
use Rattle.pl_model.specs.History.{Kind, History}
use Rattle.pl_model.specs.Requests.{read_operators, standing}
use Rattle.pl_model.specs.Service.{answers, entry_by, served_now}
use Rattle.pl_model.specs.declared.grammar.Quotes.{Quotes}
use Rattle.world_api.specs.Told.{Told, Follows}
use Rattle.world_api.specs.Answers.{seen_as}

-- The operators were read after all entries `before`, and the text that they give was put after what was written.
pub record IsWritten (text : OperatorTable → Chars) (old new : Told) (out_old out_new : List ℕ) : Type 0 where
  pub before : History
  pub follows : Follows old.engine old.history before
  pub operators : OperatorTable
  pub quotes : Quotes
  pub update : Option Kind
  pub served : served_now old.engine old.goals before read_operators ≡ answers (standing operators quotes) update
  pub told : new ≡ seen_as old (before ++ entry_by old.engine update) (old.gens ++ length before ∷ [])
  pub out : out_new ≡ out_old ++ encode_utf8_all (text operators)
