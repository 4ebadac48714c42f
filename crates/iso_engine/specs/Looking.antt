-- A look at the shared state.
use Rattle.std.specs.Prelude.{◌≡◌, [], ◌∷◌, ◌++◌, length, Option}
use Rattle.pl_model.specs.OperatorTable.{OperatorTable}
use Rattle.pl_model.specs.declared.grammar.Quotes.{Quotes}
use Rattle.pl_model.specs.History.{Kind, History}
use Rattle.pl_model.specs.Requests.{look, standing}
use Rattle.pl_model.specs.Service.{answers, entry_by, served_now}
use Rattle.world_api.specs.Told.{Told, Follows}
use Rattle.world_api.specs.Answers.{seen_as}

-- The operators that stand after all entries.
pub record Looks (t : Told) (ops : OperatorTable) (u : Told) : Type 0 where
  pub before : History
  pub quotes : Quotes
  pub update : Option Kind
  pub entries : Follows t.engine t.history before
  pub served : served_now t.engine t.goals before look ≡ answers (standing ops quotes) update
  pub told : u ≡ seen_as t (before ++ entry_by t.engine update) (t.gens ++ length before ∷ [])
