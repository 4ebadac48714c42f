-- What a checker in memory is of a file that is checked.
use Rattle.std.specs.Prelude.{◌≡◌, ◌+◌, ◌++◌, ℕ, List, [], ◌∷◌, Bool, Some, is_some, length, encode_utf8_all}
use Rattle.pl_term.specs.Tree.{Chars}
use Rattle.pl_model.specs.declared.operators.Kind.{Kind}
use Rattle.pl_model.specs.declared.syntax.SyntaxKind.{SyntaxKind}
use Rattle.pl_model.specs.OperatorTable.{OperatorTable, refusal}
use Rattle.run_model.specs.Execution.{Rest, items_from, initialization, syntax_fault}
use Rattle.run_model.specs.Report.{all_consulted}
use Rattle.source_check.specs.declared.checker.Place.{Place}
use Rattle.source_check.specs.declared.checker.Place.TheVariants.{Item, End}
use Rattle.source_check.specs.declared.checker.Checker.{Checker}
use Rattle.source_check.specs.declared.change.Change.{Change}
use Rattle.source_check.specs.declared.change.Change.TheVariants.{Operators, Quotes, Nothing}
use Rattle.source_check.specs.Listings.{Checking, file_checked, items_checked}
use Rattle.source_check.specs.GoalNodes.{Effect, puts, sets, leaves}

abbrev pub rest_of : Place → Rest
rest_of (Item at) = items_from at
rest_of End = initialization

-- It is the file with this name, checked so far.
pub record Stands (name : Chars) (k : Checker) (c : Checking) : Type 0 where
  pub rest : rest_of k.place ≡ c.rest
  pub operators : k.operators ≡ c.operators
  pub quotes : k.quotes ≡ c.quotes
  pub lines : k.out.items ≡ encode_utf8_all (all_consulted name [] c.faults)
  pub faults : k.faults ≡ length c.faults
  pub clauses : k.clauses ≡ c.clauses
  pub directives : k.directives ≡ c.directives

-- After so many items more the whole file is checked.
pub record Comes (name : Chars) (bytes : List ℕ) (left : ℕ) (k : Checker) : Type 0 where
  pub checking : Checking
  pub stands : Stands name k checking
  pub comes : items_checked bytes left checking ≡ file_checked bytes

-- How many items and faults were counted.
abbrev pub counted : Checker → ℕ
counted k = k.clauses + (k.directives + k.faults)

abbrev pub with_fault : Checking → SyntaxKind → ℕ → Checking
with_fault c kind at = record c { faults = c.faults ++ syntax_fault kind at ∷ [] }

-- What a change is to what follows it.
abbrev pub effect_of : Change → Effect
effect_of (Operators p k names) = puts p k names.items
effect_of (Quotes q) = sets q
effect_of Nothing = leaves

-- The table refuses an operator of this name.
abbrev pub refuses : OperatorTable → ℕ → Kind → Chars → Bool
refuses t p k f = is_some (refusal t p (Some k) f)
