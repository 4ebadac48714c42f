-- What is taken up of an item, whatever execution it is of.
use Rattle.std.specs.Prelude.{◌≡◌, ◌⊎◌, ℕ, zero, List, [], ◌∷◌, ◌++◌, Option, Some, None, Ok}
use Rattle.pl_term.specs.Tree.{Chars, Tree}
use Rattle.pl_term.specs.Variables.{rename}
use Rattle.pl_model.specs.declared.grammar.Quotes.{Quotes}
use Rattle.pl_model.specs.OperatorTable.{OperatorTable}
use Rattle.pl_model.specs.Grammar.{clause}
use Rattle.pl_model.specs.TermGrammar.{item_of}
use Rattle.pl_model.specs.BodyChecks.{clause_of_term}
use Rattle.run_model.specs.Execution.{directive_of, initialization_of}
use Rattle.pl_consult.specs.declared.consult.Taken.{Taken}
use Rattle.pl_consult.specs.declared.consult.Taken.TheVariants.{Clause, Directive, Passed}
use Rattle.pl_consult.specs.Checks.{kept_clause}

-- From this place of a text on, the next item is a clause with this term.
pub record IsReadAt (text : List ℕ) (at : ℕ) (ops : OperatorTable) (quotes : Quotes) (t : Tree) : Type 0 where
  pub names : List (Chars × ℕ)
  pub start : ℕ
  pub next : ℕ
  pub is : item_of text at ops quotes ≡ clause t names start next

-- The clause is the one that an item with this term stands for, its variables numbered from 0; the goal is that of the
-- directive.
abbrev pub IsTakenOf : Tree → Taken → Type 0
IsTakenOf t (Clause c place) = (directive_of t ≡ None) × (clause_of_term t ≡ Ok (kept_clause c)) × (rename zero c ≡ c)
IsTakenOf t (Directive goal place) = directive_of t ≡ Some goal
IsTakenOf t Passed = Unit {0}

-- After the goals of initialization/1 that were not run yet there is one more, that of an item with this term.
pub record PutsOff (t : Tree) (old new : List (ℕ × Tree)) : Type 0 where
  pub directive : Tree
  pub goal : Tree
  pub place : ℕ
  pub item : directive_of t ≡ Some directive
  pub later : initialization_of directive ≡ Some goal
  pub grown : new ≡ old ++ (place, goal) ∷ []

abbrev pub MayPutOff : Tree → List (ℕ × Tree) → List (ℕ × Tree) → Type 0
MayPutOff t old new = (new ≡ old) ⊎ PutsOff t old new

-- The same of the item that is read from this place of a text on.
abbrev pub IsTakenAt : List ℕ → ℕ → OperatorTable → Quotes → Taken → Type 0
IsTakenAt text at ops quotes Passed = Unit {0}
IsTakenAt text at ops quotes taken = (t : Tree) × IsReadAt text at ops quotes t × IsTakenOf t taken

abbrev pub HasPutOff : List ℕ → ℕ → OperatorTable → Quotes → List (ℕ × Tree) → List (ℕ × Tree) → Type 0
HasPutOff text at ops quotes old new = (new ≡ old) ⊎ ((t : Tree) × IsReadAt text at ops quotes t × PutsOff t old new)

-- The next goal of initialization/1 is the first of those that were not run yet, its variables numbered from 0.
abbrev pub IsNextOf : Option (ℕ × Tree) → List (ℕ × Tree) → List (ℕ × Tree) → Type 0
IsNextOf None old new = (old ≡ []) × (new ≡ [])
IsNextOf (Some g) old new = (goal : Tree) × (old ≡ (g.0, goal) ∷ new) × (g.1 ≡ rename zero goal)

-- At most the first of those goals is gone.
abbrev pub HasLost : List (ℕ × Tree) → List (ℕ × Tree) → Type 0
HasLost old new = (new ≡ old) ⊎ ((g : ℕ × Tree) × (old ≡ g ∷ new))
