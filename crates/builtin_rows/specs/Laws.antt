-- What is said of a built-in predicate that was found by its name and the number of its arguments.
use Rattle.std.specs.Prelude.{◌≡◌, ℕ, Option, Some, is_some}
use Rattle.pl_term.specs.Tree.{Chars, Trees, count}
use Rattle.pl_model.specs.Builtins.{row}
use Rattle.pl_model.specs.SharedBuiltins.{shared}
use Rattle.pl_model.specs.Control.{construct}
pub use Rattle.pl_model.specs.laws.Dispatch.{goal_of, is_search_step as is_predicate}
use Rattle.atom_api.specs.Fixed.{fixed}
use Rattle.builtin_rows.specs.declared.predicates.Meaning.{Meaning}
use Rattle.builtin_rows.specs.declared.predicates.Meaning.TheVariants.{Row}
use Rattle.builtin_rows.specs.Predicates.{name_of, arity_of, has_row, asks_something, is_step}

-- Texts of atoms: the fixed atoms have their own ones, and different atoms have different ones.
pub record AreTexts (text : ℕ → Chars) : Type 0 where
  pub standing : (a : ℕ) (t : Chars) → fixed a ≡ Some t → text a ≡ t
  pub apart : (a b : ℕ) → text a ≡ text b → a ≡ b

-- The predicate, where it is a function of its arguments, has this name and so many arguments.
abbrev pub IsNamed : ℕ → ℕ → Option Meaning → Type 0
IsNamed name arity (Some (Row p)) = (fixed name ≡ Some (name_of p)) × (arity ≡ arity_of p)
IsNamed name arity o = Unit {0}

-- It is a predicate of its arguments alone exactly where it has a row.
abbrev pub TellsRows : ℕ → ℕ → Option Meaning → Type 0
TellsRows name arity o =
    (text : ℕ → Chars) → AreTexts text → (ts : Trees) → count ts ≡ arity → (next : ℕ) → is_some (row (text name) ts next) ≡ has_row o

-- It is a predicate of the shared state exactly where it asks something.
abbrev pub TellsShared : ℕ → ℕ → Option Meaning → Type 0
TellsShared name arity o =
    (text : ℕ → Chars) → AreTexts text → (ts : Trees) → count ts ≡ arity → is_some (shared (text name) ts) ≡ asks_something o

abbrev pub TellsConstructs : ℕ → ℕ → Option Meaning → Type 0
TellsConstructs name arity o =
    (text : ℕ → Chars) → AreTexts text → (ts : Trees) → count ts ≡ arity → is_predicate (construct (goal_of (text name) ts)) ≡ is_step o
