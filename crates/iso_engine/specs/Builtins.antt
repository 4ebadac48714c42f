-- Goals of built-in predicates.
use Rattle.std.specs.Prelude.{◌≡◌, ℕ, ◌<◌, true, false, Some, None, is_some}
use Rattle.pl_term.specs.Tree.{Chars, Tree, Trees, compound, count}
use Rattle.pl_model.specs.Builtins.{row}
use Rattle.pl_model.specs.SharedBuiltins.{shared}
use Rattle.pl_model.specs.Terms.{arguments}
use Rattle.pl_model.specs.Control.{construct, name_of, other}
use Rattle.atom_api.specs.Fixed.{fixed}
use Rattle.term_store.specs.declared.views.Arguments.{Arguments}
use Rattle.term_store.specs.declared.words.Place.{Place}
use Rattle.term_store.specs.Heap.{atom_name}
use Rattle.term_store.specs.Contents.{Contents, Holds, IsArguments, arguments_at, term_at}
use Rattle.builtin_rows.specs.Predicates as kinds
use Rattle.builtin_rows.specs.Predicates.{arity_of}
use Rattle.builtin_rows.specs.Laws.{AreTexts}
use Rattle.iso_search.specs.Reading.{IsView, View, reads}
use Rattle.shared_builtins.specs.declared.goal.StateGoal.{StateGoal}
use Rattle.shared_builtins.specs.Goals.{IsPredicate, IsStateGoal}
use Rattle.iso_engine.specs.declared.builtin.Builtin.{Builtin}
use Rattle.iso_engine.specs.declared.builtin.Builtin.TheVariants.{Row, State, Collect, No}
use Rattle.iso_engine.specs.declared.builtin.RowGoal.{RowGoal}
use Rattle.iso_engine.specs.Collections.{IsCollectAt}

-- It is no built-in predicate.
pub record IsNoBuiltin (g : Tree) : Type 0 where
  pub no_row : (next : ℕ) → is_some (row (name_of g) (arguments g) next) ≡ false
  pub not_shared : is_some (shared (name_of g) (arguments g)) ≡ false

-- A goal of a predicate that is a function of its arguments.
pub record IsRowGoal (s : Contents) (r : RowGoal) : Type 0 where
  pub holds : Holds s r.place
  pub inside : IsArguments s r.arguments
  pub some : 0 < r.arguments.count
  pub means : term_at s r.place ≡ compound (atom_name r.name) (arguments_at s r.arguments)
  pub named : fixed r.name ≡ Some (kinds.name_of r.pred)
  pub many : r.arguments.count ≡ arity_of r.pred

-- The goal at the place is no function of its arguments.
abbrev pub HasNoRow : Contents → Place → Type 0
HasNoRow s goal = (v : View) → IsView v → (next : ℕ) → let g = reads v s goal in row (name_of g) (arguments g) next ≡ None

-- What the goal at a place is, where it is no control construct.
abbrev pub IsBuiltinAt : Contents → Place → Builtin → Type 0
IsBuiltinAt s goal (Row r) = (r.place ≡ goal) × IsRowGoal s r
IsBuiltinAt s goal (State x) = (x.place ≡ goal) × IsStateGoal s x × HasNoRow s goal
IsBuiltinAt s goal (Collect x) = IsCollectAt s goal x
IsBuiltinAt s goal No = (v : View) → IsView v → IsNoBuiltin (reads v s goal)

-- As the goal at the place is read by some view, it is no control construct, and no step of the search of its own.
abbrev pub IsOtherOnce : Contents → Place → Type 0
IsOtherOnce s goal = (v : View) × IsView v × (construct (reads v s goal) ≡ other)

-- A predicate with this name and so many arguments asks the shared state, as its name is read by some texts.
abbrev pub AsksOnce : ℕ → ℕ → Type 0
AsksOnce name arity = (text : ℕ → Chars) × AreTexts text × (ts : Trees) × (count ts ≡ arity) × (is_some (shared (text name) ts) ≡ true)

-- The goal is one of a predicate of the shared state with this name and these arguments.
abbrev pub IsAskedAt : Place → ℕ → Arguments → StateGoal → Type 0
IsAskedAt goal name a x = (x.place ≡ goal) × (x.name ≡ name) × (x.arguments ≡ a) × IsPredicate name a.count x.pred
