-- Rows of places that a search is to go on with, and the unification of their places with arguments.
use Rattle.std.specs.Prelude.{◌≡◌, Bool, true, false, List, [], Some, None}
use Rattle.pl_term.specs.Tree.{Trees}
use Rattle.pl_model.specs.BuiltinRows.{Answer, table}
use Rattle.pl_model.specs.BuiltinRows as defined
use Rattle.pl_model.specs.History.{Proc}
use Rattle.pl_model.specs.Predicates.{proc_of}
use Rattle.pl_model.specs.Terms.{arguments}
use Rattle.pl_model.specs.Unify.{Bindings, bound, solve_all}
use Rattle.atom_api.specs.Names.{Names}
use Rattle.term_store.specs.declared.words.Place.{Place}
use Rattle.term_store.specs.Contents.{Contents, Holds as IsIn, term_at}
use Rattle.world_api.specs.Texts.{Holds as AreHeld}
use Rattle.world_builtins.specs.Naming.{IsHeldAt}
use Rattle.world_builtins.specs.Spelling as written
use Rattle.iso_search.specs.declared.search.Search.{Search}
use Rattle.iso_search.specs.Lines.{lines_of}
use Rattle.iso_search.specs.Reading.{IsView, View, reads}
use Rattle.iso_search.specs.Searching.{IsWhole}
use Rattle.builtin_rows.specs.declared.row.Row.{Row}
use Rattle.builtin_rows.specs.declared.row.Row.TheVariants.{Line}
use Rattle.builtin_rows.specs.Given.{given}
use Rattle.builtin_rows.specs.Rows.{IsRow}

-- Where a row comes from: the store before it was made, the atoms that were held before and after that, the predicate with
-- the terms of its arguments, and its row by the definition.
pub record Origin : Type 0 where
  pub store : Contents
  pub before : Names
  pub after : Names
  pub predicate : Proc
  pub terms : Trees
  pub row : defined.Row

-- The search before the row was made.
abbrev pub as_before : Origin → Search → Search
as_before x e = record e { store = x.store }

-- A line of a table is one of the table of the goal, however it is read by texts of what is held.
abbrev pub IsOfTable : Origin → Place → Row → Type 0
IsOfTable x goal (Line ps following) =
    (v : View) → IsView v → AreHeld x.after v.names
    → let g = reads v x.store goal in (proc_of g ≡ x.predicate) × ((xs : List Answer) → x.row ≡ table xs → lines_of g ≡ xs)
IsOfTable x goal row = Unit {0}

-- The row of places was made for the arguments of the goal at a place, and of the search only the store has changed since.
pub record IsRowMade (x : Origin) (goal : Place) (e : Search) (row : Row) : Type 0 where
  pub whole : IsWhole (as_before x e)
  pub inside : IsIn x.store goal
  pub held : IsHeldAt x.before x.store goal
  pub later : AreHeld x.before x.after
  pub arguments : arguments (written.reads x.before x.store goal) ≡ x.terms
  pub made : IsRow x.store e.next_variable x.terms (given x.predicate x.terms e.next_variable x.store.used x.store.budget x.row) x.after e.store row
  pub of_table : IsOfTable x goal row

-- Bindings unify the two lists of terms, and each place has them put into its term; or none unify them.
abbrev pub AreUnified : Bool → Contents → Trees → Trees → Contents → Type 0
AreUnified true s ts us t =
    (bs : Bindings) × ((solve_all [] ts us ≡ Some bs) × ((p : Place) → term_at t p ≡ bound bs (term_at s p)))
AreUnified false s ts us t = solve_all [] ts us ≡ None
