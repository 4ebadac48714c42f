-- Goals with further arguments.
use Rattle.std.specs.Prelude.{◌≡◌, ℕ, suc, drop, length, List, Result, Err}
use Rattle.pl_term.specs.Tree.{Tree, Trees, compound, trees}
use Rattle.pl_model.specs.Terms.{extended}
use Rattle.pl_model.specs.BodyChecks.{if_callable}
use Rattle.pl_model.specs.Control.{extension_cells}
use Rattle.term_store.specs.declared.words.Place.{Place}
use Rattle.term_store.specs.declared.views.Arguments.{Arguments}
use Rattle.term_store.specs.Heap.{atom_name}
use Rattle.term_store.specs.Contents.{Contents, Holds, arguments_at, term_at}
use Rattle.iso_search.specs.declared.extending.Extended.{Extended}
use Rattle.iso_search.specs.declared.extending.Extension.{Extension}
use Rattle.iso_search.specs.declared.extending.Extension.TheVariants.{Made, Refused}
use Rattle.iso_search.specs.Errors.{IsFaultIn}
use Rattle.iso_search.specs.Outcomes.{fault_term}
use Rattle.iso_search.specs.Reading.{View, reads}
use Rattle.iso_search.specs.Spelling.{spelled_all, text_of}

-- The further arguments of a call.
abbrev pub further : View → Contents → Arguments → Trees
further v s a = spelled_all (text_of v.names) (trees (drop 1 (arguments_at s a)))

-- The goal has the further arguments, and may be called; or it may not.
pub record IsCallable (v : View) (s : Contents) (goal : Place) (call : Arguments) (t : Contents) (x : Extended) : Type 0 where
  pub stands : reads v t x.goal ≡ extended (reads v s goal) (further v s call)
  pub cells : x.cells ≡ extension_cells (reads v s goal) (further v s call)
  pub callable : (r : Result Tree Tree) → if_callable (reads v s goal) r ≡ r

abbrev pub IsExtensionIn : Contents → Extension → Type 0
IsExtensionIn s (Made x) = Holds s x.goal
IsExtensionIn s (Refused f) = IsFaultIn s f

abbrev pub IsExtended : View → Contents → Place → Arguments → Contents → Extension → Type 0
IsExtended v s goal call t (Made x) = IsCallable v s goal call t x
IsExtended v s goal call t (Refused f) = (r : Result Tree Tree) → if_callable (reads v s goal) r ≡ Err (fault_term (reads v t) f)

pub record IsMadeOf (s : Contents) (name : ℕ) (terms : List Tree) (t : Contents) (x : Extended) : Type 0 where
  pub holds : Holds t x.goal
  pub stands : term_at t x.goal ≡ compound (atom_name name) terms
  pub cells : x.cells ≡ suc (length terms)
