-- What is gone on with of a table of answers, from one of its lines on.
use Rattle.std.specs.Prelude.{◌≡◌, ℕ, List}
use Rattle.pl_term.specs.Tree.{Trees}
use Rattle.pl_model.specs.BuiltinRows.{Answer}
use Rattle.pl_model.specs.Predicates.{proc_of}
use Rattle.pl_model.specs.Terms.{arguments}
use Rattle.atom_api.specs.Names.{Names}
use Rattle.term_store.specs.declared.words.Place.{Place}
use Rattle.term_store.specs.Contents.{Contents, Holds as IsIn}
use Rattle.world_api.specs.Texts.{Holds as AreHeld}
use Rattle.iso_search.specs.declared.failure.Back.TheVariants.{Answers}
use Rattle.iso_search.specs.declared.outcome.Outcome.{Outcome}
use Rattle.iso_search.specs.declared.search.Search.{Search}
use Rattle.iso_search.specs.Failures.{back_result}
use Rattle.iso_search.specs.Lines.{lines_of}
use Rattle.iso_search.specs.Outcomes.{Setting, result_in}
use Rattle.iso_search.specs.Reading.{IsView, View, reads}
use Rattle.iso_search.specs.Searching.{IsWhole, node_of}
use Rattle.builtin_rows.specs.declared.row.Row.{Row}
use Rattle.builtin_rows.specs.Given.{lined}
use Rattle.builtin_rows.specs.Rows.{IsRow}

-- Where it comes from: the store before it was looked for, the atoms that are held after that, the terms of the goal's arguments,
-- the lines of the table, and the one from which on they are gone on with.
pub record LineOrigin : Type 0 where
  pub store : Contents
  pub held : Names
  pub terms : Trees
  pub lines : List Answer
  pub from : ℕ

-- The search before it was looked for.
abbrev pub search_before : LineOrigin → Search → Search
search_before x e = record e { store = x.store }

-- The row of places is what the lines give from there on for the goal at a place, and of the search only the store has changed
-- since.
pub record IsNextMade (x : LineOrigin) (goal : Place) (e : Search) (row : Row) : Type 0 where
  pub whole : IsWhole (search_before x e)
  pub inside : IsIn x.store goal
  pub read_as : (v : View) → IsView v → AreHeld x.held v.names → let g = reads v x.store goal in (arguments g ≡ x.terms) × (lines_of g ≡ x.lines)
  pub made : IsRow x.store e.next_variable x.terms (lined x.terms x.lines x.from) x.held e.store row

-- The state of the search with its outcome is where the definition goes back to the lines, before the tasks of a list.
abbrev pub IsGoneBack : LineOrigin → Place → ℕ → Search → Search → Outcome → Type 0
IsGoneBack x goal rest e f o =
    (t : Setting) → IsView t.view → AreHeld x.held t.view.names
    → let b = search_before x e in
    result_in t f (node_of t.view b rest) (proc_of (reads t.view b.store goal)) o ≡ back_result t b (Answers goal x.from rest)
