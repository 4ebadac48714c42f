-- Going back to lines of the table of a built-in predicate.
use Rattle.std.specs.Prelude.{◌≡◌, ℕ, drop}
use Rattle.std.specs.List.{Contains}
use Rattle.pl_term.specs.Tree.{Chars}
use Rattle.pl_model.specs.BuiltinRows.{unifying}
use Rattle.pl_model.specs.Predicates.{proc_of}
use Rattle.pl_model.specs.Terms.{arguments}
use Rattle.atom_api.specs.Names.{Names}
use Rattle.builtin_rows.specs.Given.{terms_of, texts_of_all}
use Rattle.term_store.specs.declared.words.Place.{Place}
use Rattle.term_store.specs.Contents.{Contents, term_at}
use Rattle.world_api.specs.Texts.{Holds}
use Rattle.iso_search.specs.declared.failure.Back.TheVariants.{Answers}
use Rattle.iso_search.specs.declared.outcome.Outcome.{Outcome}
use Rattle.iso_search.specs.declared.search.Search.{Search}
use Rattle.iso_search.specs.Failures.{IsTaken, back_result}
use Rattle.iso_search.specs.Lines.{lines_of}
use Rattle.iso_search.specs.Outcomes.{IsAfter, Setting, result_in}
use Rattle.iso_search.specs.Reading.{IsView, reads}
use Rattle.iso_search.specs.Searching.{node_of}
use Rattle.iso_search.specs.Spelling.{spelled, text_of}
use Rattle.iso_engine.specs.declared.builtin.RowGoal.{RowGoal}

-- The text is one of an answer that the lines give from there on for the goal at the place.
abbrev pub IsLineAsked : Names → Contents → Place → ℕ → Chars → Type 0
IsLineAsked m s goal line c =
    let g = spelled (text_of m) (term_at s goal) in Contains (texts_of_all (terms_of (unifying (arguments g) (drop line (lines_of g))))) c

-- By every view in which the atoms have their texts, the search stands with its outcome where the definition goes back to the
-- lines.
pub record LineLeadsTo (n : Names) (e : Search) (r : RowGoal) (line rest : ℕ) (f : Search) (o : Outcome) : Type 0 where
  pub after : IsAfter e f o
  pub step : (t : Setting) → IsView t.view → Holds n t.view.names
      → result_in t f (node_of t.view e rest) (proc_of (reads t.view e.store r.place)) o ≡ back_result t e (Answers r.place line rest)

-- The choice point is there again.
abbrev pub IsLineThere : Search → RowGoal → ℕ → ℕ → Search → Type 0
IsLineThere e r line rest f = IsTaken f e (Answers r.place line rest) × (let x : Search = record e { choices = f.choices } in f ≡ x)
