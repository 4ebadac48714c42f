-- What is left to do after a failure, as states of the search.
use Rattle.std.specs.Prelude.{◌≡◌, ◌≤◌, ◌∷◌, zero, length, drop}
use Rattle.pl_model.specs.Resolution.{State, running, failing, clauses, ended, no_more}
use Rattle.pl_model.specs.BuiltinRows.{unifying}
use Rattle.pl_model.specs.Control.{list_made, next_answer, next_clause}
use Rattle.pl_model.specs.Predicates.{proc_of}
use Rattle.pl_model.specs.Terms.{arguments}
use Rattle.term_store.specs.Contents.{Holds}
use Rattle.iso_search.specs.declared.failure.Back.{Back}
use Rattle.iso_search.specs.declared.failure.Back.TheVariants.{Exhausted, Run, Fail, Retry, Answers, Told, Found}
use Rattle.iso_search.specs.declared.search.Search.{Search}
use Rattle.iso_search.specs.Choices.{answers_from, listed_goal, purpose_of}
use Rattle.iso_search.specs.Collecting.{IsCollectionIn, Rise, copies_of}
use Rattle.iso_search.specs.Lines.{lines_of}
use Rattle.iso_search.specs.Outcomes.{Setting, limits_in, state_in}
use Rattle.iso_search.specs.Reading.{View, reads}
use Rattle.iso_search.specs.Searching.{choices_of, node_of, state_of}
use Rattle.iso_search.specs.Told.{told_answers, told_from}

abbrev pub back_result : Setting → Search → Back → State
back_result t e Exhausted = state_of t.view e (ended no_more) t.output
back_result t e (Run list) = state_of t.view e (running (node_of t.view e list)) t.output
back_result t e Fail = state_of t.view e failing t.output
back_result t e (Retry p goal generation place next) =
    next_clause (limits_in t e) (purpose_of p) (state_in t e) (reads t.view e.store goal) (node_of t.view e next)
    (t.view.left (listed_goal (purpose_of p) (reads t.view e.store goal)) generation place)
back_result t e (Answers goal line next) =
    let g = reads t.view e.store goal
    in next_answer (limits_in t e) (state_in t e) (node_of t.view e next) (proc_of g) (arguments g)
    (unifying (arguments g) (drop line (lines_of g)))
back_result t e (Told goal lines line next) =
    let g = reads t.view e.store goal
    in next_answer (limits_in t e) (state_in t e) (node_of t.view e next) (proc_of g) (arguments g)
    (told_answers t.view.names g lines.items line)
back_result t e (Found list found next) =
    list_made (limits_in t e) (state_in t e) (node_of t.view e next) (reads t.view e.store list) (copies_of t.view found)

abbrev pub IsBackIn : Search → Back → Type 0
IsBackIn e Exhausted = Unit {0}
IsBackIn e (Run list) = list ≤ length e.frames.items
IsBackIn e Fail = Unit {0}
IsBackIn e (Retry p goal generation place next) = Holds e.store goal × (next ≤ length e.frames.items)
IsBackIn e (Answers goal line next) = Holds e.store goal × (next ≤ length e.frames.items)
IsBackIn e (Told goal lines line next) = Holds e.store goal × (next ≤ length e.frames.items)
IsBackIn e (Found list found next) =
    Holds e.store list × ((next ≤ length e.frames.items) × (IsCollectionIn e.store found × Rise zero found.copies.items e.next_variable))

-- What is to be tried was the newest choice point.
abbrev pub IsTaken : Search → Search → Back → Type 0
IsTaken e d Exhausted = Unit {0}
IsTaken e d (Run list) = Unit {0}
IsTaken e d Fail = Unit {0}
IsTaken e d (Retry p goal generation place next) =
    (v : View)
    → choices_of v e
    ≡ clauses (purpose_of p) (reads v d.store goal) (v.left (listed_goal (purpose_of p) (reads v d.store goal)) generation place) (node_of v d next)
    ∷ choices_of v d
IsTaken e d (Answers goal line next) =
    (v : View) → choices_of v e ≡ answers_from (reads v d.store goal) line (node_of v d next) ∷ choices_of v d
IsTaken e d (Told goal lines line next) =
    (v : View) → choices_of v e ≡ told_from v.names (reads v d.store goal) lines.items line (node_of v d next) ∷ choices_of v d
IsTaken e d (Found list found next) = Unit {0}
