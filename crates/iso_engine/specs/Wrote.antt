-- What a goal that writes leads to.
use Rattle.std.specs.Prelude.{◌≡◌, ◌⊎◌, ℕ, suc, List, [], ◌∷◌, ◌++◌, length, Option, Some, None, encode_utf8_all}
use Rattle.pl_term.specs.Tree.{Chars}
use Rattle.pl_model.specs.declared.grammar.Quotes.{Quotes}
use Rattle.pl_model.specs.OperatorTable.{OperatorTable}
use Rattle.pl_model.specs.History.{History}
use Rattle.pl_model.specs.Predicates.{proc_of}
use Rattle.pl_model.specs.Requests.{Reply, read_operators, standing}
use Rattle.pl_model.specs.Service.{answers, entry_by, served_now}
use Rattle.pl_model.specs.Resolution.{Next, Output, State, asks, goes, text}
use Rattle.pl_model.specs.Control.{construct, take_up}
use Rattle.atom_api.specs.Names.{Names}
use Rattle.term_store.specs.declared.words.Place.{Place}
use Rattle.world_api.specs.Texts.{Holds}
use Rattle.world_api.specs.Told.{Told, Follows}
use Rattle.world_api.specs.Answers.{seen_as}
use Rattle.iso_search.specs.declared.outcome.Fault.TheVariants.{Inferences}
use Rattle.iso_search.specs.declared.outcome.Outcome.{Outcome}
use Rattle.iso_search.specs.declared.outcome.Outcome.TheVariants.{Run, Raise}
use Rattle.iso_search.specs.declared.search.Search.{Search}
use Rattle.iso_search.specs.Outcomes.{IsAfter, Setting, limits_in, result_in, state_in}
use Rattle.iso_search.specs.Reading.{IsView, reads}
use Rattle.iso_search.specs.Searching.{node_of}
use Rattle.iso_engine.specs.declared.write.goals.OutputGoal.{OutputGoal}
use Rattle.iso_engine.specs.OutputGoals.{IsGoalOf, IsNoOutput}
use Rattle.iso_engine.specs.declared.write.wrote.Wrote.{Wrote}
use Rattle.iso_engine.specs.declared.write.wrote.Wrote.TheVariants.{Spent, Ran}

-- The step of the definition that takes up the goal at a place, before the tasks of a list; a cut in it goes back to the
-- height `h`.
abbrev pub taken : Setting → Search → Place → ℕ → ℕ → Next
taken s e goal rest h =
    take_up (limits_in s e) (state_in s e) (node_of s.view e rest) (reads s.view e.store goal) h (construct (reads s.view e.store goal))

-- What the step adds to the output of the state, if it writes.
abbrev pub added : Option Chars → List Output
added None = []
added (Some w) = text w ∷ []

abbrev pub bytes_of : Option Chars → List ℕ
bytes_of None = []
bytes_of (Some w) = encode_utf8_all w

-- With that after the output.
abbrev pub with_added : Setting → Option Chars → Setting
with_added s w = record s { output = s.output ++ added w }

-- Where the search is then, after the outcome `o` of the goal.
abbrev pub led : Setting → Search → Place → ℕ → Search → Outcome → State
led s e goal rest d o = result_in s d (node_of s.view e rest) (proc_of (reads s.view e.store goal)) o

-- By every view in which the engine's atoms have their texts, the step leads to the state with what was written after its
-- output, and its bytes were put after the others.
pub record IsDone (m : Names) (e : Search) (goal : Place) (rest : ℕ) (a : List ℕ) (d : Search) (b : List ℕ) (o : Outcome) : Type 0 where
  pub more : Option Chars
  pub leads : (s : Setting) (h : ℕ) → IsView s.view → Holds m s.view.names → taken s e goal rest h ≡ goes (led (with_added s more) e goal rest d o)
  pub after : IsAfter e d o
  pub out : b ≡ a ++ bytes_of more

-- The goal asked for nothing.
pub record IsAlone (m : Names) (t : Told) (e : Search) (goal : Place) (rest : ℕ) (a : List ℕ) (n : Names) (u : Told) (d : Search) (b : List ℕ) (o : Outcome) : Type 0 where
  pub names : (k : ℕ) → n k ≡ m k
  pub told : u ≡ t
  pub done : IsDone m e goal rest a d b o

-- The goal asked for the operators, which were read after all entries `before`. By every view the step asks that, and by
-- every view in which the engine's atoms have their texts, the reply leads to the state with the text after its output, whose
-- bytes were put after the others.
pub record IsUnderOperators (m : Names) (t : Told) (e : Search) (goal : Place) (rest : ℕ) (a : List ℕ) (n : Names) (u : Told) (d : Search) (b : List ℕ) (o : Outcome) : Type 0 where
  pub before : History
  pub follows : Follows t.engine t.history before
  pub operators : OperatorTable
  pub quotes : Quotes
  pub served : served_now t.engine t.goals before read_operators ≡ answers (standing operators quotes) None
  pub told : u ≡ seen_as t (before ++ entry_by t.engine None) (t.gens ++ length before ∷ [])
  pub next : Setting → Reply → State
  pub asking : (s : Setting) (h : ℕ) → IsView s.view → taken s e goal rest h ≡ asks read_operators (next s)
  pub written : Chars
  pub leads : (s : Setting) → IsView s.view → Holds m s.view.names → next s (standing operators quotes) ≡ led (with_added s (Some written)) e goal rest d o
  pub goes_on : o ≡ Run rest
  pub search : d ≡ record e { inferences = suc e.inferences }
  pub out : b ≡ a ++ encode_utf8_all written

abbrev pub IsRun : Names → Told → Search → Place → ℕ → List ℕ → Names → Told → Search → List ℕ → Outcome → Type 0
IsRun m t e goal rest a n u d b o = IsAlone m t e goal rest a n u d b o ⊎ IsUnderOperators m t e goal rest a n u d b o

-- The step raises the error of the budget of inferences.
abbrev pub IsSpent : Search → Place → ℕ → Type 0
IsSpent e goal rest = (s : Setting) (h : ℕ) → IsView s.view → taken s e goal rest h ≡ goes (led s e goal rest e (Raise Inferences))

-- Nothing has changed.
abbrev pub IsUntouched : Names → Told → Search → List ℕ → Names → Told → Search → List ℕ → Type 0
IsUntouched m t e a n u d b = ((k : ℕ) → n k ≡ m k) × (u ≡ t) × (d ≡ e) × (b ≡ a)

-- The same, but that more atoms may be held: the goal is to be taken up again.
abbrev pub IsTakenBack : Told → Search → List ℕ → Told → Search → List ℕ → Type 0
IsTakenBack t e a u d b = (u ≡ t) × (d ≡ e) × (b ≡ a)

-- What was written before is `a`, and `b` after it.
abbrev pub IsWrote : Names → Told → Search → Place → ℕ → List ℕ → Names → Told → Search → List ℕ → Wrote → Type 0
IsWrote m t e goal rest a n u d b Spent = IsUntouched m t e a n u d b × IsSpent e goal rest
IsWrote m t e goal rest a n u d b (Ran o) = IsRun m t e goal rest a n u d b o

-- The same of a goal at any place that is this one, which asks for nothing.
abbrev pub WritesAlone : Names → Search → OutputGoal → ℕ → List ℕ → Search → List ℕ → Wrote → Type 0
WritesAlone m e o rest a d b Spent = (d ≡ e) × (b ≡ a) × ((goal : Place) → IsGoalOf e.store o goal → IsSpent e goal rest)
WritesAlone m e o rest a d b (Ran x) = (goal : Place) → IsGoalOf e.store o goal → IsDone m e goal rest a d b x

-- None where the goal is none that writes.
abbrev pub IsTried : Names → Told → Search → Place → ℕ → List ℕ → Names → Told → Search → List ℕ → Option Wrote → Type 0
IsTried m t e goal rest a n u d b None = IsUntouched m t e a n u d b × IsNoOutput e.store goal
IsTried m t e goal rest a n u d b (Some w) = IsWrote m t e goal rest a n u d b w
