-- No text of a directive waits for its report where a script stands, and the names that it tells are those of its goal.
use Rattle.std.specs.Prelude.{◌≡◌, ℕ, ◌+◌, ◌^◌, List, [], ◌∷◌, Bool, true, false, Result, Ok, Err, nat_lt, if◌then◌else◌}
use Rattle.std.proofs.Common.{ap, refl}
use Rattle.pl_term.specs.Tree.{Tree}
use Rattle.pl_model.specs.History.{Proc}
use Rattle.pl_model.specs.Predicates.{proc_of}
use Rattle.pl_model.specs.BodyChecks.{body_of}
use Rattle.pl_term.specs.Cells.{cells}
use Rattle.pl_model.specs.Resolution.{Ending, Limits, State, Node, goal}
use Rattle.pl_model.specs.Control.{start, start_state, start_node, consult_proc, checked, taking, run_on, before}
use Rattle.run_model.specs.Execution.{Job, directive_limits, over, texts_of}
use Rattle.pl_consult.specs.declared.consult.Place.{Place}
use Rattle.pl_consult.specs.declared.consult.Place.TheVariants.{Item, Initialization}
use Rattle.script_api.specs.Scripts.{AreNames, texts_at}
use Rattle.pl_consult.specs.declared.stage.Stage.{Stage}
use Rattle.pl_consult.specs.declared.stage.Stage.TheVariants.{Items, Clause, Directive, AtDirective, Report, Words, Starts, Goal, AtGoal, Over, Lost}
use Rattle.word_board.specs.declared.word.GoalWord.{GoalWord}
use Rattle.word_board.specs.declared.word.GoalWord.TheVariants.{Goal as Asks, Faulty}
use Rattle.pl_consult.specs.Steps.{activity_in}
use Rattle.pl_consult.specs.GoalWords.{names_by, words_of}

-- A search has written nothing before its first step.
either_output : (b : Bool) (r s : State) → r.output ≡ [] → s.output ≡ [] → (if b then r else s).output ≡ []
either_output true r s is also = is
either_output false r s is also = also

checked_output : (s : State) (n : Node) (p : Proc) (r : Result Tree Tree) (next : Tree → State)
    → s.output ≡ []
    → ((t : Tree) → (next t).output ≡ [])
    → (checked s n p r next).output ≡ []
checked_output s n p (Ok t) next is made = made t
checked_output s n p (Err e) next is made = is

taking_output : (l : Limits) (s : State) (n : Node) (p : Proc) (new need : ℕ) (next : State → Node → State)
    → s.output ≡ []
    → ((r : State) (m : Node) → r.output ≡ [] → (next r m).output ≡ [])
    → (taking l s n p new need next).output ≡ []
taking_output l s n p new need next is made =
    either_output (nat_lt (s.next + new) (2 ^ 64)) _ _
    (either_output _ _ _ (made (record s { next = s.next + new }) (record n { used = n.used + need }) is) is)
    is

pub start_output : (l : Limits) (t : Tree) → (start l t).output ≡ []
unfolding start
start_output l t =
    checked_output (start_state t) (start_node t) consult_proc (body_of t)
    (λ body. taking l (start_state t) (start_node t) (proc_of t) 0 (cells t) (λ s n. run_on s (before (goal body 0 ∷ []) n))) refl
    (λ body. taking_output l (start_state t) (start_node t) (proc_of t) 0 (cells t) (λ s n. run_on s (before (goal body 0 ∷ []) n)) refl (λ r m is. is))

pub texts_none : (job : Job) (p : Place) (stage : Stage) → texts_at (activity_in job p stage) ≡ []
texts_none job (Item next) Items = refl
texts_none job Initialization Items = refl
texts_none job p (Clause c place ops) = refl
texts_none job p (Directive g place) = ap texts_of (start_output (directive_limits job) g)
texts_none job p (AtDirective place) = refl
texts_none job p (Report place how) = refl
texts_none job p Words = refl
texts_none job p (Starts ops first goals at) = refl
texts_none job p (Goal g) = refl
texts_none job p AtGoal = refl
texts_none job p Over = refl
texts_none job p Lost = refl

-- A script stands at no end.
pub running_told : (job : Job) (p : Place) (stage : Stage) (ending : Ending) → activity_in job p stage ≡ over ending → ⊥
running_told job (Item next) Items ending is = absurd (cc)
running_told job Initialization Items ending is = absurd (cc)
running_told job p (Clause c place ops) ending is = absurd (cc)
running_told job p (Directive g place) ending is = absurd (cc)
running_told job p (AtDirective place) ending is = absurd (cc)
running_told job p (Report place how) ending is = absurd (cc)
running_told job p Words ending is = absurd (cc)
running_told job p (Starts ops first goals at) ending is = absurd (cc)
running_told job p (Goal g) ending is = absurd (cc)
running_told job p AtGoal ending is = absurd (cc)
running_told job p Over ending is = absurd (cc)
running_told job p Lost ending is = absurd (cc)

-- The names that are told are those of the variables of the goal.
pub names_told : (read : List GoalWord) → AreNames (names_by read) (words_of read)
names_told [] = refl
names_told (Asks t names ∷ ws) = refl
names_told (Faulty f ∷ ws) = refl
