-- What a step leads to.
use Rattle.std.proofs.Common.{◌≡◌, ℕ, ◌≤◌, ◌<◌, ◌∷◌, List, length, Bool, true, false, if◌then◌else◌, nat_le, refl, sym, ap, ap₂, ◌∙◌}
use Rattle.pl_model.specs.History.{Proc}
use Rattle.pl_model.specs.Predicates.{proc_of}
use Rattle.pl_model.specs.Resolution.{Choice, Node, Pending, running, failing, throwing, Output, State, Next, goes, solution_count, up_to}
use Rattle.pl_model.specs.Resolution as resolution
use Rattle.pl_model.specs.Control.{Construct, construct, do_first, failed, step, step_by, take_up}
use Rattle.term_store.specs.declared.words.Place.{Place}
use Rattle.iso_search.specs.declared.frames.Task.TheVariants.{Goal, Commit, Refute, Leave}
use Rattle.iso_search.specs.declared.outcome.Outcome.{Outcome}
use Rattle.iso_search.specs.declared.outcome.Outcome.TheVariants.{Run, Fail, Raise, Throw, Erase, Halt}
use Rattle.iso_search.specs.declared.search.Search.{Search}
use Rattle.iso_search.specs.Frames.{tasks}
use Rattle.iso_search.specs.Outcomes.{IsOutcomeIn, Setting, doing_by, limits_in, result_in, state_in}
use Rattle.iso_search.specs.Reading.{reads}
use Rattle.iso_search.specs.Searching.{choices_of, node_of, state_of}
use Rattle.iso_search.proofs.Charging.{is_at_most, not_at_most}
use Rattle.iso_engine.specs.declared.doing.Doing.{Doing}
use Rattle.iso_engine.specs.declared.doing.Doing.TheVariants.{Running, Failing, Throwing, Answering, Ended}
use Rattle.iso_engine.specs.declared.doing.End.TheVariants.{Solved}
use Rattle.iso_engine.specs.Following.{IsPlaced}
use Rattle.iso_engine.specs.Standing.{doing_of, state_at}
use Rattle.iso_engine.proofs.Tasking.{step_running}

-- What is placed after an outcome
pub placed : (e f : Search) (o : Outcome) → IsOutcomeIn e f o → IsPlaced f.store o
placed e f (Run list) h = tt
placed e f Fail h = tt
placed e f (Raise x) h = h.0
placed e f (Throw w) h = h.0
placed e f (Erase place list) h = tt
placed e f (Halt k) h = tt

pub doing_same : (t : Setting) (e f : Search) (p q : Proc) (rest : ℕ) (o : Outcome) → rest ≤ length e.frames.items → IsOutcomeIn e f o → p ≡ q
    → doing_by t f (node_of t.view f rest) p o ≡ doing_by t f (node_of t.view e rest) q o
doing_same t e f p q rest (Run list) le h same = refl
doing_same t e f p q rest Fail le h same = refl
doing_same t e f p q rest (Raise x) le h same = ap₂ (λ r gs. throwing (Rattle.pl_model.specs.Balls.error_ball (Rattle.iso_search.specs.Outcomes.fault_term (reads t.view f.store) x) r) gs) same (h.1 t.view rest le)
doing_same t e f p q rest (Throw w) le h same = ap (throwing (reads t.view f.store w)) (h.1 t.view rest le)
doing_same t e f p q rest (Erase place list) le h same = refl
doing_same t e f p q rest (Halt k) le h same = refl

-- A goal was taken up.
module _ (t : Setting) (e f : Search) (list rest cut : ℕ) (g : Place) (o : Outcome) (d : Doing) where
  abbrev pub run_setting : Setting
  run_setting = record t { doing = running (node_of t.view e list) }

  abbrev pub goal_at : Rattle.pl_term.specs.Tree.Tree
  goal_at = reads t.view e.store g

  pub goal_done : (p : Proc)
      → tasks e.frames.items list ≡ Goal g cut ∷ tasks e.frames.items rest
      → rest ≤ length e.frames.items
      → IsOutcomeIn e f o
      → proc_of goal_at ≡ p
      → goes (result_in run_setting f (node_of t.view e rest) (proc_of goal_at) o)
      ≡ take_up (limits_in run_setting e) (state_in run_setting e) (node_of t.view e rest) goal_at cut (construct goal_at)
      → doing_of t.view f d ≡ doing_by run_setting f (node_of t.view f rest) p o
      → step (limits_in t e) (state_at t.view e (Running list) t.output) ≡ goes (state_at t.view f d t.output)
  goal_done p is le inside same taken doing =
      step_running t e list (Goal g cut) rest is
      ∙ sym taken
      ∙ ap (λ x. goes (state_of t.view f x t.output)) (sym (doing ∙ doing_same run_setting e f p (proc_of goal_at) rest o le inside (sym same)))

-- An exit was passed.
module _ (t : Setting) (e f : Search) (list next height : ℕ) (kept : (let x : Search = record e { store = record e.store { budget = f.store.budget }; choices = f.choices } in f ≡ x)) (cut : choices_of t.view f ≡ up_to height (choices_of t.view e)) where
  abbrev choices_off : Search → Search
  choices_off x = record x { store = record x.store { budget = e.store.budget }; choices = e.choices }

  abbrev with_doing : List Choice → ℕ → ℕ → resolution.Doing → State
  with_doing cs n i d = let s : State = record { doing = d; choices = cs; next = n; inferences = i; output = t.output } in s

  off_same : choices_off f ≡ e
  off_same = ap choices_off kept

  state_same : (d : Search → resolution.Doing) → ((x : Search) → d x ≡ d (choices_off x)) → with_doing (up_to height (choices_of t.view e)) e.next_variable e.inferences (d e) ≡ state_of t.view f (d f) t.output
  state_same d alike =
      ap₂ (λ cs (x : Search). with_doing cs x.next_variable x.inferences (d x)) (sym cut) (sym off_same) ∙ ap (with_doing (choices_of t.view f) f.next_variable f.inferences) (sym (alike f))

  pub commit_done : tasks e.frames.items list ≡ Commit height ∷ tasks e.frames.items next
      → step (limits_in t e) (state_at t.view e (Running list) t.output) ≡ goes (state_at t.view f (Running next) t.output)
  commit_done is = step_running t e list (Commit height) next is ∙ ap goes (state_same (λ x. running (node_of t.view x next)) (λ x. refl))

  pub refute_done : tasks e.frames.items list ≡ Refute height ∷ tasks e.frames.items next
      → step (limits_in t e) (state_at t.view e (Running list) t.output) ≡ goes (state_at t.view f Failing t.output)
  refute_done is = step_running t e list (Refute height) next is ∙ ap goes (state_same (λ x. failing) (λ x. refl))

pub leave_done : (t : Setting) (e : Search) (list next height : ℕ) → tasks e.frames.items list ≡ Leave height ∷ tasks e.frames.items next
    → step (limits_in t e) (state_at t.view e (Running list) t.output) ≡ goes (state_at t.view e (Running next) t.output)
leave_done t e list next height is = step_running t e list (Leave height) next is

-- After a solution
module _ (t : Setting) (e : Search) (wanted given : ℕ) (wants : t.solutions ≡ wanted) (gave : solution_count t.output ≡ given) where
  chosen : (b : Bool) → nat_le wanted given ≡ b
      → step (limits_in t e) (state_at t.view e Answering t.output)
      ≡ goes (if b then state_at t.view e (Ended Solved) t.output else state_at t.view e Failing t.output)
  unfolding step
  chosen b is =
      ap (λ c. goes (if c then state_at t.view e (Ended Solved) t.output else state_at t.view e Failing t.output)) (ap₂ nat_le wants gave ∙ is)

  pub enough : wanted ≤ given → step (limits_in t e) (state_at t.view e Answering t.output) ≡ goes (state_at t.view e (Ended Solved) t.output)
  enough le = chosen true (is_at_most wanted given le)

  pub not_enough : given < wanted → step (limits_in t e) (state_at t.view e Answering t.output) ≡ goes (state_at t.view e Failing t.output)
  not_enough lt = chosen false (not_at_most wanted given lt)

-- A failure
pub fails_to : (t : Setting) (e : Search) (r : State) → t.doing ≡ failing
    → r ≡ Rattle.pl_model.specs.Control.gone_back (limits_in t e) (state_in t e) (choices_of t.view e)
    → step (limits_in t e) (state_in t e) ≡ goes r
unfolding step
fails_to t e r fails is = ap (step_by (limits_in t e) (state_in t e)) fails ∙ ap goes (sym is)

-- A ball
pub thrown_to : (t : Setting) (e : Search) (ball : Rattle.pl_term.specs.Tree.Tree) (outer : ℕ) (r : State)
    → r ≡ Rattle.pl_model.specs.Control.thrown (limits_in t e) (state_at t.view e (Throwing ball outer) t.output) (Rattle.iso_search.specs.Spelling.spelled (Rattle.iso_search.specs.Spelling.text_of t.view.names) ball) (node_of t.view e outer).goals
    → step (limits_in t e) (state_at t.view e (Throwing ball outer) t.output) ≡ goes r
unfolding step
thrown_to t e ball outer r is = ap goes (sym is)
