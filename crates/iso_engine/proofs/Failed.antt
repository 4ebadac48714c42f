-- A step after a failure.
use Rattle.std.proofs.Common.{◌≡◌, ℕ, [], Option, Some, None, IfOk, Result, Ok, Err, inl, refl, sym, ap, subst, ◌∙◌}
use Rattle.std.specs.Prelude.{OnOk}
use Rattle.pl_term.specs.declared.memory.Memory.{Memory as NoMemory}
use Rattle.pl_model.specs.Resolution.{failing, goes}
use Rattle.pl_model.specs.Control.{gone_back}
use Rattle.atom_api.specs.Names.{Names}
use Rattle.world_api.specs.Texts.{Holds}
use Rattle.world_api.specs.Told.{Told}
use Rattle.iso_search.specs.Reading.{IsView, View}
use Rattle.iso_search.specs.Searching.{IsWhole, choices_of}
use Rattle.iso_search.specs.declared.failure.Back.{Back}
use Rattle.iso_search.specs.declared.failure.Back.TheVariants.{Answers as AnswersBack, Exhausted, Fail, Found as FoundBack, Retry as RetryBack, Run, Told as ToldBack}
use Rattle.iso_search.specs.declared.search.Search.{Search}
use Rattle.iso_search.specs.Failures.{IsTaken, back_result}
use Rattle.iso_search.specs.Outcomes.{Setting, limits_in, state_in}
use Rattle.iso_engine.specs.declared.doing.Doing.{Doing}
use Rattle.iso_engine.specs.declared.doing.Doing.TheVariants.{Failing}
use Rattle.iso_engine.specs.declared.engine.Engine.{Engine}
use Rattle.iso_engine.specs.declared.quick.Quick.{Quick}
use Rattle.iso_engine.specs.declared.quick.Quick.TheVariants.{Went, Missed, Other}
use Rattle.iso_engine.specs.declared.slices.Slice.{Slice}
use Rattle.iso_engine.specs.declared.slices.Slice.TheVariants.{Yield, Solution, NeedsAtoms, Retry, Worn, Waits, Ended, Memory}
use Rattle.iso_engine.specs.Advancing.{Advances}
use Rattle.iso_engine.specs.Views.{view_of}
use Rattle.iso_engine.specs.Quick.{IsGoneAtOnce, IsQuick}
use Rattle.iso_engine.specs.Slices.{IsStepped}
use Rattle.iso_engine.specs.Spending.{IsSpent}
use Rattle.iso_engine.specs.Failing.{FailsTo, StandsForBack}
use Rattle.iso_engine.specs.Ready.{IsReady, Steps, StepsFrom}
use Rattle.iso_engine.specs.Standing.{state_at, aims_of}
use Rattle.iso_engine.specs.Retrying.{IsGoneOn, IsPutBack, IsTried}
use Rattle.iso_engine.proofs.Alike.{visits_same}
use Rattle.iso_engine.proofs.Followed.{fails_to}
use Rattle.iso_engine.proofs.Later.{held_later}
use Rattle.iso_engine.proofs.Moving.{seen_moved}
use Rattle.iso_engine.proofs.Stability.{advance_same, advance_step, advance_then, ready_later, restored_advances, restored_ready, step_ready}

pub failed_steps : (wanted given : ℕ) (e f : Search) (now d : Doing) (b : Back) → now ≡ Failing → FailsTo e f b → ((x : Search) → StandsForBack x b d)
    → Steps wanted given e now f d
failed_steps wanted given e f now d b same fails stands =
    subst (λ (y : Doing). Steps wanted given e y f d) (sym same)
    (λ t view wants gave. let r : Setting = record t { doing = failing } in fails r refl ∙ ap goes (stands f r))

-- The end of a findall/3.
pub found_steps : (wanted given : ℕ) (e x f : Search) (now d : Doing) (b : Back) → now ≡ Failing → FailsTo e x b
    → ((t : Setting) → IsView t.view → back_result t x b ≡ state_at t.view f d t.output)
    → Steps wanted given e now f d
found_steps wanted given e x f now d b same fails stands =
    subst (λ (y : Doing). Steps wanted given e y f d) (sym same)
    (λ t view wants gave. let r : Setting = record t { doing = failing } in fails r refl ∙ ap goes (stands r view))

-- It has a choice point that can be put back.
abbrev pub CanBePutBack : Back → Type 0
CanBePutBack (RetryBack q goal g place next) = Unit {0}
CanBePutBack (ToldBack goal lines line next) = Unit {0}
CanBePutBack (AnswersBack goal line next) = Unit {0}
CanBePutBack _ = ⊥

choices_again : (e x f : Search) (b : Back) → CanBePutBack b → IsTaken e x b → IsTaken f x b → (v : View) → choices_of v f ≡ choices_of v e
choices_again e x f Exhausted can taken again v = absurd can
choices_again e x f (Run list) can taken again v = absurd can
choices_again e x f Fail can taken again v = absurd can
choices_again e x f (RetryBack q goal g place next) can taken again v = again v ∙ sym (taken v)
choices_again e x f (AnswersBack goal line next) can taken again v = again v ∙ sym (taken v)
choices_again e x f (ToldBack goal lines line next) can taken again v = again v ∙ sym (taken v)
choices_again e x f (FoundBack list found next) can taken again v = absurd can

-- The newest choice point was one of clauses, or of lines of a table, which was taken off the engine's search.
module _ (m n : Names) (t u : Told) (e : Engine) (x : Search) (f : Engine) (b : Back) (can : CanBePutBack b) (holds : Holds m n) (view : IsView (view_of n u)) (ready : IsReady m t e)
    (fails : e.doing ≡ Failing) (kept : (let y : Search = record e.search { store = x.store; frames = x.frames; choices = x.choices } in x ≡ y)) (whole : IsWhole f.search) where
  abbrev taken_off : Engine
  taken_off = record e { search = x }

  abbrev IsStep : Option Slice → Type 0
  IsStep o = IsStepped m t e o n u f [] × IsReady n u f × IsSpent e.search.inferences f.search.inferences × (f.solutions_found ≡ e.solutions_found)

  budgets_same : x.budgets ≡ e.search.budgets
  budgets_same = ap (λ (s : Search). s.budgets) kept

  abbrev GoesBack : Type 0
  GoesBack = (r : Setting) → r.doing ≡ failing → back_result r x b ≡ gone_back (limits_in r e.search) (state_in r e.search) (choices_of r.view e.search)

  -- The next one was tried.
  tried_step : IsTried t taken_off b n u f → GoesBack → IsStep None
  tried_step tried step =
      let given : f.solutions_found ≡ e.solutions_found = ap (λ (y : Engine). y.solutions_found) tried.rest
      in let steps : StepsFrom n u e.solution_limit e.solutions_found e.search e.doing f.search f.doing =
      subst (λ (y : Doing). StepsFrom n u e.solution_limit e.solutions_found e.search y f.search f.doing) (sym fails)
      (λ r other alike wants gave.
      let s : Setting = record r { doing = failing }
      in fails_to s e.search (back_result s x b) refl (step s refl) ∙ ap goes (tried.stands s other alike))
      in let moved = seen_moved m n t u e f holds view ready tried.before tried.follows tried.told steps (tried.budgets ∙ budgets_same)
      (ap aims_of tried.rest) given whole
      in (moved.0, moved.1, moved.2, given)

  -- The choice point is there again.
  back_again : IsPutBack t taken_off b u f → IsTaken e.search x b → Advances 0 m t e n u f [] × IsReady n u f × IsSpent e.search.inferences f.search.inferences × (f.solutions_found ≡ e.solutions_found)
  back_again put taken =
      let choices : (v : View) → choices_of v f.search ≡ choices_of v e.search = choices_again e.search x f.search b can taken put.taken
      in let after = ap (λ (y : Search). y.next_variable) put.search ∙ ap (λ (y : Search). y.next_variable) kept
      in let count = ap (λ (y : Search). y.inferences) put.search ∙ ap (λ (y : Search). y.inferences) kept
      in let budgets = ap (λ (y : Search). y.budgets) put.search ∙ budgets_same
      in let doing : f.doing ≡ Failing = ap (λ (y : Engine). y.doing) put.rest ∙ fails
      in let given : f.solutions_found ≡ e.solutions_found = ap (λ (y : Engine). y.solutions_found) put.rest
      in let same : IsView (view_of n t) = subst (λ (w : Told). IsView (view_of n w)) put.told view
      in let here : IsReady n t e = ready_later m n t t e same (held_later m n t holds) (visits_same t t refl) ready
      in let walk : Advances 0 m t e n t f [] =
      advance_then 0 0 m n n t t t e e f [] [] (advance_same m n t t e ready.stable same refl holds)
      (restored_advances e f choices after count fails doing n t budgets (ap aims_of put.rest) given)
      in let ready_now : IsReady n t f = restored_ready e f choices after count fails doing n t whole here
      in (
        subst (λ (w : Told). Advances 0 m t e n w f []) (sym put.told) walk,
        subst (λ (w : Told). IsReady n w f) (sym put.told) ready_now,
        inl count,
        given,
      )

  pub retried_step : (o : Option Slice) → IsGoneOn t taken_off b n u f o → IsTaken e.search x b → GoesBack → IsStep o
  retried_step None gone taken step = tried_step gone step
  retried_step (Some (NeedsAtoms p)) gone taken step = let k = back_again gone.1 taken in ((refl, tt, k.0), k.1, k.2, k.3)
  retried_step (Some (Retry c)) gone taken step = let k = back_again gone.1 taken in ((refl, tt, k.0), k.1, k.2, k.3)
  retried_step (Some (Worn w)) gone taken step = let k = back_again gone.1 taken in ((refl, tt, k.0), k.1, k.2, k.3)
  retried_step (Some Yield) gone taken step = absurd gone.0
  retried_step (Some (Solution ops)) gone taken step = absurd gone.0
  retried_step (Some (Waits on k)) gone taken step = absurd gone.0
  retried_step (Some Ended) gone taken step = absurd gone.0
  retried_step (Some Memory) gone taken step = absurd gone.0

  pub retried_quick : (q : Quick) → IsGoneAtOnce t taken_off b n u f q → IsTaken e.search x b → GoesBack
      → IsQuick m t e n u f q × IsReady n u f × IsSpent e.search.inferences f.search.inferences × (f.solutions_found ≡ e.solutions_found)
  retried_quick Went gone taken step = tried_step gone step
  retried_quick Missed gone taken step =
      let k = back_again gone taken
      in ((k.0, ap (λ (y : Search). y.inferences) gone.search ∙ ap (λ (y : Search). y.inferences) kept), k.1, k.2, k.3)
  retried_quick Other gone taken step =
      let k = back_again gone taken
      in ((k.0, ap (λ (y : Search). y.inferences) gone.search ∙ ap (λ (y : Search). y.inferences) kept), k.1, k.2, k.3)

-- A step was made, or none.
abbrev pub IsStepAfter : Names → Told → Engine → Names → Told → Engine → Option Slice → Type 0
IsStepAfter m t e n u f o =
    IsStepped m t e o n u f [] × IsReady n u f × IsSpent e.search.inferences f.search.inferences × (f.solutions_found ≡ e.solutions_found)

-- By the answer.
pub retried_end : (m n : Names) (t u : Told) (e : Engine) (x : Search) (f : Engine) (b : Back) (can : CanBePutBack b) (holds : Holds m n) (view : IsView (view_of n u)) (ready : IsReady m t e)
    (fails : e.doing ≡ Failing) (kept : (let y : Search = record e.search { store = x.store; frames = x.frames; choices = x.choices } in x ≡ y))
    (r : Result (Option Slice) NoMemory)
    → OnOk r (IsWhole f.search)
    → (let y : Engine = record e { search = x } in IfOk r (IsGoneOn t y b n u f))
    → IsTaken e.search x b
    → ((q : Setting) → q.doing ≡ failing → back_result q x b ≡ gone_back (limits_in q e.search) (state_in q e.search) (choices_of q.view e.search))
    → IfOk r (IsStepAfter m t e n u f)
retried_end m n t u e x f b can holds view ready fails kept (Ok o) whole gone taken step =
    retried_step m n t u e x f b can holds view ready fails kept whole o gone taken step
retried_end m n t u e x f b can holds view ready fails kept (Err d) whole gone taken step = tt

-- The same of a step that is made at once.
abbrev pub IsQuickAfter : Names → Told → Engine → Names → Told → Engine → Quick → Type 0
IsQuickAfter m t e n u f q = IsQuick m t e n u f q × IsReady n u f × IsSpent e.search.inferences f.search.inferences × (f.solutions_found ≡ e.solutions_found)

pub quick_end : (m n : Names) (t u : Told) (e : Engine) (x : Search) (f : Engine) (b : Back) (can : CanBePutBack b) (holds : Holds m n) (view : IsView (view_of n u)) (ready : IsReady m t e)
    (fails : e.doing ≡ Failing) (kept : (let y : Search = record e.search { store = x.store; frames = x.frames; choices = x.choices } in x ≡ y))
    (r : Result Quick NoMemory)
    → OnOk r (IsWhole f.search)
    → (let y : Engine = record e { search = x } in IfOk r (IsGoneAtOnce t y b n u f))
    → IsTaken e.search x b
    → ((q : Setting) → q.doing ≡ failing → back_result q x b ≡ gone_back (limits_in q e.search) (state_in q e.search) (choices_of q.view e.search))
    → IfOk r (IsQuickAfter m t e n u f)
quick_end m n t u e x f b can holds view ready fails kept (Ok q) whole gone taken step =
    retried_quick m n t u e x f b can holds view ready fails kept whole q gone taken step
quick_end m n t u e x f b can holds view ready fails kept (Err d) whole gone taken step = tt

-- It goes on by itself.
pub failed_after : (m : Names) (t : Told) (e : Engine) (x : Search) (d : Doing) (b : Back) → IsView (view_of m t) → IsReady m t e → e.doing ≡ Failing
    → x.budgets ≡ e.search.budgets
    → IsWhole x
    → ((q : Setting) → q.doing ≡ failing → back_result q x b ≡ gone_back (limits_in q e.search) (state_in q e.search) (choices_of q.view e.search))
    → ((y : Search) → StandsForBack y b d)
    → (let f : Engine = record e { search = x; doing = d } in IsStepped m t e None m t f [] × IsReady m t f)
failed_after m t e x d b view ready fails budgets whole step stands =
    let f : Engine = record e { search = x; doing = d }
    in let steps : Steps e.solution_limit e.solutions_found e.search e.doing x d =
    failed_steps e.solution_limit e.solutions_found e.search x e.doing d b fails (λ r q. fails_to r e.search (back_result r x b) q (step r q)) stands
    in (advance_step m t e f steps budgets refl refl view, step_ready m t e f steps whole view ready)
