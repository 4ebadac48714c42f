-- Tasks of a list, and the steps that do them.
use Rattle.std.proofs.Common.{◌≡◌, ℕ, zero, suc, ◌<◌, ◌≤◌, ◌⊎◌, inl, inr, List, [], ◌∷◌, length, map, sym, ap, subst, ◌∙◌, arith}
use Rattle.std.specs.List.{All}
use Rattle.std.proofs.lemmas.Bool.Decides.{leb_tells}
use Rattle.pl_model.specs.Control.{do_first, step}
use Rattle.term_store.specs.Contents.{Contents}
use Rattle.iso_search.specs.declared.frames.Task.{Task}
use Rattle.iso_search.specs.declared.frames.Frame.{Frame}
use Rattle.iso_search.specs.declared.search.Search.{Search}
use Rattle.iso_search.specs.Choices.{IsTaskIn}
use Rattle.iso_search.specs.Frames.{AreLinked, tasks}
use Rattle.iso_search.specs.Outcomes.{Setting, limits_in}
use Rattle.iso_search.specs.Reading.{pending, reads}
use Rattle.iso_search.specs.Searching.{node_of}
use Rattle.iso_search.proofs.Stacked.{tasks-at, tasks-past, tasks-zero}
use Rattle.iso_engine.specs.declared.doing.Doing.{Doing}
use Rattle.iso_engine.specs.declared.doing.Doing.TheVariants.{Running}
use Rattle.iso_engine.specs.declared.running.Did.{Did}
use Rattle.iso_engine.specs.declared.running.Did.TheVariants.{Next as NextDid}
use Rattle.iso_engine.specs.Ready.{Steps}
use Rattle.iso_engine.specs.Standing.{state_at}
use Rattle.iso_engine.specs.Tasks.{IsDone}

no_task : (x : Task) (xs : List Task) → (let none : List Task = [] in none ≡ x ∷ xs) → ⊥
no_task x xs e = cc

first_of_two : (x y : Task) (xs ys : List Task) → x ∷ xs ≡ y ∷ ys → x ≡ y
first_of_two x y xs ys e = cc

-- The first task of a list is of the store.
pub task_inside : (s : Contents) (fs : List Frame) → All (λ f. IsTaskIn s f.task) fs → AreLinked fs → (i : ℕ) (x : Task) (xs : List Task) → tasks fs i ≡ x ∷ xs → IsTaskIn s x
task_inside s fs inside linked zero x xs h = absurd (no_task x xs (sym (tasks-zero fs) ∙ h))
task_inside s fs inside linked (suc k) x xs h = go (leb_tells (suc k) (length fs))
  where
    go : {A B : Type 0} → (A × (suc k ≤ length fs)) ⊎ (B × (length fs < suc k)) → IsTaskIn s x
    go (inl (a, le)) = subst (IsTaskIn s) (first_of_two _ _ _ _ (sym (tasks-at fs k linked (omega arith)) ∙ h)) (inside k _ (omega arith))
    go (inr (b, lt)) = absurd (no_task x xs (sym (tasks-past fs (suc k) lt) ∙ h))

-- What a step does where the tasks of a list are to be done.
pub step_running : (t : Setting) (e : Search) (list : ℕ) (x : Task) (next : ℕ) → tasks e.frames.items list ≡ x ∷ tasks e.frames.items next
    → step (limits_in t e) (state_at t.view e (Running list) t.output)
    ≡ do_first (limits_in t e) (state_at t.view e (Running list) t.output) (node_of t.view e list) (pending (reads t.view e.store) x ∷ (node_of t.view e next).goals)
unfolding step
step_running t e list x next is =
    ap (λ ts. do_first (limits_in t e) (state_at t.view e (Running list) t.output) (node_of t.view e list) (map (pending (reads t.view e.store)) ts)) is

-- What a step does where nothing is to be done.
pub step_done : (t : Setting) (e : Search) (list : ℕ) → tasks e.frames.items list ≡ []
    → step (limits_in t e) (state_at t.view e (Running list) t.output)
    ≡ do_first (limits_in t e) (state_at t.view e (Running list) t.output) (node_of t.view e list) []
unfolding step
step_done t e list is =
    ap (λ ts. do_first (limits_in t e) (state_at t.view e (Running list) t.output) (node_of t.view e list) (map (pending (reads t.view e.store)) ts)) is

-- A task is a step of the search that does it.
pub task_steps : (wanted given : ℕ) (e f : Search) (now d : Doing) (list : ℕ) (x : Task) (next : ℕ) (did : Did) → now ≡ Running list
    → tasks e.frames.items list ≡ x ∷ tasks e.frames.items next
    → IsDone e x next f did
    → did ≡ NextDid d
    → Steps wanted given e now f d
task_steps wanted given e f now d list x next did doing is done same =
    let run = subst (IsDone e x next f) same done
    in subst (λ (y : Doing). Steps wanted given e y f d) (sym doing) (λ t view wants gave. run list is t view)
