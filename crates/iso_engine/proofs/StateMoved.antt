-- What an engine comes to by a goal of a predicate of the shared state.
use Rattle.std.proofs.Common.{◌≡◌, ◌⊎◌, ℕ, ◌<◌, ◌≤◌, ◌^◌, true, List, [], ◌∷◌, length, Option, Some, IsSome, inl, inr, refl, sym, ap, ap₂, subst, ◌∙◌, append-nil}
use Rattle.std.specs.List.{All}
use Rattle.std.proofs.lemmas.List.Elements.{All-tail}
use Rattle.std.specs.Str.{all_scalars}
use Rattle.pl_term.specs.Texts.{size}
use Rattle.pl_term.specs.Tree.{Chars, Tree}
use Rattle.pl_model.specs.Balls.{error_ball}
use Rattle.pl_model.specs.Control.{step}
use Rattle.pl_model.specs.Predicates.{proc_of}
use Rattle.pl_model.specs.Resolution.{Pending, State, running, throwing}
use Rattle.pl_model.specs.Service.{served_now, waits}
use Rattle.atom_api.specs.Names.{FixedStand, Names}
use Rattle.term_store.specs.Contents.{term_at}
use Rattle.term_store.specs.Heap.{atom_name}
use Rattle.term_store.specs.NumberedNames.{atoms_in, names_of, neck, term_by}
use Rattle.world_api.specs.declared.answer.On.{On}
use Rattle.world_api.specs.declared.visit.Procedure.{Procedure}
use Rattle.world_api.specs.Gains.{Gains}
use Rattle.world_api.specs.Texts as worlds
use Rattle.world_api.specs.Texts.{Holds}
use Rattle.world_api.specs.Told.{Told}
use Rattle.world_api.proofs.Gaining.{gains_weaker}
use Rattle.world_builtins.specs.Naming.{IsHeldAt}
use Rattle.iso_search.specs.declared.frames.Task.TheVariants.{Goal}
use Rattle.iso_search.specs.declared.outcome.Outcome.{Outcome}
use Rattle.iso_search.specs.declared.search.Search.{Search}
use Rattle.iso_search.specs.Frames.{tasks}
use Rattle.iso_search.specs.Outcomes.{IsAfter, IsOutcomeIn, Setting, limits_in}
use Rattle.iso_search.specs.Reading.{IsView, View, reads}
use Rattle.iso_search.specs.Searching.{IsWhole, node_of, state_of}
use Rattle.iso_search.specs.Spelling.{spelled, text_of}
use Rattle.shared_builtins.specs.declared.goal.StateGoal.{StateGoal}
use Rattle.iso_engine.specs.declared.doing.Doing.TheVariants.{Running, Throwing}
use Rattle.iso_engine.specs.declared.engine.Engine.{Engine}
use Rattle.iso_engine.specs.declared.slices.Slice.TheVariants.{Waits}
use Rattle.iso_engine.specs.Asked.{AsksFor}
use Rattle.iso_engine.specs.Asking.{IsAsking}
use Rattle.iso_engine.specs.Calling.{IsErrorBall}
use Rattle.iso_engine.specs.Parts.{IsOverAtoms}
use Rattle.iso_engine.specs.Ready.{IsAlike, IsReady, StepsFrom}
use Rattle.iso_engine.specs.Spending.{IsSpent}
use Rattle.iso_engine.specs.Slices.{IsStepped, IsWaitingNow}
use Rattle.iso_engine.specs.Standing.{state_at, staying, aims_of}
use Rattle.iso_engine.specs.State.{IsAlone, IsAnswered, IsHeldUp, IsStateAsked, IsStateAt, refused_led}
use Rattle.iso_engine.specs.Views.{view_of}
use Rattle.iso_engine.specs.Wrote.{led, taken}
use Rattle.iso_engine.proofs.Followed.{doing_same, goal_done, run_setting}
use Rattle.iso_engine.proofs.LaterLists.{same_term}
use Rattle.iso_engine.proofs.Moving.{IsMoved, asked_moved, seen_moved, seen_ready}
use Rattle.iso_engine.proofs.Opening.{goal_held}
use Rattle.iso_engine.proofs.Outputs.{atoms_same}
use Rattle.iso_engine.proofs.Readings.{read_over}
use Rattle.iso_engine.proofs.RowTaken.{IsFollowedAs}
use Rattle.iso_engine.proofs.Stability.{advance_seen}
use Rattle.iso_engine.proofs.StateRows.{state_proc}
use Rattle.iso_engine.proofs.Tasking.{step_running}

abbrev pub procedure_of : StateGoal → Procedure
procedure_of x = record { name = x.name; arity = x.arguments.count }

has_procedure : (e : Search) (x : StateGoal) → IsStateAt e.store x → (v : View) → IsView v
    → proc_of (reads v e.store x.place) ≡ record { name = text_of v.names (atom_name x.name); arity = x.arguments.count }
has_procedure e x at v view = state_proc v e.store x at.goal_is

-- What a step of an engine takes up.
module _ (e : Engine) (x : StateGoal) (list cut rest : ℕ) (running_is : e.doing ≡ Running list)
    (first : tasks e.search.frames.items list ≡ Goal x.place cut ∷ tasks e.search.frames.items rest) where
  abbrev set : Setting → Setting
  set r = record r { doing = running (node_of r.view e.search list) }

  step_is : (r : Setting) → step (limits_in r e.search) (state_at r.view e.search e.doing r.output) ≡ taken (set r) e.search x.place rest cut
  step_is r =
      ap (λ d. step (limits_in r e.search) (state_at r.view e.search d r.output)) running_is ∙ step_running r e.search list (Goal x.place cut) rest first

-- The atoms of the goal are held.
pub goal_names : (m : Names) (t : Told) (e : Engine) (x : StateGoal) (list cut rest : ℕ) → e.doing ≡ Running list
    → tasks e.search.frames.items list ≡ Goal x.place cut ∷ tasks e.search.frames.items rest → IsReady m t e → FixedStand m
    → ((a b : ℕ) (y : Chars) → m a ≡ Some y → m b ≡ Some y → a ≡ b)
    → ((a : ℕ) (y : Chars) → m a ≡ Some y → (a < 2 ^ 32) × (size y ≤ 248) × (all_scalars y ≡ true))
    → IsHeldAt m e.search.store x.place
goal_names m t e x list cut rest doing first ready stands unlike finite =
    subst (All (λ a. IsSome (m a))) (sym (atoms_same (term_at e.search.store x.place)))
    (goal_held m t e list cut x.place rest doing first ready.stable stands unlike finite)

-- What was asked of the atoms.
pub state_asks_for : (m : Names) (t : Told) (e : Engine) (x : StateGoal) (list cut rest : ℕ) → e.doing ≡ Running list
    → tasks e.search.frames.items list ≡ Goal x.place cut ∷ tasks e.search.frames.items rest
    → IsView (view_of m t)
    → (old new : Option (List Chars))
    → Gains (IsStateAsked m t e.search x) old new
    → Gains (AsksFor m t e) old new
state_asks_for m t e x list cut rest running_is first view old new =
    gains_weaker (IsStateAsked m t e.search x) (AsksFor m t e) old new
    (λ c a. inl (record { request = a.request; asking = asking a; before = a.before; follows = a.follows; handed = a.handed }))
  where
    asking : {c : Chars} → (a : IsStateAsked m t e.search x c) → IsAsking m t e a.request
    asking a =
        record {
          follows =
              λ written count.
              (a.asking (set e x list cut rest running_is first (record { view = view_of m t; solutions = e.solution_limit; stays = staying e.stays; doing = Rattle.pl_model.specs.Resolution.failing; output = written })) rest cut view (λ k y h. h)).0;
          asks_is =
              λ written count.
              let r : Setting = record { view = view_of m t; solutions = e.solution_limit; stays = staying e.stays; doing = Rattle.pl_model.specs.Resolution.failing; output = written }
              in step_is e x list cut rest running_is first r ∙ (a.asking (set e x list cut rest running_is first r) rest cut view (λ k y h. h)).1;
        }

module _ (m n : Names) (t u : Told) (e f : Engine) (x : StateGoal) (list cut rest : ℕ) (running_is : e.doing ≡ Running list)
    (first : tasks e.search.frames.items list ≡ Goal x.place cut ∷ tasks e.search.frames.items rest) (le : rest ≤ length e.search.frames.items)
    (at : IsStateAt e.search.store x) (holds : Holds m n) (view : IsView (view_of n u)) (ready : IsReady m t e)
    (wanted : aims_of f ≡ aims_of e) (given : f.solutions_found ≡ e.solutions_found) (whole : IsWhole f.search) where
  abbrev there : Setting → Setting
  there r = set e x list cut rest running_is first r

  -- It asked for nothing.
  alone_moved : (o : Outcome) → u ≡ t → IsAlone n e.search x rest f.search o → IsFollowedAs f rest (procedure_of x) o → IsMoved m n t u e f holds view ready
  alone_moved o told alone follows =
      let steps : StepsFrom n u e.solution_limit e.solutions_found e.search e.doing f.search f.doing =
      λ q viewed alike wants gave.
      let s = run_setting q e.search f.search list rest cut x.place o f.doing
      in ap (λ d. step (limits_in q e.search) (state_at q.view e.search d q.output)) running_is
      ∙ goal_done q e.search f.search list rest cut x.place o f.doing (record { name = text_of q.view.names (atom_name x.name); arity = x.arguments.count }) first le
      alone.after.inside (has_procedure e.search x at q.view viewed) (sym (alone.leads s cut viewed alike.holds)) (follows s viewed)
      in seen_moved m n t u e f holds view ready t.history (record { later = []; grown = sym (append-nil t.history); others = refl }) told steps alone.after.budgets wanted given whole

  led_is : (o : Outcome) → IsFollowedAs f rest (procedure_of x) o → IsOutcomeIn e.search f.search o → (r : Setting) → IsView r.view
      → led (there r) e.search x.place rest f.search o ≡ state_at r.view f.search f.doing r.output
  led_is o follows inside r viewed =
      ap (λ d. state_of r.view f.search d r.output)
      (sym (follows r viewed
      ∙ doing_same r e.search f.search (record { name = text_of r.view.names (atom_name x.name); arity = x.arguments.count }) (proc_of (reads r.view e.search.store x.place)) rest o le inside
      (sym (has_procedure e.search x at r.view viewed))))

  -- Its request was answered.
  answered_moved : (o : Outcome) → IsAnswered t e.search x rest n u (λ s. led s e.search x.place rest f.search o) → IsAfter e.search f.search o
      → IsFollowedAs f rest (procedure_of x) o → IsMoved m n t u e f holds view ready
  answered_moved o a after follows =
      asked_moved m n t u e f holds view ready a.before a.update a.asked a.request a.reply a.served
      (λ r viewed alike wants gave.
      let one = a.asking (there r) cut viewed alike.holds
      in (one.0, step_is e x list cut rest running_is first r ∙ one.1, one.2 ∙ led_is o follows after.inside r viewed))
      after.budgets wanted given whole

  pub ran_moved : (o : Outcome) → ((u ≡ t) × IsAlone n e.search x rest f.search o)
      ⊎ (IsAnswered t e.search x rest n u (λ s. led s e.search x.place rest f.search o) × IsAfter e.search f.search o)
      → IsFollowedAs f rest (procedure_of x) o → IsMoved m n t u e f holds view ready
  ran_moved o (inl h) follows = alone_moved o h.0 h.1 follows
  ran_moved o (inr h) follows = answered_moved o h.0 h.1 follows

  -- It was refused.
  raised_leads : (error ball : Tree) → All (λ a. IsSome (n a)) (names_of error) → IsOverAtoms error → IsErrorBall error (procedure_of x) ball → f.doing ≡ Throwing ball rest
      → f.search ≡ record e.search { inferences = f.search.inferences } → (r : Setting) → IsView r.view → IsAlike n u r.view
      → refused_led (there r) e.search x rest f.search error n ≡ state_at r.view f.search f.doing r.output
  raised_leads error ball named over is throws same r viewed alike =
      let v = r.view
      in let read : term_by (worlds.text_of n) error ≡ spelled (text_of v.names) error =
      sym (same_term n v.names view.fixed viewed.fixed alike.holds error (All-tail (λ a. IsSome (n a)) neck (atoms_in error) named))
      ∙ read_over v.names viewed.fixed error over
      in let thrown : error_ball (term_by (worlds.text_of n) error) (proc_of (reads v e.search.store x.place)) ≡ spelled (text_of v.names) ball =
      ap₂ error_ball read (has_procedure e.search x at v viewed) ∙ sym (is v viewed)
      in let goals : (node_of v e.search rest).goals ≡ (node_of v f.search rest).goals = sym (ap (λ (y : Search). (node_of v y rest).goals) same)
      in ap₂ (λ b ps. state_of v f.search (throwing b ps) r.output) thrown goals
      ∙ ap (λ d. state_at v f.search d r.output) (sym throws)

  pub refused_moved : (error ball : Tree) → IsAnswered t e.search x rest n u (λ s. refused_led s e.search x rest f.search error n) → All (λ a. IsSome (n a)) (names_of error)
      → f.search ≡ record e.search { inferences = f.search.inferences } → IsOverAtoms error → IsErrorBall error (procedure_of x) ball → f.doing ≡ Throwing ball rest
      → IsMoved m n t u e f holds view ready
  refused_moved error ball a named same over is throws =
      asked_moved m n t u e f holds view ready a.before a.update a.asked a.request a.reply a.served
      (λ r viewed alike wants gave.
      let one = a.asking (there r) cut viewed alike.holds
      in (one.0, step_is e x list cut rest running_is first r ∙ one.1, one.2 ∙ raised_leads error ball named over is throws same r viewed alike))
      (ap (λ (y : Search). y.budgets) same) wanted given whole

  -- It waits.
  module _ (on : On) (g : ℕ) (h : IsHeldUp t e.search x rest n u f.search on g) (same : f ≡ e) where
    history_is : u.history ≡ h.before
    history_is = ap (λ (w : Told). w.history) h.told

    asking_here : IsAsking n u e h.request
    asking_here =
        record {
          follows =
              λ written count.
              (h.asking (there (record { view = view_of n u; solutions = e.solution_limit; stays = staying e.stays; doing = Rattle.pl_model.specs.Resolution.failing; output = written })) cut view (λ k y s. s)).0;
          asks_is =
              λ written count.
              let r : Setting = record { view = view_of n u; solutions = e.solution_limit; stays = staying e.stays; doing = Rattle.pl_model.specs.Resolution.failing; output = written }
              in step_is e x list cut rest running_is first r ∙ (h.asking (there r) cut view (λ k y s. s)).1;
        }

    waiting_here : IsWaitingNow n u e on g
    waiting_here =
        record {
          request = h.request;
          asking = asking_here;
          generation = h.generation ∙ sym (ap length history_is);
          waiting = ap (λ (w : Told). served_now w.engine w.goals w.history h.request) h.told ∙ h.waiting;
          awaits = ap (λ (w : Told). Rattle.pl_model.specs.Service.on_of w.engine h.request) h.told ∙ h.awaits;
          held = h.held;
        }

    pub held_up_spent : IsSpent e.search.inferences f.search.inferences
    held_up_spent = inl (ap (λ (y : Engine). y.search.inferences) same)

    pub held_up_ready : IsReady n u f
    held_up_ready = subst (IsReady n u) (sym same) (seen_ready m n t u e f holds view ready h.before h.follows h.told)

    pub held_up_stepped : IsStepped m t e (Some (Waits on g)) n u f []
    held_up_stepped =
        subst (λ (y : Engine). IsStepped m t e (Some (Waits on g)) n u y []) (sym same)
        (refl, waiting_here, advance_seen m n t u e h.before ready.stable view h.follows h.told holds)
