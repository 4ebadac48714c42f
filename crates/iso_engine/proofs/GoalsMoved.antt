-- What an engine comes to by a goal at a place, which has a predicate.
use Rattle.std.proofs.Common.{◌≡◌, ◌⊎◌, ℕ, ◌<◌, ◌≤◌, ◌^◌, true, [], ◌∷◌, length, List, Option, Some, IsSome, inl, inr, refl, sym, ap, ap₂, subst, ◌∙◌, append-nil}
use Rattle.std.specs.List.{All}
use Rattle.std.proofs.lemmas.List.Elements.{All-tail}
use Rattle.std.specs.Str.{all_scalars}
use Rattle.pl_term.specs.Texts.{size}
use Rattle.pl_term.specs.Tree.{Chars, Tree}
use Rattle.pl_model.specs.Balls.{error_ball}
use Rattle.pl_model.specs.Control.{step}
use Rattle.pl_model.specs.Predicates.{proc_of}
use Rattle.pl_model.specs.Resolution.{running, throwing}
use Rattle.atom_api.specs.Names.{FixedStand, Names}
use Rattle.term_store.specs.Contents.{term_at}
use Rattle.term_store.specs.declared.words.Place.{Place}
use Rattle.term_store.specs.NumberedNames.{atoms_in, names_of, neck, term_by}
use Rattle.world_api.specs.declared.visit.Procedure.{Procedure}
use Rattle.world_api.specs.Gains.{Gains}
use Rattle.world_api.specs.Texts as worlds
use Rattle.world_api.specs.Texts.{Holds}
use Rattle.world_api.specs.Told.{Told}
use Rattle.world_builtins.specs.Naming.{IsHeldAt}
use Rattle.world_api.proofs.Gaining.{gains_weaker}
use Rattle.iso_search.specs.declared.frames.Task.TheVariants.{Goal}
use Rattle.iso_search.specs.declared.outcome.Outcome.{Outcome}
use Rattle.iso_search.specs.Frames.{tasks}
use Rattle.iso_search.specs.Outcomes.{IsAfter, IsOutcomeIn, Setting, limits_in}
use Rattle.iso_search.specs.Reading.{IsView, View, reads}
use Rattle.iso_search.specs.Searching.{IsWhole, node_of, state_of}
use Rattle.iso_search.specs.Spelling.{spelled, text_of}
use Rattle.iso_engine.specs.declared.doing.Doing.TheVariants.{Running, Throwing}
use Rattle.iso_engine.specs.declared.engine.Engine.{Engine}
use Rattle.iso_engine.specs.Calling.{IsErrorBall}
use Rattle.iso_engine.specs.Asked.{AsksFor}
use Rattle.iso_engine.specs.Asking.{IsAsking}
use Rattle.iso_engine.specs.GoalSteps.{IsStepAlone, IsStepAloneAs, IsStepAnswered, IsStepAsked, step_refused}
use Rattle.iso_engine.specs.Following.{HasProcedure, proc_in}
use Rattle.iso_engine.specs.Parts.{IsOverAtoms}
use Rattle.iso_engine.specs.Ready.{IsAlike, IsReady, StepsAs}
use Rattle.iso_engine.specs.Standing.{state_at, staying, aims_of}
use Rattle.iso_engine.specs.Views.{view_of}
use Rattle.iso_engine.specs.Wrote.{led, taken}
use Rattle.iso_engine.proofs.Followed.{doing_same, goal_done, run_setting}
use Rattle.iso_engine.proofs.LaterLists.{same_term}
use Rattle.iso_engine.proofs.Moving.{IsMoved, asked_moved, seen_as_moved}
use Rattle.iso_engine.proofs.Opening.{goal_held}
use Rattle.iso_engine.proofs.Outputs.{atoms_same}
use Rattle.iso_engine.proofs.Readings.{read_over}
use Rattle.iso_engine.proofs.RowTaken.{IsFollowedAs}
use Rattle.iso_engine.proofs.Tasking.{step_running}

-- What a step of an engine takes up.
module _ (e : Engine) (place : Place) (list cut rest : ℕ) (running_is : e.doing ≡ Running list)
    (first : tasks e.search.frames.items list ≡ Goal place cut ∷ tasks e.search.frames.items rest) where
  abbrev pub set : Setting → Setting
  set r = record r { doing = running (node_of r.view e.search list) }

  pub step_is : (r : Setting) → step (limits_in r e.search) (state_at r.view e.search e.doing r.output) ≡ taken (set r) e.search place rest cut
  step_is r =
      ap (λ d. step (limits_in r e.search) (state_at r.view e.search d r.output)) running_is ∙ step_running r e.search list (Goal place cut) rest first

-- The atoms of the goal are held.
pub goal_names : (m : Names) (t : Told) (e : Engine) (place : Place) (list cut rest : ℕ) → e.doing ≡ Running list
    → tasks e.search.frames.items list ≡ Goal place cut ∷ tasks e.search.frames.items rest → IsReady m t e → FixedStand m
    → ((a b : ℕ) (y : Chars) → m a ≡ Some y → m b ≡ Some y → a ≡ b)
    → ((a : ℕ) (y : Chars) → m a ≡ Some y → (a < 2 ^ 32) × (size y ≤ 248) × (all_scalars y ≡ true))
    → IsHeldAt m e.search.store place
goal_names m t e place list cut rest doing first ready stands unlike finite =
    subst (All (λ a. IsSome (m a))) (sym (atoms_same (term_at e.search.store place)))
    (goal_held m t e list cut place rest doing first ready.stable stands unlike finite)

-- What was asked of the atoms.
pub step_asks_for : (m : Names) (t : Told) (e : Engine) (place : Place) (list cut rest : ℕ) → e.doing ≡ Running list
    → tasks e.search.frames.items list ≡ Goal place cut ∷ tasks e.search.frames.items rest
    → IsView (view_of m t)
    → (old new : Option (List Chars))
    → Gains (IsStepAsked m t e.search place) old new
    → Gains (AsksFor m t e) old new
step_asks_for m t e place list cut rest running_is first view old new =
    gains_weaker (IsStepAsked m t e.search place) (AsksFor m t e) old new
    (λ c a. inl (record { request = a.request; asking = asking a; before = a.before; follows = a.follows; handed = a.handed }))
  where
    asking : {c : Chars} → (a : IsStepAsked m t e.search place c) → IsAsking m t e a.request
    asking a =
        record {
          follows =
              λ written count.
              (a.asking (set e place list cut rest running_is first (record { view = view_of m t; solutions = e.solution_limit; stays = staying e.stays; doing = Rattle.pl_model.specs.Resolution.failing; output = written })) rest cut view (λ k y h. h)).0;
          asks_is =
              λ written count.
              let r : Setting = record { view = view_of m t; solutions = e.solution_limit; stays = staying e.stays; doing = Rattle.pl_model.specs.Resolution.failing; output = written }
              in step_is e place list cut rest running_is first r ∙ (a.asking (set e place list cut rest running_is first r) rest cut view (λ k y h. h)).1;
        }

module _ (m n : Names) (t u : Told) (e f : Engine) (place : Place) (p : Procedure) (list cut rest : ℕ) (running_is : e.doing ≡ Running list)
    (first : tasks e.search.frames.items list ≡ Goal place cut ∷ tasks e.search.frames.items rest) (le : rest ≤ length e.search.frames.items)
    (has : HasProcedure e.search.store place p) (holds : Holds m n) (view : IsView (view_of n u)) (ready : IsReady m t e)
    (wanted : aims_of f ≡ aims_of e) (given : f.solutions_found ≡ e.solutions_found) (whole : IsWhole f.search) where
  abbrev there : Setting → Setting
  there r = set e place list cut rest running_is first r

  -- It asked for nothing.
  pub alone_as_moved : (o : Outcome) → u ≡ t → IsStepAloneAs (staying e.stays) n e.search place rest f.search o → IsFollowedAs f rest p o → IsMoved m n t u e f holds view ready
  alone_as_moved o told alone follows =
      let steps : StepsAs (staying e.stays) n u e.solution_limit e.solutions_found e.search e.doing f.search f.doing =
      λ q viewed alike keeps wants gave.
      let s = run_setting q e.search f.search list rest cut place o f.doing
      in ap (λ d. step (limits_in q e.search) (state_at q.view e.search d q.output)) running_is
      ∙ goal_done q e.search f.search list rest cut place o f.doing (proc_in q.view p) first le
      alone.after.inside (has q viewed) (sym (alone.leads s cut viewed alike.holds keeps)) (follows s viewed)
      in seen_as_moved m n t u e f holds view ready t.history (record { later = []; grown = sym (append-nil t.history); others = refl }) told steps alone.after.budgets wanted given whole

  pub alone_moved : (o : Outcome) → u ≡ t → IsStepAlone n e.search place rest f.search o → IsFollowedAs f rest p o → IsMoved m n t u e f holds view ready
  alone_moved o told alone follows =
      alone_as_moved o told (record { leads = λ s h viewed known keeps. alone.leads s h viewed known; after = alone.after }) follows

  led_is : (o : Outcome) → IsFollowedAs f rest p o → IsOutcomeIn e.search f.search o → (r : Setting) → IsView r.view
      → led (there r) e.search place rest f.search o ≡ state_at r.view f.search f.doing r.output
  led_is o follows inside r viewed =
      ap (λ d. state_of r.view f.search d r.output)
      (sym (follows r viewed
      ∙ doing_same r e.search f.search (proc_in r.view p) (proc_of (reads r.view e.search.store place)) rest o le inside
      (sym (has r viewed))))

  -- Its request was answered.
  answered_moved : (o : Outcome) → IsStepAnswered t e.search place rest n u (λ s. led s e.search place rest f.search o) → IsAfter e.search f.search o
      → IsFollowedAs f rest p o → IsMoved m n t u e f holds view ready
  answered_moved o a after follows =
      asked_moved m n t u e f holds view ready a.before a.update a.asked a.request a.reply a.served
      (λ r viewed alike wants gave.
      let one = a.asking (there r) cut viewed alike
      in (one.0, step_is e place list cut rest running_is first r ∙ one.1, one.2 ∙ led_is o follows after.inside r viewed))
      after.budgets wanted given whole

  pub ran_moved : (o : Outcome) → ((u ≡ t) × IsStepAlone n e.search place rest f.search o)
      ⊎ (IsStepAnswered t e.search place rest n u (λ s. led s e.search place rest f.search o) × IsAfter e.search f.search o)
      → IsFollowedAs f rest p o → IsMoved m n t u e f holds view ready
  ran_moved o (inl h) follows = alone_moved o h.0 h.1 follows
  ran_moved o (inr h) follows = answered_moved o h.0 h.1 follows

  -- It was refused.
  raised_leads : (error ball : Tree) → All (λ a. IsSome (n a)) (names_of error) → IsOverAtoms error → IsErrorBall error p ball → f.doing ≡ Throwing ball rest
      → ((v : View) → (node_of v f.search rest).goals ≡ (node_of v e.search rest).goals) → (r : Setting) → IsView r.view → IsAlike n u r.view
      → step_refused (there r) e.search place rest f.search error n ≡ state_at r.view f.search f.doing r.output
  raised_leads error ball named over is throws goals r viewed alike =
      let v = r.view
      in let read : term_by (worlds.text_of n) error ≡ spelled (text_of v.names) error =
      sym (same_term n v.names view.fixed viewed.fixed alike.holds error (All-tail (λ a. IsSome (n a)) neck (atoms_in error) named))
      ∙ read_over v.names viewed.fixed error over
      in let thrown : error_ball (term_by (worlds.text_of n) error) (proc_of (reads v e.search.store place)) ≡ spelled (text_of v.names) ball =
      ap₂ error_ball read (has r viewed) ∙ sym (is v viewed)
      in ap₂ (λ b ps. state_of v f.search (throwing b ps) r.output) thrown (sym (goals v))
      ∙ ap (λ d. state_at v f.search d r.output) (sym throws)

  pub refused_moved : (error ball : Tree) → IsStepAnswered t e.search place rest n u (λ s. step_refused s e.search place rest f.search error n) → All (λ a. IsSome (n a)) (names_of error)
      → ((v : View) → (node_of v f.search rest).goals ≡ (node_of v e.search rest).goals) → f.search.budgets ≡ e.search.budgets → IsOverAtoms error → IsErrorBall error p ball → f.doing ≡ Throwing ball rest
      → IsMoved m n t u e f holds view ready
  refused_moved error ball a named goals budgets over is throws =
      asked_moved m n t u e f holds view ready a.before a.update a.asked a.request a.reply a.served
      (λ r viewed alike wants gave.
      let one = a.asking (there r) cut viewed alike
      in (one.0, step_is e place list cut rest running_is first r ∙ one.1, one.2 ∙ raised_leads error ball named over is throws goals r viewed alike))
      budgets wanted given whole
