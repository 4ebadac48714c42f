-- Goals that write, as steps of an engine.
use Rattle.std.proofs.Common.{◌≡◌, ℕ, ◌≤◌, inl, inr, List, [], ◌∷◌, ◌++◌, length, Option, Some, None, refl, sym, ap, subst, ◌∙◌, append-nil}
use Rattle.std.specs.Prelude.{encode_utf8_all}
use Rattle.std.proofs.lemmas.Bool.{true≢false}
use Rattle.pl_term.specs.Tree.{Chars}
use Rattle.pl_model.specs.Predicates.{proc_of}
use Rattle.pl_model.specs.Requests.{read_operators, standing}
use Rattle.pl_model.specs.Resolution.{Output, goes, running, solution_count}
use Rattle.pl_model.specs.Control.{step}
use Rattle.atom_api.specs.Names.{Names}
use Rattle.term_store.specs.declared.words.Place.{Place}
use Rattle.term_store.specs.Heap.{atom_name}
use Rattle.world_api.specs.declared.visit.Procedure.{Procedure}
use Rattle.world_api.specs.Texts.{Holds}
use Rattle.world_api.specs.Told.{Told}
use Rattle.iso_search.specs.declared.frames.Task.TheVariants.{Goal}
use Rattle.iso_search.specs.declared.outcome.Fault.TheVariants.{Inferences}
use Rattle.iso_search.specs.declared.outcome.Outcome.{Outcome}
use Rattle.iso_search.specs.declared.outcome.Outcome.TheVariants.{Raise}
use Rattle.iso_search.specs.declared.search.Search.{Search}
use Rattle.iso_search.specs.Frames.{tasks}
use Rattle.iso_search.specs.Outcomes.{IsOutcomeIn, Setting, doing_by, limits_in}
use Rattle.iso_search.specs.Reading.{IsView, View, reads}
use Rattle.iso_search.specs.Searching.{IsWhole, node_of, state_of}
use Rattle.iso_search.specs.Spelling.{text_of}
use Rattle.iso_search.proofs.After.{keeps_alike}
use Rattle.iso_engine.specs.OutputGoals.{IsNoOutput}
use Rattle.iso_engine.specs.Wrote.{IsAlone, IsRun, IsUnderOperators, added, bytes_of, led, taken, with_added}
use Rattle.iso_engine.specs.Wrote.{IsSpent as IsSpentGoal}
use Rattle.iso_engine.specs.declared.doing.Doing.TheVariants.{Running}
use Rattle.iso_engine.specs.declared.engine.Engine.{Engine}
use Rattle.iso_engine.specs.Views.{view_of}
use Rattle.iso_engine.specs.Ready.{IsAlike, IsReady}
use Rattle.iso_engine.specs.Slices.{written_text}
use Rattle.iso_engine.specs.Standing.{doing_of, state_at, aims_of}
use Rattle.iso_engine.specs.Writes.{IsWriteAt}
use Rattle.iso_engine.proofs.Followed.{doing_same}
use Rattle.iso_engine.proofs.Moreover.{AsksBy, IsMovedBy, StepsBy, moved_alone, moved_asking}
use Rattle.iso_engine.proofs.Tasking.{step_running}

-- What was added is what was written.
added_text : (w : Option Chars) → encode_utf8_all (written_text (added w)) ≡ bytes_of w
added_text None = refl
added_text (Some w) = ap encode_utf8_all (append-nil w)

added_none : (w : Option Chars) → solution_count (added w) ≡ 0
added_none None = refl
added_none (Some w) = refl

module _ (m n : Names) (t u : Told) (e f : Engine) (at : Place) (p : Procedure) (list cut rest : ℕ) (running_is : e.doing ≡ Running list)
    (first : tasks e.search.frames.items list ≡ Goal at cut ∷ tasks e.search.frames.items rest) (le : rest ≤ length e.search.frames.items)
    (write : IsWriteAt e.search.store at p) (holds : Holds m n) (view : IsView (view_of n u)) (ready : IsReady m t e)
    (wanted : aims_of f ≡ aims_of e) (given : f.solutions_found ≡ e.solutions_found) (whole : IsWhole f.search) (o : Outcome)
    (follows : (r : Setting) → IsView r.view → doing_of r.view f.search f.doing
    ≡ doing_by r f.search (node_of r.view f.search rest) (record { name = text_of r.view.names (atom_name p.name); arity = p.arity }) o) where
  -- What a step of the engine takes up.
  abbrev set : Setting → Setting
  set r = record r { doing = running (node_of r.view e.search list) }

  step_is : (r : Setting) → step (limits_in r e.search) (state_at r.view e.search e.doing r.output) ≡ taken (set r) e.search at rest cut
  step_is r =
      ap (λ d. step (limits_in r e.search) (state_at r.view e.search d r.output)) running_is ∙ step_running r e.search list (Goal at cut) rest first

  led_is : (r : Setting) → IsView r.view → IsOutcomeIn e.search f.search o → (w : Option Chars)
      → led (with_added (set r) w) e.search at rest f.search o ≡ state_at r.view f.search f.doing (r.output ++ added w)
  led_is r viewed inside w =
      ap (λ d. state_of r.view f.search d (r.output ++ added w))
      (sym (follows r viewed
      ∙ doing_same r e.search f.search (record { name = text_of r.view.names (atom_name p.name); arity = p.arity }) (proc_of (reads r.view e.search.store at)) rest o le inside
      (sym (write.procedure r viewed))))

  known : (v : View) → IsAlike n u v → Holds m v.names
  known v alike a x h = alike.holds a x (holds a x h)

  -- The engine has come a step further, and what was written was put after what was there.
  abbrev pub IsWritten : List ℕ → List ℕ → Type 0
  IsWritten a b = (more : List Output) × IsMovedBy m t e n u f more × (b ≡ a ++ encode_utf8_all (written_text more))

  alone : (a b : List ℕ) → IsAlone m t e.search at rest a n u f.search b o → IsWritten a b
  alone a b x =
      let w = x.done.more
      in let steps : StepsBy m n t u e f (added w) (added_none w) holds view ready x.done.after.budgets wanted given whole =
      λ r viewed alike wants gave.
      step_is r ∙ x.done.leads (set r) cut viewed (known r.view alike) ∙ ap goes (led_is r viewed x.done.after.inside w)
      in (
        added w,
        moved_alone m n t u e f (added w) (added_none w) holds view ready x.done.after.budgets wanted given whole x.told steps,
        x.done.out ∙ ap (λ l. a ++ l) (sym (added_text w)),
      )

  under_operators : (a b : List ℕ) → IsUnderOperators m t e.search at rest a n u f.search b o → IsWritten a b
  under_operators a b x =
      let w = Some x.written
      in let inside : IsOutcomeIn e.search f.search o = subst (IsOutcomeIn e.search f.search) (sym x.goes_on) tt
      in let budgets : f.search.budgets ≡ e.search.budgets = ap (λ (s : Search). s.budgets) x.search
      in let asking : AsksBy m n t u e f (added w) (added_none w) holds view ready budgets wanted given whole read_operators (standing x.operators x.quotes) =
      λ r viewed alike wants gave. (
        x.next (set r),
        step_is r ∙ x.asking (set r) cut viewed,
        x.leads (set r) viewed (known r.view alike) ∙ led_is r viewed inside w,
      )
      in (
        added w,
        moved_asking m n t u e f (added w) (added_none w) holds view ready budgets wanted given whole x.before None (record { follows = x.follows; told = x.told })
            read_operators
            (standing x.operators x.quotes)
            x.served
            asking,
        x.out ∙ ap (λ l. a ++ l) (sym (added_text w)),
      )

  pub ran_written : (a b : List ℕ) → IsRun m t e.search at rest a n u f.search b o → IsWritten a b
  ran_written a b (inl x) = alone a b x
  ran_written a b (inr x) = under_operators a b x

  -- There could be no inference.
  pub spent_written : u ≡ t → f.search ≡ e.search → o ≡ Raise Inferences → IsSpentGoal e.search at rest → IsMovedBy m t e n u f []
  spent_written told same is spent =
      let inside : IsOutcomeIn e.search f.search o = subst (IsOutcomeIn e.search f.search) (sym is) (tt, keeps_alike e.search f.search same)
      in let steps : StepsBy m n t u e f [] refl holds view ready (ap (λ (s : Search). s.budgets) same) wanted given whole =
      λ r viewed alike wants gave.
      step_is r
      ∙ spent (set r) cut viewed
      ∙ ap goes (ap (λ (s : Search). led (set r) e.search at rest s (Raise Inferences)) (sym same) ∙ ap (led (set r) e.search at rest f.search) (sym is)
      ∙ ap (λ out. led (record (set r) { output = out }) e.search at rest f.search o) (sym (append-nil r.output)) ∙ led_is r viewed inside None)
      in moved_alone m n t u e f [] refl holds view ready (ap (λ (s : Search). s.budgets) same) wanted given whole told steps

-- A goal that writes is one.
pub writes_not_none : (m : Names) (t : Told) (e : Engine) (at : Place) (p : Procedure) → IsView (view_of m t) → IsWriteAt e.search.store at p
    → IsNoOutput e.search.store at → ⊥
writes_not_none m t e at p view write none = true≢false (sym (write.writes (view_of m t) view) ∙ none (view_of m t) view)
