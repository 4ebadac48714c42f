-- A turn where the search of the item at hand has ended: the script is asked, or told.
use Rattle.std.proofs.Common.{◌≡◌, ℕ, List, Bool, true, false, Option, None, Some, sym, ap, subst, ◌∙◌}
use Rattle.pl_term.specs.Tree.{Chars, Tree}
use Rattle.pl_model.specs.Resolution.{State}
use Rattle.run_model.specs.Execution.{Script, Job, Consulted, Execution}
use Rattle.atom_api.specs.Names.{Names}
use Rattle.pl_model.specs.declared.ends.How.{How}
use Rattle.world_api.specs.Texts.{text_of}
use Rattle.world_api.specs.Told.{Told}
use Rattle.term_store.specs.NumberedNames.{term_by}
use Rattle.script_api.specs.Parts.{Part, of_goal, with_search}
use Rattle.script_api.specs.Scripts.{StandsBefore, is_directive}
use Rattle.iso_engine.specs.declared.engine.Engine.{Engine}
use Rattle.iso_engine.specs.Standing.{state_now}
use Rattle.iso_engine.specs.Views.{view_of}
use Rattle.engine_run.specs.declared.runner.Runner.{Runner}
use Rattle.engine_run.specs.declared.runner.Stage.{Stage}
use Rattle.engine_run.specs.declared.runner.Stage.TheVariants.{Asks, Directs, Searches}
use Rattle.engine_run.specs.Endings.{HasEndedAs}
use Rattle.engine_run.specs.Items.{IsDirectiveAsked}
use Rattle.engine_run.specs.Runners.{CameTo, HasAsked, HasClosed, HasTurned, IsAtItem, Turned, at_stage}
use Rattle.engine_run.proofs.Turning.{goal_part, out_at_goal, out_none, same_part}

-- A directive at hand has ended.
pub directive_asked : (o : Option Part) (p : Part) (how : How Tree) → o ≡ Some p → is_directive p ≡ true → IsDirectiveAsked o (Some how)
directive_asked o p how at is = subst (λ (q : Option Part). IsDirectiveAsked q (Some how)) (sym at) is

-- None is at hand.
pub none_asked : (o : Option Part) → o ≡ None → IsDirectiveAsked o None
none_asked o none = subst (λ (p : Option Part). IsDirectiveAsked p None) (sym none) tt

-- The goal is at hand.
pub goal_at_hand : (o : Option Part) (p : Part) → o ≡ Some p → is_directive p ≡ false → o ≡ Some of_goal
goal_at_hand o p at is = at ∙ ap (λ (q : Part). let r : Option Part = Some q in r) (goal_part p is)

module _ {S : Type 0} (execution : (ℕ → Chars) → S → Job → List Consulted → Execution) (part : S → Option Part) (plays : (ℕ → Chars) → S → Script → Type 0) (kept : S → Bool)
    (name : S → Chars) (variables : S → List (Chars × ℕ)) (m n : Names) (t u : Told) (old new : Runner S) (r : Turned) where
  -- The item for which the engine searches is the one at hand.
  item_is : (d : Bool) (e : Engine) (item : Part) → IsAtItem part m t old.script d e → part old.script ≡ Some item → is_directive item ≡ d
  item_is d e item h at = ap is_directive (sym (same_part h.item item (part old.script) h.at_hand at)) ∙ h.is

  -- The runner of which this is told may be at another stage.
  from_stage : (g : Stage) (job : Job) (x : Execution) → CameTo execution part plays kept name variables job x t old n u new r
      → CameTo execution part plays kept name variables job x t (at_stage old g) n u new r
  from_stage g job x c = record { there = c.there; comes = c.comes; stands = c.stands; answer = c.answer }

  -- No item was at hand.
  pub asked_first : part old.script ≡ None
      → HasAsked execution part plays kept name variables m t old None n u new r
      → HasTurned execution part plays kept name variables m t (at_stage old Asks) n u new r
  asked_first none h job x st =
      from_stage Asks job x
      (h job st.consulted None x st.budgets st.wants st.playing
      (subst (λ (o : Option Part). StandsBefore execution part term_by (text_of m) old.script job o None None st.consulted x) (sym none) st.stands.0)
      st.stands.1 st.text)

  -- The directive at hand has ended.
  pub asked_next : (e : Engine) (how : How Tree) → IsAtItem part m t old.script true e → HasEndedAs m e how
      → HasAsked execution part plays kept name variables m t old (Some how) n u new r
      → HasTurned execution part plays kept name variables m t (at_stage old (Directs e)) n u new r
  asked_next e how ready has_ended h job x st =
      let c = st.stands
      in let s : State = state_now (view_of m t) e c.written
      in let is = has_ended t c.written
      in from_stage (Directs e) job x
      (h job st.consulted (Some s) x st.budgets st.wants st.playing
      (subst (λ (o : Option Part). StandsBefore execution part term_by (text_of m) old.script job o (Some how) (Some s) st.consulted x) (sym c.at_hand)
      (is.0, is.1, is.2, c.is))
      (out_none old.lines (variables old.script) c.item c.written old.output.items (item_is true e c.item ready c.at_hand) c.out_is)
      st.text)

  -- The goal has ended.
  pub closed_then : (e : Engine) (how : How Tree) → IsAtItem part m t old.script false e → HasEndedAs m e how
      → HasClosed execution part plays kept name variables m t old how n u new r
      → HasTurned execution part plays kept name variables m t (at_stage old (Searches e)) n u new r
  closed_then e how ready has_ended h job x st =
      let c = st.stands
      in let s : State = state_now (view_of m t) e c.written
      in let is = has_ended t c.written
      in let goal : is_directive c.item ≡ false = item_is false e c.item ready c.at_hand
      in from_stage (Searches e) job x
      (h job st.consulted s x is.0 st.budgets st.wants st.playing is.1 is.2
      (c.is ∙ ap (λ (p : Part). with_search (execution (text_of m) old.script job st.consulted) p s) (goal_part c.item goal))
      (out_at_goal old.lines (variables old.script) c.item c.written old.output.items goal c.out_is)
      st.text)

-- The runner at the stage at which it is.
pub at_its_stage : {S : Type 0} (P : Runner S → Type 0) (r : Runner S) (s : Stage) → r.stage ≡ s → P (at_stage r s) → P r
at_its_stage P r s is h = subst (λ (z : Stage). P (at_stage r z)) (sym is) h

pub at_this_stage : {S : Type 0} (P : Runner S → Type 0) (r : Runner S) (s : Stage) → r.stage ≡ s → P r → P (at_stage r s)
at_this_stage P r s is h = subst (λ (z : Stage). P (at_stage r z)) is h
