-- Goals of built-in predicates that are functions of their arguments, as steps of an engine.
use Rattle.std.proofs.Common.{◌≡◌, ℕ, ◌<◌, ◌≤◌, ◌^◌, List, [], ◌∷◌, ◌++◌, length, true, Some, inl, inr, refl, sym, ap, ap₂, subst, ◌∙◌, append-nil}
use Rattle.std.specs.List.{All}
use Rattle.std.specs.Str.{all_scalars}
use Rattle.pl_term.specs.Texts.{size}
use Rattle.pl_term.specs.Tree.{Chars}
use Rattle.pl_model.specs.Control.{step}
use Rattle.atom_api.specs.Names.{FixedStand, Names}
use Rattle.term_store.specs.Contents.{term_at}
use Rattle.term_store.specs.Heap.{atom_name}
use Rattle.world_api.specs.declared.visit.Procedure.{Procedure}
use Rattle.world_api.specs.Texts.{Holds}
use Rattle.world_api.specs.Told.{Told}
use Rattle.world_builtins.specs.Naming.{IsHeldAt}
use Rattle.iso_search.specs.declared.frames.Task.TheVariants.{Goal}
use Rattle.iso_search.specs.declared.outcome.Outcome.{Outcome}
use Rattle.iso_search.specs.declared.search.Search.{Search}
use Rattle.iso_search.specs.Frames.{tasks}
use Rattle.iso_search.specs.Outcomes.{Setting, doing_by, limits_in}
use Rattle.iso_search.specs.Reading.{IsView, View, reads}
use Rattle.iso_search.specs.Searching.{node_of}
use Rattle.iso_search.specs.Spelling.{spelled, text_of}
use Rattle.iso_engine.proofs.Outputs.{atoms_same}
use Rattle.iso_engine.specs.declared.builtin.RowGoal.{RowGoal}
use Rattle.iso_engine.specs.declared.doing.Doing.TheVariants.{Running}
use Rattle.iso_engine.specs.declared.engine.Engine.{Engine}
use Rattle.iso_engine.specs.declared.slices.Slice.{Slice}
use Rattle.iso_engine.specs.Builtins.{IsRowGoal}
use Rattle.iso_engine.specs.Following.{HasProcedure}
use Rattle.iso_engine.specs.Views.{view_of}
use Rattle.iso_engine.specs.Ready.{IsReady, StepsFrom}
use Rattle.iso_engine.specs.Rows.{IsGivenText, IsRowAt, IsRowText, LeadsTo}
use Rattle.iso_engine.specs.Retrying.{IsTakenBack}
use Rattle.iso_engine.specs.Slices.{IsStepped}
use Rattle.iso_engine.specs.Standing.{doing_of, state_at, aims_of}
use Rattle.iso_engine.proofs.Followed.{goal_done, run_setting}
use Rattle.iso_engine.proofs.Moving.{IsMoved, seen_moved}
use Rattle.iso_engine.proofs.Opening.{goal_held}
use Rattle.iso_engine.proofs.Procedures.{compound_proc}
use Rattle.iso_engine.proofs.Refusals.{refused_step}
use Rattle.iso_engine.proofs.TakenBack.{called_back}

-- What is done next follows the outcome of the predicate.
abbrev pub IsFollowedAs : Engine → ℕ → Procedure → Outcome → Type 0
IsFollowedAs f rest p o =
    (q : Setting) → IsView q.view → doing_of q.view f.search f.doing
    ≡ doing_by q f.search (node_of q.view f.search rest) (record { name = text_of q.view.names (atom_name p.name); arity = p.arity }) o

-- The atoms of the goal are held.
pub row_held : (m : Names) (t : Told) (e : Engine) (r : RowGoal) (list cut rest : ℕ) → e.doing ≡ Running list
    → tasks e.search.frames.items list ≡ Goal r.place cut ∷ tasks e.search.frames.items rest → IsReady m t e → FixedStand m
    → ((a b : ℕ) (y : Chars) → m a ≡ Some y → m b ≡ Some y → a ≡ b)
    → ((a : ℕ) (y : Chars) → m a ≡ Some y → (a < 2 ^ 32) × (size y ≤ 248) × (all_scalars y ≡ true))
    → IsHeldAt m e.search.store r.place
row_held m t e r list cut rest doing first ready stands unlike finite =
    subst (All (λ a. Rattle.std.specs.Option.IsSome (m a))) (sym (atoms_same (term_at e.search.store r.place)))
    (goal_held m t e list cut r.place rest doing first ready.stable stands unlike finite)

has_procedure : (e : Search) (r : RowGoal) → IsRowGoal e.store r → HasProcedure e.store r.place (record { name = r.name; arity = r.arguments.count })
has_procedure e r at t view = compound_proc t.view e.store r.place r.name r.arguments.count r.arguments at.means at.inside at.some refl

-- A text that was asked of the atoms.
pub given_text : (m : Names) (t : Told) (e : Engine) (r : RowGoal) (list cut rest : ℕ) → e.doing ≡ Running list
    → tasks e.search.frames.items list ≡ Goal r.place cut ∷ tasks e.search.frames.items rest → IsRowAt e.search.store r → IsView (view_of m t) → (c : Chars)
    → IsGivenText (spelled (text_of m) (term_at e.search.store r.place)) e.search.next_variable e.search.store.used e.search.store.budget c
    → IsRowText m t e c
given_text m t e r list cut rest doing first at view c given =
    let v = view_of m t
    in record {
      goal = reads v e.search.store r.place;
      cut = cut;
      later = (node_of v e.search rest).goals;
      node = node_of v e.search list;
      runs = ap (doing_of v e.search) doing;
      first = ap (Rattle.std.proofs.Common.map (Rattle.iso_search.specs.Reading.pending (reads v e.search.store))) first;
      other_is = at.other_is v view;
      given = given;
    }

module _ (m n : Names) (t : Told) (e f : Engine) (r : RowGoal) (list cut rest : ℕ) (doing : e.doing ≡ Running list)
    (first : tasks e.search.frames.items list ≡ Goal r.place cut ∷ tasks e.search.frames.items rest) (le : rest ≤ length e.search.frames.items)
    (at : IsRowAt e.search.store r) (holds : Holds m n) (view : IsView (view_of n t)) (ready : IsReady m t e) where
  abbrev procedure : Procedure
  procedure = record { name = r.name; arity = r.arguments.count }

  -- The goal was run.
  pub led_moved : (o : Outcome) → LeadsTo n e.search r rest f.search o → aims_of f ≡ aims_of e → f.solutions_found ≡ e.solutions_found
      → IsFollowedAs f rest procedure o → IsMoved m n t t e f holds view ready
  led_moved o leads wanted given follows =
      let steps : StepsFrom n t e.solution_limit e.solutions_found e.search e.doing f.search f.doing =
      λ q viewed alike wants gave.
      let s = run_setting q e.search f.search list rest cut r.place o f.doing
      in ap (λ d. step (limits_in q e.search) (state_at q.view e.search d q.output)) doing
      ∙ goal_done q e.search f.search list rest cut r.place o f.doing (record { name = text_of q.view.names (atom_name procedure.name); arity = procedure.arity }) first le
      leads.after.inside (has_procedure e.search r at.goal_is q viewed) (leads.step s cut viewed alike.holds) (follows s viewed)
      in seen_moved m n t t e f holds view ready t.history (record { later = []; grown = sym (append-nil t.history); others = refl }) refl steps leads.after.budgets wanted given leads.whole

  -- It was not run.
  module _ (stands : FixedStand n) (unlike : (a b : ℕ) (y : Chars) → n a ≡ Some y → n b ≡ Some y → a ≡ b)
      (finite : (a : ℕ) (y : Chars) → n a ≡ Some y → (a < 2 ^ 32) × (size y ≤ 248) × (all_scalars y ≡ true)) (same : f ≡ e) where
    abbrev stays : Rattle.iso_engine.specs.Advancing.Advances 0 m t e n t f [] × IsReady n t f
    stays = called_back m n t t e f holds view ready refl same

    pub stopped_ready : IsReady n t f
    stopped_ready = stays.1

    -- The goal is to be tried again.
    pub refused_stepped : (s : Slice) → IsTakenBack s → IsStepped m t e (Some s) n t f []
    refused_stepped s again = refused_step m t e n t f s again stays.0
