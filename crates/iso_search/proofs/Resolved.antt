-- A clause whose head was unified with a goal.
use Rattle.std.proofs.Common.{◌≡◌, ℕ, List, [], ◌∷◌, map, reverse, Some, None, refl, sym, ap, ap₂, ◌∙◌}
use Rattle.std.specs.List.{All}
use Rattle.std.specs.Option.{option_map}
use Rattle.std.proofs.lemmas.List.Elements.{All-head, All-tail}
use Rattle.pl_term.specs.Tree.{Tree}
use Rattle.pl_model.specs.Unify.{Bindings, bound, unify}
use Rattle.pl_model.specs.History.{Proc}
use Rattle.pl_model.specs.Resolution.{Pending, goal, collect, Node, running, failing, pending_instance, node_instance, resolving}
use Rattle.pl_model.specs.Control.{before, clause_unified}
use Rattle.pl_model.specs.Terms.{raised_by}
use Rattle.term_store.specs.declared.words.Place.{Place}
use Rattle.term_store.specs.ArgumentKeys.{head_in}
use Rattle.term_store.specs.Contents.{Contents, Holds, Adds, term_at}
use Rattle.term_store.specs.Entering.{ClauseEntered, body_in}
use Rattle.iso_search.specs.declared.frames.Task.{Task}
use Rattle.iso_search.specs.declared.frames.Task.TheVariants.{Goal, Commit, Refute, Leave, Collect}
use Rattle.iso_search.specs.declared.search.Search.{Search}
use Rattle.iso_search.specs.declared.outcome.Outcome.TheVariants.{Run, Fail}
use Rattle.iso_search.specs.Choices.{IsTaskIn}
use Rattle.iso_search.specs.Frames.{tasks}
use Rattle.iso_search.specs.Outcomes.{Setting, state_in, result_in}
use Rattle.iso_search.specs.Reading.{IsView, reads, pending}
use Rattle.iso_search.specs.Searching.{IsWhole, choices_of, node_of}
use Rattle.iso_search.specs.Spelling.{spelled, spelled_bindings, text_of}
use Rattle.iso_search.proofs.Grown.{tasks_inside}
use Rattle.iso_search.proofs.Instances.{choices_kept}
use Rattle.iso_search.proofs.Over.{state_by}
use Rattle.iso_search.proofs.Spelt.{unify-spelled, bound-spelled}

-- What stood in the store has bindings put in.
module _ (s : Contents) (r q : Place → Tree) (bs : Bindings) (terms : (p : Place) → Holds s p → q p ≡ bound bs (r p)) where
  pending_held : (t : Task) → IsTaskIn s t → pending q t ≡ pending_instance bs (pending r t)
  pending_held (Goal w h) i = ap (λ x. goal x h) (terms w i)
  pending_held (Commit h) i = refl
  pending_held (Refute h) i = refl
  pending_held (Leave h) i = refl
  pending_held (Collect w h) i = ap (λ x. collect x h) (terms w i)

  pendings_held : (ts : List Task) → All (IsTaskIn s) ts → map (pending q) ts ≡ map (pending_instance bs) (map (pending r) ts)
  pendings_held [] all = refl
  pendings_held (t ∷ ts) all = ap₂ (λ x xs. x ∷ xs) (pending_held t (All-head (IsTaskIn s) t ts all)) (pendings_held ts (All-tail (IsTaskIn s) t ts all))

  answers_held : (ws : List Place) → All (Holds s) ws → map q ws ≡ map (bound bs) (map r ws)
  answers_held [] all = refl
  answers_held (w ∷ ws) all = ap₂ (λ x xs. x ∷ xs) (terms w (All-head (Holds s) w ws all)) (answers_held ws (All-tail (Holds s) w ws all))

node_by : (g₁ g₂ : List Pending) (a₁ a₂ : List Tree) (u₁ u₂ : ℕ) → g₁ ≡ g₂ → a₁ ≡ a₂ → u₁ ≡ u₂
    → (let l : Node = record { goals = g₁; answer = a₁; used = u₁ } in let r : Node = record { goals = g₂; answer = a₂; used = u₂ } in l ≡ r)
node_by g₁ g₂ a₁ a₂ u₁ u₂ p q r = cc

module _ (t : Setting) (view : IsView t.view) (e : Search) (whole : IsWhole e) (at : Place) (from : ℕ) (clause : Tree) (s : Contents) (held : Holds e.store at)
    (adds : Adds e.store s) (used : s.used ≡ e.store.used) (height place rest : ℕ) (p : Proc) where
  abbrev g : Tree → Tree
  g = spelled (text_of t.view.names)

  abbrev body : Tree
  body = g (raised_by from (body_in clause))

  abbrev head : Tree
  head = g (raised_by from (head_in clause))

  abbrev c : Search
  c = record e { store = s }

  choices_same : choices_of t.view c ≡ choices_of t.view e
  choices_same = choices_kept t.view e.answer.items e.store s e.frames.items (reverse e.choices.items) adds whole.rests

  -- The body is done before the tasks of the list.
  pub entered_run : (d : Search) (list : ℕ) (w : Place) → ClauseEntered e.store at from clause (Some w) s
      → node_of t.view d list ≡ before (goal (reads t.view s w) height ∷ []) (node_of t.view c rest) → choices_of t.view d ≡ choices_of t.view c
      → d.next_variable ≡ e.next_variable → d.inferences ≡ e.inferences
      → result_in t d (node_of t.view e rest) p (Run list)
      ≡ clause_unified resolving (state_in t e) (node_of t.view e rest) height place body (unify (reads t.view e.store at) head)
  entered_run d list w (made, (unifies, (binds, (inside, body_is)))) node choices next inferences =
      let v = t.view in
      let n = text_of v.names in
      let bs : Bindings = spelled_bindings n made in
      let found : unify (reads v e.store at) head ≡ Some bs =
      unify-spelled n view.apart (term_at e.store at) (raised_by from (head_in clause)) ∙ ap (option_map (spelled_bindings n)) unifies in
      let terms : (q : Place) → Holds e.store q → reads v s q ≡ bound bs (reads v e.store q) =
      λ q h. ap (spelled n) (binds q h) ∙ sym (bound-spelled n made (term_at e.store q)) in
      let body_reads : reads v s w ≡ bound bs body =
      ap (spelled n) body_is ∙ sym (bound-spelled n made (raised_by from (body_in clause))) in
      let ts : List Task = tasks e.frames.items rest in
      let old : node_of v c rest ≡ node_instance bs (node_of v e rest) =
      node_by (map (pending (reads v s)) ts) (map (pending_instance bs) (map (pending (reads v e.store)) ts))
      (map (reads v s) e.answer.items) (map (bound bs) (map (reads v e.store) e.answer.items)) s.used e.store.used
      (pendings_held e.store (reads v e.store) (reads v s) bs terms ts (tasks_inside (IsTaskIn e.store) e.frames.items rest whole.base.words))
      (answers_held e.store (reads v e.store) (reads v s) bs terms e.answer.items whole.base.answer) used in
      let new : node_of v d list ≡ node_instance bs (before (goal body height ∷ []) (node_of v e rest)) =
      node ∙ ap₂ (λ x m. before (goal x height ∷ []) m) body_reads old in
      state_by (running (node_of v d list)) (running (node_instance bs (before (goal body height ∷ []) (node_of v e rest)))) (choices_of v d) (choices_of v e)
      d.next_variable e.next_variable d.inferences e.inferences t.output (ap running new) (choices ∙ choices_same) next inferences
      ∙ ap (clause_unified resolving (state_in t e) (node_of v e rest) height place body) (sym found)

  -- The head does not unify with the goal.
  pub entered_fail : ClauseEntered e.store at from clause None s
      → result_in t c (node_of t.view e rest) p Fail
      ≡ clause_unified resolving (state_in t e) (node_of t.view e rest) height place body (unify (reads t.view e.store at) head)
  entered_fail (none_unifies, same) =
      let v = t.view in
      let n = text_of v.names in
      let found : unify (reads v e.store at) head ≡ None =
      unify-spelled n view.apart (term_at e.store at) (raised_by from (head_in clause)) ∙ ap (option_map (spelled_bindings n)) none_unifies in
      state_by failing failing (choices_of v c) (choices_of v e) e.next_variable e.next_variable e.inferences e.inferences t.output refl choices_same refl refl
      ∙ ap (clause_unified resolving (state_in t e) (node_of v e rest) height place body) (sym found)
