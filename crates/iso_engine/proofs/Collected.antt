-- Steps of findall/3.
use Rattle.std.proofs.Common.{◌≡◌, ◌≤◌, ℕ, ◌∷◌, length, Some, codes, refl, sym, ap, ◌∙◌}
use Rattle.pl_model.specs.History.{Proc}
use Rattle.pl_model.specs.Resolution.{goes, running}
use Rattle.pl_model.specs.Control.{collected, findall_proc, list_made, step}
use Rattle.atom_api.specs.Fixed.{fixed, fixed_texts}
use Rattle.atom_api.specs.FixedNames.{findall_name}
use Rattle.term_store.specs.declared.words.Place.{Place}
use Rattle.term_store.specs.Heap.{atom_name}
use Rattle.iso_search.specs.declared.copies.Collection.{Collection}
use Rattle.iso_search.specs.declared.failure.Back.TheVariants.{Found}
use Rattle.iso_search.specs.declared.frames.Task.TheVariants.{Collect}
use Rattle.iso_search.specs.declared.outcome.Outcome.{Outcome}
use Rattle.iso_search.specs.declared.search.Search.{Search}
use Rattle.iso_search.specs.Collecting.{copies_of}
use Rattle.iso_search.specs.Failures.{back_result}
use Rattle.iso_search.specs.Frames.{tasks}
use Rattle.iso_search.specs.Outcomes.{IsOutcomeIn, Setting, doing_by, limits_in, result_in, state_in}
use Rattle.iso_search.specs.Reading.{IsView, View, reads}
use Rattle.iso_search.specs.Searching.{node_of, state_of}
use Rattle.iso_search.specs.Spelling.{text_of}
use Rattle.iso_search.proofs.Naming.{text_is}
use Rattle.iso_engine.specs.declared.doing.Doing.{Doing}
use Rattle.iso_engine.specs.declared.doing.Doing.TheVariants.{Running}
use Rattle.iso_engine.specs.Standing.{doing_of, state_at}
use Rattle.iso_engine.proofs.Followed.{doing_same}
use Rattle.iso_engine.proofs.Tasking.{step_running}

findall_is : fixed findall_name ≡ Some (codes "findall")
unfolding fixed_texts
findall_is = refl

-- The predicate, as it is read.
abbrev pub findall_in : View → Proc
findall_in v = record { name = text_of v.names (atom_name findall_name); arity = 3 }

findall_named : (v : View) → IsView v → findall_in v ≡ findall_proc
findall_named v view = ap (λ f. let p : Proc = record { name = f; arity = 3 } in p) (text_is v view findall_name (codes "findall") findall_is)

module _ (e f : Search) (rest : ℕ) (o : Outcome) (d : Doing) (le : rest ≤ length e.frames.items) (inside : IsOutcomeIn e f o)
    (follows : (q : Setting) → IsView q.view → doing_of q.view f d ≡ doing_by q f (node_of q.view f rest) (findall_in q.view) o) where
  followed : (q : Setting) → IsView q.view → result_in q f (node_of q.view e rest) findall_proc o ≡ state_at q.view f d q.output
  followed q view =
      ap (λ x. state_of q.view f x q.output)
      (sym (follows q view ∙ doing_same q e f (findall_in q.view) findall_proc rest o le inside (findall_named q.view view)))

  -- A copy was collected.
  pub collect_done : (list height : ℕ) (w : Place)
      → ((q : Setting) (k : ℕ) → IsView q.view
      → result_in q f (node_of q.view e k) findall_proc o
      ≡ collected (limits_in q e) (state_in q e) (node_of q.view e k) (reads q.view e.store w) height)
      → tasks e.frames.items list ≡ Collect w height ∷ tasks e.frames.items rest
      → (t : Setting) → IsView t.view
      → step (limits_in t e) (state_at t.view e (Running list) t.output) ≡ goes (state_at t.view f d t.output)
  collect_done list height w collects is t view =
      let q : Setting = record t { doing = running (node_of t.view e list) } in
      step_running t e list (Collect w height) rest is ∙ ap goes (sym (collects q rest view) ∙ followed q view)

  -- The list was given.
  pub list_given : (list : Place) (found : Collection)
      → ((q : Setting) → IsView q.view
      → result_in q f (node_of q.view e rest) findall_proc o
      ≡ list_made (limits_in q e) (state_in q e) (node_of q.view e rest) (reads q.view e.store list) (copies_of q.view found))
      → (t : Setting) → IsView t.view → back_result t e (Found list found rest) ≡ state_at t.view f d t.output
  list_given list found gives t view = sym (gives t view) ∙ followed t view
