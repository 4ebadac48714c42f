-- What an engine comes to by thread_exit/1.
use Rattle.std.proofs.Common.{◌≡◌, ℕ, [], ◌∷◌, Some, refl, sym, ap, ◌∙◌, map, append-nil}
use Rattle.pl_term.specs.Tree.{Chars, Tree}
use Rattle.pl_model.specs.Resolution.{goes}
use Rattle.atom_api.specs.Names.{Names}
use Rattle.term_store.specs.declared.words.Place.{Place}
use Rattle.world_api.specs.Texts.{Holds}
use Rattle.world_api.specs.Told.{Told}
use Rattle.iso_search.specs.declared.frames.Task.TheVariants.{Goal}
use Rattle.iso_search.specs.declared.search.Search.{Search}
use Rattle.iso_search.specs.Frames.{tasks}
use Rattle.iso_search.specs.Outcomes.{Setting}
use Rattle.iso_search.specs.Reading.{IsView, pending, reads}
use Rattle.iso_search.specs.Searching.{IsWhole, node_of}
use Rattle.iso_engine.specs.declared.doing.Doing.{Doing}
use Rattle.iso_engine.specs.declared.doing.Doing.TheVariants.{Ended, Running}
use Rattle.iso_engine.specs.declared.doing.End.TheVariants.{Exited}
use Rattle.iso_engine.specs.declared.engine.Engine.{Engine}
use Rattle.iso_engine.specs.Leaving.{IsExitAt, IsExitText, left_state}
use Rattle.iso_engine.specs.Ready.{IsReady, StepsAs}
use Rattle.iso_engine.specs.Standing.{aims_of, doing_of, state_at, staying}
use Rattle.iso_engine.specs.Views.{view_of}
use Rattle.iso_engine.specs.Wrote.{taken}
use Rattle.iso_engine.proofs.ExitGoals.{exit_stands}
use Rattle.iso_engine.proofs.GoalsMoved.{set, step_is}
use Rattle.iso_engine.proofs.Moving.{IsMoved, seen_as_moved}

module _ (m n : Names) (t : Told) (e f : Engine) (place : Place) (list cut rest : ℕ) (running_is : e.doing ≡ Running list)
    (first : tasks e.search.frames.items list ≡ Goal place cut ∷ tasks e.search.frames.items rest) (holds : Holds m n) (view : IsView (view_of n t)) (ready : IsReady m t e)
    (wanted : aims_of f ≡ aims_of e) (given : f.solutions_found ≡ e.solutions_found) (whole : IsWhole f.search) where
  -- What is run was left.
  pub left_moved : (ball : Tree) (k : ℕ) → (let y : Search = record e.search { inferences = k } in f.search ≡ y)
      → ((s : Setting) (h : ℕ) → IsView s.view → s.stays ≡ staying e.stays → taken s e.search place rest h ≡ goes (left_state s f.search ball))
      → f.doing ≡ Ended (Exited ball) → IsMoved m n t t e f holds view ready
  left_moved ball k same leads is =
      let steps : StepsAs (staying e.stays) n t e.solution_limit e.solutions_found e.search e.doing f.search f.doing =
      λ q viewed alike keeps wants gave.
      step_is e place list cut rest running_is first q
      ∙ leads (set e place list cut rest running_is first q) cut viewed keeps
      ∙ ap (λ (d : Doing). goes (state_at q.view f.search d q.output)) (sym is)
      in seen_as_moved m n t t e f holds view ready t.history (record { later = []; grown = sym (append-nil t.history); others = refl }) refl steps
      (ap (λ (y : Search). y.budgets) same) wanted given whole

-- The name of what is not left.
pub exit_text : (m : Names) (t : Told) (e : Engine) (place term : Place) (list cut rest : ℕ) → e.doing ≡ Running list
    → tasks e.search.frames.items list ≡ Goal place cut ∷ tasks e.search.frames.items rest → IsExitAt e.search.store place term → IsView (view_of m t)
    → (c : Chars) → staying e.stays ≡ Some c → IsExitText m t e c
exit_text m t e place term list cut rest running_is first at view c named =
    let v = view_of m t
    in record {
      goal = reads v e.search.store place;
      term = reads v e.search.store term;
      cut = cut;
      later = (node_of v e.search rest).goals;
      node = node_of v e.search list;
      runs = ap (doing_of v e.search) running_is;
      first = ap (map (pending (reads v e.search.store))) first;
      exit_is = exit_stands e.search.store place term at v view;
      named = named;
    }
