-- The first goal of a list, as two views read it.
use Rattle.std.proofs.Common.{◌≡◌, ℕ, List, [], ◌∷◌, sym, ap, ◌∙◌}
use Rattle.pl_term.specs.Tree.{Tree}
use Rattle.pl_model.specs.Resolution.{Node, Pending, goal, commit, refute, leave, collect, running, failing, throwing, erasing, clearing, answering, ended}
use Rattle.pl_model.specs.Resolution as resolution
use Rattle.term_store.specs.declared.words.Place.{Place}
use Rattle.iso_search.specs.declared.frames.Task.{Task}
use Rattle.iso_search.specs.declared.frames.Task.TheVariants.{Goal}
use Rattle.iso_search.specs.Frames.{tasks}
use Rattle.iso_search.specs.Reading.{View, node_at, reads}
use Rattle.iso_engine.specs.declared.doing.Doing.TheVariants.{Running}
use Rattle.iso_engine.specs.declared.engine.Engine.{Engine}
use Rattle.iso_engine.specs.Standing.{doing_of}

abbrev first_pending : Tree → List Pending → Tree
first_pending d [] = d
first_pending d (goal x h ∷ ps) = x
first_pending d (commit h ∷ ps) = d
first_pending d (refute h ∷ ps) = d
first_pending d (leave h ∷ ps) = d
first_pending d (collect x h ∷ ps) = d

abbrev first_goal : Tree → resolution.Doing → Tree
first_goal d (running n) = first_pending d n.goals
first_goal d failing = d
first_goal d (throwing b ps) = d
first_goal d (erasing place n) = d
first_goal d (clearing x cs n) = d
first_goal d answering = d
first_goal d (ended how) = d

module _ (e : Engine) (list cut : ℕ) (at : Place) (rest : ℕ) (doing : e.doing ≡ Running list)
    (first : tasks e.search.frames.items list ≡ Goal at cut ∷ tasks e.search.frames.items rest) where
  abbrev node_with : View → List Task → Node
  node_with x ts = node_at (reads x e.search.store) ts e.search.answer.items e.search.store.used

  pub goal_read : (v w : View) → doing_of v e.search e.doing ≡ doing_of w e.search e.doing → reads v e.search.store at ≡ reads w e.search.store at
  goal_read v w same =
      sym (ap (λ ts. first_goal (reads v e.search.store at) (running (node_with v ts))) first)
      ∙ ap (first_goal (reads v e.search.store at)) (sym (ap (doing_of v e.search) doing) ∙ same ∙ ap (doing_of w e.search) doing)
      ∙ ap (λ ts. first_goal (reads v e.search.store at) (running (node_with w ts))) first
