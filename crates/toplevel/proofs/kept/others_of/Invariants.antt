use Rattle.std.proofs.Common.{◌≡◌, ◌≤◌, ℕ, List, [], ◌∷◌, ◌++◌, length}
use Rattle.std.specs.List.{All}
use Rattle.pl_term.specs.Tree.{Chars}
use Rattle.pl_model.specs.History.{History}
use Rattle.run_model.specs.Lawful.{Program}
use Rattle.run_model.specs.WholeRuns.{Carried}
use Rattle.pl_consult.specs.GoalWords.{words_of}
use Rattle.toplevel.specs.declared.front.EngineFront.{EngineFront}
use Rattle.toplevel.specs.Kept.{AreOpened, Covers}
use Rattle.toplevel.specs.Opened.{IsOpened}
use Rattle.toplevel.proofs.kept.others_of.Given as goal

abbrev pub invariant-loop-engine : goal.invariant-loop-engine
invariant-loop-engine l =
    (1 ≤ l.last)
    × ((p : Program) (file : Chars) (board : ℕ) (h : History) (first : Carried p h)
    → l.fn.goals ≡ length p.words
    → All (IsOpened p file board h) l.initial.opened.items
    → Covers l.initial.opened.items (first ∷ [])
    → (fs : List EngineFront)
    × (l.fronts.items ≡ l.initial.fronts.items ++ fs)
    × AreOpened p h (words_of l.fn.words) first l.opened.items l.last fs l.parts.items
    × All (IsOpened p file board h) l.opened.items)

abbrev pub decreases-loop-engine : goal.decreases-loop-engine
decreases-loop-engine l = length l.opened.items
