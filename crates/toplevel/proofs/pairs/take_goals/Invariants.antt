use Rattle.std.proofs.Common.{◌≡◌, List, length}
use Rattle.std.specs.Vec.Iter.{into_iter_items}
use Rattle.run_model.specs.Execution.{Word}
use Rattle.run_model.specs.Lawful.{Beginning, Program, Told}
use Rattle.run_model.specs.Report.{Finals}
use Rattle.toplevel.specs.Kept.{EachKept}
use Rattle.toplevel.specs.Pairs.{named_by}
use Rattle.toplevel.proofs.PairLaws.{Taking}
use Rattle.toplevel.proofs.pairs.take_goals.Given as goal

abbrev pub invariant-loop-number : goal.invariant-loop-number
invariant-loop-number l =
    (p : Program) (told : Told) (finals : Finals) (ws : List Word) (bs : List Beginning)
    → l.goals ≡ length p.words
    → l.begun ≡ named_by bs
    → EachKept p told finals ws (into_iter_items l.initial.rest)
    → Taking p told finals ws l.number-index bs l.initial.engines.items l.engines.items (into_iter_items l.rest)
