use Rattle.pl_model.specs.OperatorTable.{operator_at}
use Rattle.pl_model.proofs.TermDepth.{whole}
use Rattle.prolog_reader.specs.Stack.{IsSound, Gives, start_at, turns_left}
use Rattle.prolog_reader.proofs.read.read_whole.Given as goal

abbrev pub invariant-loop-mode : goal.invariant-loop-mode
invariant-loop-mode l =
    IsSound l.text l.reader l.mode
    × Gives l.text (operator_at l.ops) l.quotes l.reader l.mode (whole l.text (operator_at l.ops) l.quotes 1200 (start_at l.at))

abbrev pub decreases-loop-mode : goal.decreases-loop-mode
decreases-loop-mode l = turns_left l.text l.reader l.mode
