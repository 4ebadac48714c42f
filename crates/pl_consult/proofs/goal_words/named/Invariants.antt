use Rattle.std.proofs.Common.{◌≡◌, take}
use Rattle.prolog_reader.specs.Names.{pairs}
use Rattle.pl_consult.proofs.goal_words.named.Given as goal

abbrev pub invariant-loop-variable : goal.invariant-loop-variable
invariant-loop-variable l = l.all.items ≡ pairs (take l.variable-index l.names)
