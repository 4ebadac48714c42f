use Rattle.std.proofs.Common.{◌≡◌}
use Rattle.prolog_reader.proofs.ListNodes.{code_cells}
use Rattle.prolog_reader.proofs.lists.codes.Given as goal

abbrev pub invariant-loop-c : goal.invariant-loop-c
invariant-loop-c l = l.all.items ≡ code_cells l.yielded
