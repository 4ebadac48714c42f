use Rattle.std.proofs.Common.{◌≡◌}
use Rattle.prolog_reader.proofs.ListNodes.{character_cells}
use Rattle.prolog_reader.proofs.lists.characters.Given as goal

abbrev pub invariant-loop-c : goal.invariant-loop-c
invariant-loop-c l = l.all.items ≡ character_cells l.yielded
