use Rattle.std.proofs.Common.{◌≡◌}
use Rattle.prolog_reader.specs.Pieces.{spelled}
use Rattle.prolog_reader.proofs.pieces.into_nodes.Given as goal

abbrev pub invariant-loop-piece : goal.invariant-loop-piece
invariant-loop-piece l = l.nodes.items ≡ spelled l.yielded
