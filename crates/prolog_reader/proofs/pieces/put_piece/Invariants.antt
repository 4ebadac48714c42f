use Rattle.std.proofs.Common.{◌≡◌, ◌++◌, reverse, length}
use Rattle.prolog_reader.proofs.pieces.put_piece.Given as goal

abbrev pub invariant-loop-node : goal.invariant-loop-node
invariant-loop-node l = l.nodes.items ++ reverse l.piece.items ≡ l.fn.nodes.items ++ reverse l.fn.piece.items

abbrev pub decreases-loop-node : goal.decreases-loop-node
decreases-loop-node l = length l.piece.items
