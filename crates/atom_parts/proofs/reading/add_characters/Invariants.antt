use Rattle.std.proofs.Common.{◌≡◌, ◌++◌}
use Rattle.atom_parts.proofs.reading.add_characters.Given as goal

abbrev pub invariant-loop-c : goal.invariant-loop-c
invariant-loop-c l = l.text.items ≡ l.fn.text.items ++ l.yielded
