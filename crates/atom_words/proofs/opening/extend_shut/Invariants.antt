use Rattle.std.proofs.Common.{◌≡◌, ◌++◌}
use Rattle.atom_words.specs.Opening.{shut}
use Rattle.atom_words.proofs.opening.extend_shut.Given as goal

abbrev pub invariant-loop-i : goal.invariant-loop-i
invariant-loop-i l = l.words.items ≡ l.initial.words.items ++ shut l._i
