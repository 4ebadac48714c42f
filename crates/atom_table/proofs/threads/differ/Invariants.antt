use Rattle.std.proofs.Common.{◌≡◌, vec_len}
use Rattle.atom_table.proofs.threads.differ.Given as goal

abbrev pub invariant-loop-slot : goal.invariant-loop-slot
invariant-loop-slot l = vec_len l.taken ≡ 4096
