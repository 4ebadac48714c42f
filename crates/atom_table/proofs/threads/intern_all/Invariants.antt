use Rattle.std.proofs.Common.{◌≡◌, vec_len}
use Rattle.atom_table.proofs.threads.intern_all.Given as goal

abbrev pub invariant-loop-i : goal.invariant-loop-i
invariant-loop-i g l = vec_len l.slots ≡ 2000
