use Rattle.std.proofs.Common.{◌≡◌, take}
use Rattle.atom_api.proofs.text_buf.copy_to.Given as goal

abbrev pub invariant-loop-i : goal.invariant-loop-i
invariant-loop-i l = take l.i l.bytes ≡ take l.i l.from
