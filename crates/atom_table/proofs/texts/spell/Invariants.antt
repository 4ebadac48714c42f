use Rattle.std.proofs.Common.{◌≡◌, ℕ, ◌<◌, ◌+◌, ◌*◌, ◌/◌, ◌%◌, ◌^◌, length, get_or}
use Rattle.atom_table.proofs.texts.spell.Given as goal

abbrev pub invariant-loop-i : goal.invariant-loop-i
invariant-loop-i l = (length l.bytes ≡ 248) × ((k : ℕ) → k < l.i → get_or l.bytes k 0 ≡ get_or l.row (1 + k / 8) 0 / 2 ^ (8 * (k % 8)) % 256)
