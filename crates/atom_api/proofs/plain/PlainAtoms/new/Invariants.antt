use Rattle.std.proofs.Common.{◌≡◌, ◌≤◌, ℕ, length}
use Rattle.atom_api.specs.Slots.{names_of}
use Rattle.atom_api.proofs.PlainFixed.{first_fixed}
use Rattle.atom_api.proofs.plain.PlainAtoms.new.Given as goal

abbrev pub invariant-loop-row : goal.invariant-loop-row
invariant-loop-row l =
    record {
      slots : length l.slots.texts.items ≤ l.row-index;
      names : (k : ℕ) → names_of l.slots.texts.items k ≡ first_fixed l.row-index k;
    }
