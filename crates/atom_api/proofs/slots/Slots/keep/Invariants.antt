use Rattle.std.proofs.Common.{◌≡◌, ◌≤◌, ℕ, length}
use Rattle.atom_api.specs.Slots.{names_of}
use Rattle.atom_api.proofs.Sweeping.{swept_to}
use Rattle.atom_api.proofs.slots.Slots.keep.Given as goal

abbrev pub invariant-loop-slot : goal.invariant-loop-slot
invariant-loop-slot l =
    record {
      from : l.from ≤ l.slot;
      slots : length l.self.texts.items ≡ length l.initial.self.texts.items;
      marks : l.self.marks.items ≡ l.initial.self.marks.items;
      names : (k : ℕ) → names_of l.self.texts.items k ≡ swept_to l.from l.slot l.initial.self.marks.items (names_of l.initial.self.texts.items) k;
    }
