use Rattle.std.proofs.Common.{◌≡◌, ◌<◌, ℕ, false, get_or, length, take}
use Rattle.std.specs.Prelude.{◌==◌}
use Rattle.std.specs.List.{list_any}
use Rattle.atom_api.proofs.slots.mark.Given as goal

abbrev pub invariant-loop-atom : goal.invariant-loop-atom
invariant-loop-atom l =
    (length l.marks.items ≡ length l.initial.marks.items)
    × ((k : ℕ) → k < length l.initial.marks.items → get_or l.marks.items k false ≡ list_any (λ a. a == k) (take l.atom-index l.live))
