use Rattle.std.proofs.Common.{◌≡◌, ◌≤◌, length, take}
use Rattle.term_store.proofs.ground_terms.forget_later.Given as goal

abbrev pub invariant-loop-list : goal.invariant-loop-list
invariant-loop-list l =
    record {
      within : length l.list.items ≤ length l.initial.list.items;
      taken : l.list.items ≡ take (length l.list.items) l.initial.list.items;
    }

abbrev pub decreases-loop-list : goal.decreases-loop-list
decreases-loop-list l = length l.list.items
