use Rattle.std.proofs.Common.{◌≡◌, ◌≤◌, ◌+◌, ◌++◌, length}
use Rattle.std.specs.Prelude.{vec_len, vec_capacity}
use Rattle.std.specs.Vec.Iter.{into_iter_items}
use Rattle.hub_threads.specs.Held.{contents}
use Rattle.hub_threads.proofs.held.queue.moved.Given as goal

abbrev pub invariant-loop-message : goal.invariant-loop-message
invariant-loop-message g l =
    (goal.iterator-loop-message g).can_next l.message-iterator
    × (goal.iterator-loop-message g).is_finite l.message-iterator
    × (l.all.items ++ contents (into_iter_items l.message-iterator) ≡ contents l.fn.messages.items)
    × (vec_len l.all + length (into_iter_items l.message-iterator) ≤ vec_capacity l.all)
