use Rattle.std.proofs.Common.{◌≤◌, drop, length, map}
use Rattle.term_store.specs.Contents.{term_at}
use Rattle.iso_search.specs.Lists.{IsListed}
use Rattle.iso_search.proofs.lists.make_list.Given as goal

abbrev pub invariant-loop-i : goal.invariant-loop-i
invariant-loop-i l =
    record {
      within : l.i ≤ length l.items;
      list : IsListed l.fn.store (drop l.i (map (term_at l.fn.store) l.items)) l.store l.list;
    }

abbrev pub decreases-loop-i : goal.decreases-loop-i
decreases-loop-i l = l.i
