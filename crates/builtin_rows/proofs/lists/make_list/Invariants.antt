use Rattle.std.proofs.Common.{◌≡◌, ◌≤◌, length, map, drop, zero}
use Rattle.term_store.specs.Contents.{Holds, term_at}
use Rattle.builtin_rows.specs.Rows.{Makes}
use Rattle.builtin_rows.specs.Lists.{cells_of}
use Rattle.builtin_rows.proofs.lists.make_list.Given as goal

abbrev pub invariant-loop-i : goal.invariant-loop-i
invariant-loop-i l =
    record {
      within : l.i ≤ length l.items;
      makes : Makes l.fn.store zero zero zero l.store;
      inside : Holds l.store l.tail;
      means : term_at l.store l.tail ≡ cells_of (map (term_at l.fn.store) (drop l.i l.items));
    }

abbrev pub decreases-loop-i : goal.decreases-loop-i
decreases-loop-i l = l.i
