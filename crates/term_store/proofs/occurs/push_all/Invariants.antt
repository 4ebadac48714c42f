use Rattle.std.proofs.Common.{◌≡◌, ◌++◌, ◌+◌, ◌≤◌, take, drop, vec_capacity, vec_len}
use Rattle.term_store.proofs.occurs.push_all.Given as goal

abbrev pub invariant-loop-i : goal.invariant-loop-i
invariant-loop-i l =
    record {
      pushed : l.walk.items ≡ l.fn.walk.items ++ take l.i (drop l.start l.cells.args.items);
      room : vec_len l.walk + l.count ≤ vec_capacity l.walk + l.i;
    }
