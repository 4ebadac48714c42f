use Rattle.std.proofs.Common.{◌≡◌, ◌<◌, ◌++◌, drop, length, map}
use Rattle.std.specs.List.{All}
use Rattle.term_store.specs.Contents.{Holds, arguments_at, term_at}
use Rattle.iso_search.proofs.extending.push_arguments.Given as goal

abbrev pub invariant-loop-i : goal.invariant-loop-i
invariant-loop-i l =
    record {
      inside : All (Holds l.store) l.places.items;
      pushed :
          map (term_at l.store) l.places.items ++ drop l.i (arguments_at l.store l.fn.arguments)
          ≡ map (term_at l.store) l.initial.places.items ++ drop l.fn.from (arguments_at l.store l.fn.arguments);
      some : l.fn.from < l.i → 0 < length l.places.items;
    }
