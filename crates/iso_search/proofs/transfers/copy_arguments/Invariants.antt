use Rattle.std.proofs.Common.{◌≡◌, map, take}
use Rattle.std.specs.List.{All}
use Rattle.term_store.specs.Contents.{Holds, arguments_at, term_at}
use Rattle.iso_search.proofs.transfers.copy_arguments.Given as goal

abbrev pub invariant-loop-i : goal.invariant-loop-i
invariant-loop-i l =
    record { holds : All (Holds l.other) l.words.items; means : map (term_at l.other) l.words.items ≡ take l.i (arguments_at l.store l.arguments) }
