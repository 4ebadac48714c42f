use Rattle.std.specs.List.{All}
use Rattle.term_store.specs.Contents.{Holds}
use Rattle.iso_engine.proofs.variables.push_arguments.Given as goal

abbrev pub invariant-loop-i : goal.invariant-loop-i
invariant-loop-i l = All (Holds l.store) l.walk.items
