use Rattle.std.proofs.Common.{map}
use Rattle.std.specs.List.{All}
use Rattle.pl_term.specs.Tree.{trees}
use Rattle.pl_model.specs.Terms.{arguments}
use Rattle.term_store.specs.Contents.{Adds, Holds, SameSize, term_at}
use Rattle.iso_engine.proofs.Paired.{AreBegun}
use Rattle.iso_engine.proofs.rows.arguments.unify_arguments.Given as goal

abbrev pub invariant-loop-i : goal.invariant-loop-i
invariant-loop-i l =
    record {
      term : Holds l.store l.term;
      places : All (Holds l.store) l.places;
      adds : Adds l.initial.store l.store;
      size : SameSize l.initial.store l.store;
      begun :
          AreBegun l.i l.initial.store (arguments (term_at l.initial.store l.term)) (trees (map (term_at l.initial.store) l.places)) l.store;
    }
