use Rattle.std.proofs.Common.{◌≡◌, map}
use Rattle.std.specs.List.{All}
use Rattle.pl_term.specs.Tree.{var}
use Rattle.pl_term.specs.Variables.{variables}
use Rattle.term_store.specs.Contents.{Holds, term_at}
use Rattle.builtin_term.specs.VariableWalks.{IsWalked, met_after, occurrences_in, pending}
use Rattle.builtin_term.proofs.variable_walk.variables_at.Given as goal

abbrev pub invariant-loop : goal.invariant-loop
invariant-loop l =
    record {
      inside : All (Holds l.store) l.walk.places.items;
      places : All (Holds l.store) l.met.items;
      stand : map (term_at l.store) l.met.items ≡ map var l.seen;
      rest : met_after l.seen (occurrences_in (pending l.store l.walk.places.items)) ≡ variables (term_at l.store l.fn.term);
      walked : IsWalked l.store l.seen l.walk.places.items l.walk;
    }
