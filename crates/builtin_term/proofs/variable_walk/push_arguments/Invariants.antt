use Rattle.std.proofs.Common.{◌≤◌, drop}
use Rattle.std.specs.List.{All}
use Rattle.term_store.specs.Contents.{Holds, arguments_at}
use Rattle.builtin_term.specs.VariableWalks.{Gains}
use Rattle.builtin_term.proofs.variable_walk.push_arguments.Given as goal

abbrev pub invariant-loop-i : goal.invariant-loop-i
invariant-loop-i l =
    record {
      within : l.i ≤ l.fn.arguments.count;
      inside : All (Holds l.store) l.walk.items;
      gains : Gains l.store (drop l.i (arguments_at l.store l.fn.arguments)) l.initial.walk.items l.walk.items;
    }

abbrev pub decreases-loop-i : goal.decreases-loop-i
decreases-loop-i l = l.i
