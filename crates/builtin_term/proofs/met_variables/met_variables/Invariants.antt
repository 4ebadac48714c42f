use Rattle.std.proofs.Common.{◌≡◌, map, take}
use Rattle.std.specs.List.{All}
use Rattle.builtin_term.specs.TermWalks.{IsMet}
use Rattle.builtin_term.proofs.met_variables.met_variables.Given as goal

abbrev pub invariant-loop-i : goal.invariant-loop-i
invariant-loop-i l =
    record {
      met : All (IsMet l.store) l.met.items;
      places : map (λ e. e.place) l.met.items ≡ take l.i l.places.items;
    }
