use Rattle.std.specs.Prelude.{◌≡◌, All}
use Rattle.atom_table.specs.Opening.{FreshFrom}
use Rattle.pl_history.specs.Fronts.{new_front}
use Rattle.hub_tests.proofs.soak.begin_all.Given as goal

abbrev pub invariant-loop-i : goal.invariant-loop-i
invariant-loop-i g l = record {
  seats : FreshFrom l.table.words 1 l.seats.items;
  fronts : All (λ f. f ≡ new_front l.history) l.fronts.items;
}
