use Rattle.std.proofs.Common.{◌≡◌}
use Rattle.atom_collector.proofs.collecting.TableCollector.grow_first.Given as goal

abbrev pub invariant-loop : goal.invariant-loop
invariant-loop g l = l.self.table.now ≡ l.initial.self.table.now
