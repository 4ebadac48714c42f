use Rattle.std.specs.Prelude.{◌+◌}
use Rattle.atom_collector.proofs.collecting.TableCollector.resize.Goals as goal

pub returns-in-Grow-clause-steps : goal.returns-in-Grow-clause-steps
returns-in-Grow-clause-steps g c = (c.args.self.now.collector.rows.row + 1, c.grow.ensures.steps)
