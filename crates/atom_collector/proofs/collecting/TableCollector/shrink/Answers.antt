use Rattle.std.specs.Prelude.{◌-◌}
use Rattle.atom_collector.proofs.collecting.TableCollector.shrink.Goals as goal

pub returns-clause-steps : goal.returns-clause-steps
returns-clause-steps g c = (c.args.self.now.collector.rows.row - 1, c.shrink.ensures.steps)
