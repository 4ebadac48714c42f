use Rattle.atom_collector.proofs.collecting.TableCollector.go_on.Goals as goal

pub returns-then-ne-clause-steps : goal.returns-then-ne-clause-steps
returns-then-ne-clause-steps g c = (c.args.self.now.collector.rows.aim, c.go_on.ensures.steps)
