use Rattle.iso_engine.proofs.Erased.{erased_by_visit, reply_by_visit, visit_waits}
use Rattle.iso_engine.proofs.erasing.visit_erase.Goals as goal

pub unreachable-requires : goal.unreachable-requires
unreachable-requires g c =
    let w = c.in-Waits.ensures.visited in
    visit_waits (g.W.A.Atoms.held c.args.atoms.now) (g.W.A.Atoms.held c.visit.new.atoms) (g.W.World.told c.args.world.now) (g.W.World.told c.visit.new.self)
    c.args.place c.in-Waits.on c.in-Waits.generation w.0 w.1.1

pub returns-in-Served-clause-erased : goal.returns-in-Served-clause-erased
returns-in-Served-clause-erased g c =
    let v = c.in-Served.ensures.visited in
    erased_by_visit (g.W.A.Atoms.held c.args.atoms.now) (g.W.A.Atoms.held c.visit.new.atoms) (g.W.World.told c.args.world.now) (g.W.World.told c.visit.new.self)
    c.args.place c.in-Served.reply c.in-Served.generation v.0 v.1.0 v.1.1

pub returns-in-Served-clause-reply : goal.returns-in-Served-clause-reply
returns-in-Served-clause-reply g c =
    let v = c.in-Served.ensures.visited in
    reply_by_visit (g.W.A.Atoms.held c.args.atoms.now) (g.W.A.Atoms.held c.visit.new.atoms) (g.W.World.told c.args.world.now) (g.W.World.told c.visit.new.self)
    c.args.place c.in-Served.reply c.in-Served.generation v.0 v.1.0 v.1.1
