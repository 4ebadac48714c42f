use Rattle.world_builtins.proofs.TakenLaws.{next_taken, top_readable}
use Rattle.world_builtins.proofs.naming.Taking.take.Goals as goal

-- `c.in-Some.ensures.items` says that the places were those that are left and the one on top.

pub first-requires : goal.first-requires
first-requires g c =
    let m = g.A.Atoms.held c.args.atoms.now in
    let h = c.requires.1 in
    let top = top_readable m c.args.store.now c.args.self.now.places.items c.pop.new.self.items c.in-Some.next c.in-Some.ensures.items h.readable in
    record { inside = top.1.0; held = top.1.1; others = top.0; tells = h.tells }

pub returns-clause-taken : goal.returns-clause-taken
returns-clause-taken g c t h =
    let m = g.A.Atoms.held c.args.atoms.now in
    let e = c.in_ok-node.ensures in
    next_taken m c.args.store.now t c.args.self.now _ c.in-Some.next c.pop.new.self.items c.in_ok-node.node h c.in-Some.ensures.items e.first e.named e.others e.tells e.more
    c.in_ok-push.ensures.items
