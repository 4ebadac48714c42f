use Rattle.term_store.specs.Contents.{Holds}
use Rattle.world_builtins.specs.Naming.{IsHeldAt}
use Rattle.world_builtins.proofs.Followed.{last_part, on_goes, on_wants}
use Rattle.world_builtins.proofs.following.put_first.Goals as goal

pub first_node-requires : goal.first_node-requires
first_node-requires g c =
    let m = g.A.Atoms.held c.args.atoms.now in
    let s = c.args.store.now in
    let r = c.requires.2.readable in
    let inside = last_part (Holds s) c.args.places.now.items c.args.place r.inside in
    let held = last_part (IsHeldAt m s) c.args.places.now.items c.args.place r.held in
    record { inside = inside.1; held = held.1; others = record { inside = inside.0; held = held.0 } }

pub put-requires : goal.put-requires
put-requires g c =
    let m = g.A.Atoms.held c.args.atoms.now in
    on_wants m c.args.store.now c.requires.0 c.requires.1 c.args.place c.args.places.now.items c.first_node.new.places.items c.in_ok-node.node c.args.writing.now
    c.requires.2 c.in_ok-node.ensures.first

pub returns-clause-on : goal.returns-clause-on
returns-clause-on g c t w on =
    let m = g.A.Atoms.held c.args.atoms.now in
    on_goes m c.args.store.now t w c.args.place c.args.places.now.items c.first_node.new.places.items c.in_ok-node.node c.args.writing.now c.put.new.self
    on c.in_ok-node.ensures.first c.in_ok-node.ensures.others c.in_ok-put.ensures
