use Rattle.term_store.specs.Contents.{term_at}
use Rattle.term_store.specs.NumberedNames.{term_by}
use Rattle.world_api.specs.Texts.{text_of}
use Rattle.iso_engine.specs.Views.{view_of}
use Rattle.iso_engine.proofs.Asking.{goal_over, list_allowed, list_named, list_or_error, list_served, list_waits, visit_held}
use Rattle.iso_engine.proofs.ClauseGains.{list_gains}
use Rattle.iso_engine.proofs.FollowedReplies.{looked_is}
use Rattle.iso_engine.proofs.Purposes.{listed_held, listed_reads}
use Rattle.iso_engine.proofs.Solutions.{view_is}
use Rattle.iso_engine.proofs.call.calls.visit_first.Goals as goal

pub visit-requires-clause-held : goal.visit-requires-clause-held
visit-requires-clause-held g c =
    let m = g.W.A.Atoms.held c.args.atoms.now in
    let e = c.args.search.now in
    let over = goal_over e.store c.mark-mark.result c.args.goal c.mark-mark.ensures.mark c.mark-mark.ensures.here c.requires.goal in
    let at = c.args.listed in
    list_named c.args.purpose m c.args.request.procedure c.args.request.first c.visit_for-visit.result c.visit_for-visit.ensures
    (visit_held m (term_at e.store at) c.args.request.procedure c.args.request.first
    (g.met.W.A.Atoms.fixed_held c.args.atoms.now) c.requires.request.0 c.requires.request.1
    (listed_held c.args.purpose e.store c.args.goal at over c.requires.stands m c.requires.held))

pub visit-requires-clause-next : goal.visit-requires-clause-next
visit-requires-clause-next g c =
    list_allowed (text_of (g.W.A.Atoms.held c.args.atoms.now)) (g.W.World.told c.args.world.now) c.args.purpose c.args.request.procedure c.args.request.first
    c.visit_for-visit.result c.visit_for-visit.ensures

pub follow_reply-requires-clause-reply : goal.follow_reply-requires-clause-reply
follow_reply-requires-clause-reply g c =
    let m = g.W.A.Atoms.held c.args.atoms.now in
    let n = g.W.A.Atoms.held c.visit.new.atoms in
    let x = term_at c.args.search.now.store c.args.listed in
    let v = c.in-Served.ensures.visited in
    let t = g.W.World.told c.args.world.now in
    let u = g.W.World.told c.visit.new.self in
    list_or_error c.args.purpose t v.0 n (term_by (text_of m) x) c.in-Served.reply
    (list_served c.args.purpose m n t u v.0 x c.args.request.procedure c.args.request.first c.visit_for-visit.result c.in-Served.reply c.in-Served.generation
    c.visit_for-visit.ensures (g.met.W.A.Atoms.fixed_held c.args.atoms.now) c.requires.request.0 c.requires.request.1 v.1.0 v.1.1).reply

pub unreachable-requires : goal.unreachable-requires
unreachable-requires g c =
    let m = g.W.A.Atoms.held c.args.atoms.now in
    let v = c.in-Waits.ensures.visited in
    list_waits c.args.purpose m (g.W.A.Atoms.held c.visit.new.atoms) (g.W.World.told c.args.world.now) (g.W.World.told c.visit.new.self) v.0
    (term_at c.args.search.now.store c.args.listed) c.args.request.procedure c.args.request.first c.visit_for-visit.result c.in-Waits.on c.in-Waits.generation
    c.visit_for-visit.ensures (g.met.W.A.Atoms.fixed_held c.args.atoms.now) c.requires.request.0 c.requires.request.1 v.1.1

pub returns-in_ok-called-in-Served-clause-called : goal.returns-in_ok-called-in-Served-clause-called
returns-in_ok-called-in-Served-clause-called g c =
    let m = g.W.A.Atoms.held c.args.atoms.now in
    let n = g.W.A.Atoms.held c.visit.new.atoms in
    let e = c.args.search.now in
    let at = c.args.listed in
    let is = c.requires.stands in
    let x = term_at e.store at in
    let v = c.in-Served.ensures.visited in
    let t = g.W.World.told c.args.world.now in
    let u = g.W.World.told c.visit.new.self in
    let over = goal_over e.store c.mark-mark.result c.args.goal c.mark-mark.ensures.mark c.mark-mark.ensures.here c.requires.goal in
    looked_is m n t u v.0 e c.follow_reply.new.search at (g.met.W.A.Atoms.fixed_held c.args.atoms.now) (g.met.W.A.Atoms.fixed_held c.visit.new.atoms)
    c.in-Served.ensures.holds (goal_over e.store c.mark-mark.result at c.mark-mark.ensures.mark c.mark-mark.ensures.here c.requires.listed)
    (listed_held c.args.purpose e.store c.args.goal at over is m c.requires.held)
    c.args.purpose c.args.goal (listed_reads c.args.purpose e.store c.args.goal at over is)
    c.args.rest c.in-Served.generation c.requires.count c.in-Served.reply c.in_ok-called-in-Served.called
    (list_served c.args.purpose m n t u v.0 x c.args.request.procedure c.args.request.first c.visit_for-visit.result c.in-Served.reply c.in-Served.generation
    c.visit_for-visit.ensures (g.met.W.A.Atoms.fixed_held c.args.atoms.now) c.requires.request.0 c.requires.request.1 v.1.0 v.1.1)
    c.in-Served.ensures.names c.in_ok-called-in-Served.ensures.followed

pub returns-in_err-called-in-Served-clause-asked : goal.returns-in_err-called-in-Served-clause-asked
returns-in_err-called-in-Served-clause-asked g c =
    let a = c.args.atoms.now in
    let m = g.W.A.Atoms.held a in
    let t = g.W.World.told c.args.world.now in
    let e = c.args.search.now in
    let at = c.args.listed in
    let over = goal_over e.store c.mark-mark.result c.args.goal c.mark-mark.ensures.mark c.mark-mark.ensures.here c.requires.goal in
    list_gains m t e at c.args.request.procedure c.args.request.first (g.met.W.A.Atoms.fixed_held a)
    (goal_over e.store c.mark-mark.result at c.mark-mark.ensures.mark c.mark-mark.ensures.here c.requires.listed)
    c.requires.request.0 c.requires.request.1 (g.W.A.Atoms.asked a) (g.W.A.Atoms.asked c.visit.new.atoms)
    c.args.purpose c.args.goal (listed_reads c.args.purpose e.store c.args.goal at over c.requires.stands (view_of m t) (view_is m t (g.met.W.A.Atoms.fixed_held a) (g.met.W.A.Atoms.unlike a) (g.met.W.A.Atoms.finite a)))
    c.visit_for-visit.result c.visit_for-visit.ensures c.requires.count c.in-Served.ensures.asked

pub returns-in_ok-called-in-Served-clause-asked : goal.returns-in_ok-called-in-Served-clause-asked
returns-in_ok-called-in-Served-clause-asked g c =
    let a = c.args.atoms.now in
    let m = g.W.A.Atoms.held a in
    let t = g.W.World.told c.args.world.now in
    let e = c.args.search.now in
    let at = c.args.listed in
    let over = goal_over e.store c.mark-mark.result c.args.goal c.mark-mark.ensures.mark c.mark-mark.ensures.here c.requires.goal in
    list_gains m t e at c.args.request.procedure c.args.request.first (g.met.W.A.Atoms.fixed_held a)
    (goal_over e.store c.mark-mark.result at c.mark-mark.ensures.mark c.mark-mark.ensures.here c.requires.listed)
    c.requires.request.0 c.requires.request.1 (g.W.A.Atoms.asked a) (g.W.A.Atoms.asked c.visit.new.atoms)
    c.args.purpose c.args.goal (listed_reads c.args.purpose e.store c.args.goal at over c.requires.stands (view_of m t) (view_is m t (g.met.W.A.Atoms.fixed_held a) (g.met.W.A.Atoms.unlike a) (g.met.W.A.Atoms.finite a)))
    c.visit_for-visit.result c.visit_for-visit.ensures c.requires.count c.in-Served.ensures.asked

pub returns-in-NeedsAtoms-clause-asked : goal.returns-in-NeedsAtoms-clause-asked
returns-in-NeedsAtoms-clause-asked g c =
    let a = c.args.atoms.now in
    let m = g.W.A.Atoms.held a in
    let t = g.W.World.told c.args.world.now in
    let e = c.args.search.now in
    let at = c.args.listed in
    let over = goal_over e.store c.mark-mark.result c.args.goal c.mark-mark.ensures.mark c.mark-mark.ensures.here c.requires.goal in
    list_gains m t e at c.args.request.procedure c.args.request.first (g.met.W.A.Atoms.fixed_held a)
    (goal_over e.store c.mark-mark.result at c.mark-mark.ensures.mark c.mark-mark.ensures.here c.requires.listed)
    c.requires.request.0 c.requires.request.1 (g.W.A.Atoms.asked a) (g.W.A.Atoms.asked c.visit.new.atoms)
    c.args.purpose c.args.goal (listed_reads c.args.purpose e.store c.args.goal at over c.requires.stands (view_of m t) (view_is m t (g.met.W.A.Atoms.fixed_held a) (g.met.W.A.Atoms.unlike a) (g.met.W.A.Atoms.finite a)))
    c.visit_for-visit.result c.visit_for-visit.ensures c.requires.count c.in-NeedsAtoms.ensures.asked

pub returns-in-Retry-clause-asked : goal.returns-in-Retry-clause-asked
returns-in-Retry-clause-asked g c =
    let a = c.args.atoms.now in
    let m = g.W.A.Atoms.held a in
    let t = g.W.World.told c.args.world.now in
    let e = c.args.search.now in
    let at = c.args.listed in
    let over = goal_over e.store c.mark-mark.result c.args.goal c.mark-mark.ensures.mark c.mark-mark.ensures.here c.requires.goal in
    list_gains m t e at c.args.request.procedure c.args.request.first (g.met.W.A.Atoms.fixed_held a)
    (goal_over e.store c.mark-mark.result at c.mark-mark.ensures.mark c.mark-mark.ensures.here c.requires.listed)
    c.requires.request.0 c.requires.request.1 (g.W.A.Atoms.asked a) (g.W.A.Atoms.asked c.visit.new.atoms)
    c.args.purpose c.args.goal (listed_reads c.args.purpose e.store c.args.goal at over c.requires.stands (view_of m t) (view_is m t (g.met.W.A.Atoms.fixed_held a) (g.met.W.A.Atoms.unlike a) (g.met.W.A.Atoms.finite a)))
    c.visit_for-visit.result c.visit_for-visit.ensures c.requires.count c.in-Retry.ensures.asked

pub returns-in-Worn-clause-asked : goal.returns-in-Worn-clause-asked
returns-in-Worn-clause-asked g c =
    let a = c.args.atoms.now in
    let m = g.W.A.Atoms.held a in
    let t = g.W.World.told c.args.world.now in
    let e = c.args.search.now in
    let at = c.args.listed in
    let over = goal_over e.store c.mark-mark.result c.args.goal c.mark-mark.ensures.mark c.mark-mark.ensures.here c.requires.goal in
    list_gains m t e at c.args.request.procedure c.args.request.first (g.met.W.A.Atoms.fixed_held a)
    (goal_over e.store c.mark-mark.result at c.mark-mark.ensures.mark c.mark-mark.ensures.here c.requires.listed)
    c.requires.request.0 c.requires.request.1 (g.W.A.Atoms.asked a) (g.W.A.Atoms.asked c.visit.new.atoms)
    c.args.purpose c.args.goal (listed_reads c.args.purpose e.store c.args.goal at over c.requires.stands (view_of m t) (view_is m t (g.met.W.A.Atoms.fixed_held a) (g.met.W.A.Atoms.unlike a) (g.met.W.A.Atoms.finite a)))
    c.visit_for-visit.result c.visit_for-visit.ensures c.requires.count c.in-Worn.ensures.asked

pub returns-in-Memory-clause-asked : goal.returns-in-Memory-clause-asked
returns-in-Memory-clause-asked g c =
    let a = c.args.atoms.now in
    let m = g.W.A.Atoms.held a in
    let t = g.W.World.told c.args.world.now in
    let e = c.args.search.now in
    let at = c.args.listed in
    let over = goal_over e.store c.mark-mark.result c.args.goal c.mark-mark.ensures.mark c.mark-mark.ensures.here c.requires.goal in
    list_gains m t e at c.args.request.procedure c.args.request.first (g.met.W.A.Atoms.fixed_held a)
    (goal_over e.store c.mark-mark.result at c.mark-mark.ensures.mark c.mark-mark.ensures.here c.requires.listed)
    c.requires.request.0 c.requires.request.1 (g.W.A.Atoms.asked a) (g.W.A.Atoms.asked c.visit.new.atoms)
    c.args.purpose c.args.goal (listed_reads c.args.purpose e.store c.args.goal at over c.requires.stands (view_of m t) (view_is m t (g.met.W.A.Atoms.fixed_held a) (g.met.W.A.Atoms.unlike a) (g.met.W.A.Atoms.finite a)))
    c.visit_for-visit.result c.visit_for-visit.ensures c.requires.count c.in-Memory.ensures.asked
