use Rattle.std.proofs.Common.{sym, subst}
use Rattle.std.proofs.Common.{◌+◌}
use Rattle.term_store.specs.Contents.{term_at}
use Rattle.iso_search.specs.declared.search.Search.{Search}
use Rattle.iso_engine.specs.Clearing.{IsClearDone}
use Rattle.iso_engine.specs.Views.{view_of}
use Rattle.iso_engine.specs.declared.state.clearing.Cleared.{Cleared}
use Rattle.iso_engine.proofs.Asking.{goal_over, visit_held}
use Rattle.iso_engine.proofs.ClearAsked.{clear_done, clear_gains, clear_reply, clear_waits}
use Rattle.iso_engine.proofs.ClearGoals.{clear_held, not_integer}
use Rattle.iso_engine.proofs.LookGoals.{held_numbered}
use Rattle.iso_engine.proofs.Solutions.{view_is}
use Rattle.iso_engine.proofs.state.clearing.ask_for_clauses.Goals as goal

pub predicate_at-procedure-requires-clause-callable : goal.predicate_at-procedure-requires-clause-callable
predicate_at-procedure-requires-clause-callable g c i is =
    let e = c.args.search.now in
    let a = c.args.atoms.now in
    let m = g.W.A.Atoms.held a in
    let t = g.W.World.told c.args.world.now in
    let view = view_is m t (g.met.W.A.Atoms.fixed_held a) (g.met.W.A.Atoms.unlike a) (g.met.W.A.Atoms.finite a) in
    not_integer (view_of m t) e.store c.args.head (c.requires.allowed (view_of m t) view (λ k y h. h)) i is

pub visit-requires-clause-held : goal.visit-requires-clause-held
visit-requires-clause-held g c =
    let e = c.args.search.now in
    let a = c.args.atoms.now in
    let m = g.W.A.Atoms.held a in
    let w = c.args.head in
    visit_held m (term_at e.store w) c.predicate_at-procedure.result c.key_at-first.result (g.met.W.A.Atoms.fixed_held a) c.predicate_at-procedure.ensures c.key_at-first.ensures
    (held_numbered e.store m w (clear_held m e.store c.args.goal w c.requires.goal c.requires.held))

pub unreachable-requires : goal.unreachable-requires
unreachable-requires g c =
    let e = c.args.search.now in
    let a = c.args.atoms.now in
    let b = c.visit.new.atoms in
    let m = g.W.A.Atoms.held a in
    let n = g.W.A.Atoms.held b in
    let t = g.W.World.told c.args.world.now in
    let u = g.W.World.told c.visit.new.self in
    let w = c.args.head in
    let at = c.requires.goal in
    let over = goal_over e.store c.mark-mark.result w c.mark-mark.ensures.mark c.mark-mark.ensures.here at.inside in
    let held = held_numbered e.store m w (clear_held m e.store c.args.goal w at c.requires.held) in
    let v = c.in-Waits.ensures.visited in
    clear_waits m n t u e c.args.goal w c.args.rest at c.requires.count c.in-Waits.ensures.holds (g.met.W.A.Atoms.fixed_held a) (g.met.W.A.Atoms.fixed_held b) over held c.requires.allowed
    c.predicate_at-procedure.result c.key_at-first.result c.predicate_at-procedure.ensures c.key_at-first.ensures
    c.in-Waits.on c.in-Waits.generation v.0 v.1.1

pub cleared_by-requires : goal.cleared_by-requires
cleared_by-requires g c =
    let e = c.args.search.now in
    let a = c.args.atoms.now in
    let b = c.visit.new.atoms in
    let m = g.W.A.Atoms.held a in
    let n = g.W.A.Atoms.held b in
    let t = g.W.World.told c.args.world.now in
    let u = g.W.World.told c.visit.new.self in
    let w = c.args.head in
    let at = c.requires.goal in
    let over = goal_over e.store c.mark-mark.result w c.mark-mark.ensures.mark c.mark-mark.ensures.here at.inside in
    let held = held_numbered e.store m w (clear_held m e.store c.args.goal w at c.requires.held) in
    let view = view_is n u (g.met.W.A.Atoms.fixed_held b) (g.met.W.A.Atoms.unlike b) (g.met.W.A.Atoms.finite b) in
    let v = c.in-Served.ensures.visited in
    clear_reply m n t u e c.args.goal w c.args.rest at c.requires.count c.in-Served.ensures.holds (g.met.W.A.Atoms.fixed_held a) (g.met.W.A.Atoms.fixed_held b) over held c.requires.allowed
    c.predicate_at-procedure.result c.key_at-first.result c.predicate_at-procedure.ensures c.key_at-first.ensures
    c.in-Served.reply c.in-Served.generation v.0 v.1.0 v.1.1 c.in-Served.ensures.names view

pub returns-in-Served-clause-cleared : goal.returns-in-Served-clause-cleared
returns-in-Served-clause-cleared g c =
    let e = c.args.search.now in
    let a = c.args.atoms.now in
    let b = c.visit.new.atoms in
    let m = g.W.A.Atoms.held a in
    let n = g.W.A.Atoms.held b in
    let t = g.W.World.told c.args.world.now in
    let u = g.W.World.told c.visit.new.self in
    let w = c.args.head in
    let at = c.requires.goal in
    let over = goal_over e.store c.mark-mark.result w c.mark-mark.ensures.mark c.mark-mark.ensures.here at.inside in
    let held = held_numbered e.store m w (clear_held m e.store c.args.goal w at c.requires.held) in
    let view = view_is n u (g.met.W.A.Atoms.fixed_held b) (g.met.W.A.Atoms.unlike b) (g.met.W.A.Atoms.finite b) in
    let v = c.in-Served.ensures.visited in
    let d : Search = record e { inferences = e.inferences + 1 } in
    subst (λ (x : Cleared). IsClearDone t e c.args.goal w c.args.rest n u d x) (sym c.cleared_by.ensures)
    (clear_done m n t u e c.args.goal w c.args.rest at c.requires.count c.in-Served.ensures.holds (g.met.W.A.Atoms.fixed_held a) (g.met.W.A.Atoms.fixed_held b) over held c.requires.allowed
    c.predicate_at-procedure.result c.key_at-first.result c.predicate_at-procedure.ensures c.key_at-first.ensures
    c.in-Served.reply c.in-Served.generation v.0 v.1.0 v.1.1 c.in-Served.ensures.names view)

pub returns-in-Served-clause-asks : goal.returns-in-Served-clause-asks
returns-in-Served-clause-asks g c =
    let e = c.args.search.now in
    let a = c.args.atoms.now in
    let b = c.visit.new.atoms in
    let m = g.W.A.Atoms.held a in
    let n = g.W.A.Atoms.held b in
    let t = g.W.World.told c.args.world.now in
    let u = g.W.World.told c.visit.new.self in
    let w = c.args.head in
    let at = c.requires.goal in
    let over = goal_over e.store c.mark-mark.result w c.mark-mark.ensures.mark c.mark-mark.ensures.here at.inside in
    let held = held_numbered e.store m w (clear_held m e.store c.args.goal w at c.requires.held) in
    clear_gains m n t u e c.args.goal w c.args.rest at c.requires.count c.in-Served.ensures.holds (g.met.W.A.Atoms.fixed_held a) (g.met.W.A.Atoms.fixed_held b) over held c.requires.allowed
    c.predicate_at-procedure.result c.key_at-first.result c.predicate_at-procedure.ensures c.key_at-first.ensures
    (g.W.A.Atoms.asked a) (g.W.A.Atoms.asked b) c.in-Served.ensures.asked

pub returns-in-NeedsAtoms-clause-asks : goal.returns-in-NeedsAtoms-clause-asks
returns-in-NeedsAtoms-clause-asks g c =
    let e = c.args.search.now in
    let a = c.args.atoms.now in
    let b = c.visit.new.atoms in
    let m = g.W.A.Atoms.held a in
    let n = g.W.A.Atoms.held b in
    let t = g.W.World.told c.args.world.now in
    let u = g.W.World.told c.visit.new.self in
    let w = c.args.head in
    let at = c.requires.goal in
    let over = goal_over e.store c.mark-mark.result w c.mark-mark.ensures.mark c.mark-mark.ensures.here at.inside in
    let held = held_numbered e.store m w (clear_held m e.store c.args.goal w at c.requires.held) in
    clear_gains m n t u e c.args.goal w c.args.rest at c.requires.count c.in-NeedsAtoms.ensures.holds (g.met.W.A.Atoms.fixed_held a) (g.met.W.A.Atoms.fixed_held b) over held c.requires.allowed
    c.predicate_at-procedure.result c.key_at-first.result c.predicate_at-procedure.ensures c.key_at-first.ensures
    (g.W.A.Atoms.asked a) (g.W.A.Atoms.asked b) c.in-NeedsAtoms.ensures.asked

pub returns-in-Retry-clause-asks : goal.returns-in-Retry-clause-asks
returns-in-Retry-clause-asks g c =
    let e = c.args.search.now in
    let a = c.args.atoms.now in
    let b = c.visit.new.atoms in
    let m = g.W.A.Atoms.held a in
    let n = g.W.A.Atoms.held b in
    let t = g.W.World.told c.args.world.now in
    let u = g.W.World.told c.visit.new.self in
    let w = c.args.head in
    let at = c.requires.goal in
    let over = goal_over e.store c.mark-mark.result w c.mark-mark.ensures.mark c.mark-mark.ensures.here at.inside in
    let held = held_numbered e.store m w (clear_held m e.store c.args.goal w at c.requires.held) in
    clear_gains m n t u e c.args.goal w c.args.rest at c.requires.count c.in-Retry.ensures.holds (g.met.W.A.Atoms.fixed_held a) (g.met.W.A.Atoms.fixed_held b) over held c.requires.allowed
    c.predicate_at-procedure.result c.key_at-first.result c.predicate_at-procedure.ensures c.key_at-first.ensures
    (g.W.A.Atoms.asked a) (g.W.A.Atoms.asked b) c.in-Retry.ensures.asked

pub returns-in-Worn-clause-asks : goal.returns-in-Worn-clause-asks
returns-in-Worn-clause-asks g c =
    let e = c.args.search.now in
    let a = c.args.atoms.now in
    let b = c.visit.new.atoms in
    let m = g.W.A.Atoms.held a in
    let n = g.W.A.Atoms.held b in
    let t = g.W.World.told c.args.world.now in
    let u = g.W.World.told c.visit.new.self in
    let w = c.args.head in
    let at = c.requires.goal in
    let over = goal_over e.store c.mark-mark.result w c.mark-mark.ensures.mark c.mark-mark.ensures.here at.inside in
    let held = held_numbered e.store m w (clear_held m e.store c.args.goal w at c.requires.held) in
    clear_gains m n t u e c.args.goal w c.args.rest at c.requires.count c.in-Worn.ensures.holds (g.met.W.A.Atoms.fixed_held a) (g.met.W.A.Atoms.fixed_held b) over held c.requires.allowed
    c.predicate_at-procedure.result c.key_at-first.result c.predicate_at-procedure.ensures c.key_at-first.ensures
    (g.W.A.Atoms.asked a) (g.W.A.Atoms.asked b) c.in-Worn.ensures.asked

pub returns-in-Memory-clause-asks : goal.returns-in-Memory-clause-asks
returns-in-Memory-clause-asks g c =
    let e = c.args.search.now in
    let a = c.args.atoms.now in
    let b = c.visit.new.atoms in
    let m = g.W.A.Atoms.held a in
    let n = g.W.A.Atoms.held b in
    let t = g.W.World.told c.args.world.now in
    let u = g.W.World.told c.visit.new.self in
    let w = c.args.head in
    let at = c.requires.goal in
    let over = goal_over e.store c.mark-mark.result w c.mark-mark.ensures.mark c.mark-mark.ensures.here at.inside in
    let held = held_numbered e.store m w (clear_held m e.store c.args.goal w at c.requires.held) in
    clear_gains m n t u e c.args.goal w c.args.rest at c.requires.count c.in-Memory.ensures.holds (g.met.W.A.Atoms.fixed_held a) (g.met.W.A.Atoms.fixed_held b) over held c.requires.allowed
    c.predicate_at-procedure.result c.key_at-first.result c.predicate_at-procedure.ensures c.key_at-first.ensures
    (g.W.A.Atoms.asked a) (g.W.A.Atoms.asked b) c.in-Memory.ensures.asked
