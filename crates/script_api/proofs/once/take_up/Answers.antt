use Rattle.std.proofs.Common.{refl, sym, subst}
use Rattle.pl_model.specs.Requests.{look}
use Rattle.world_api.specs.Texts.{text_of}
use Rattle.script_api.specs.declared.once.Stage.{Stage}
use Rattle.script_api.specs.declared.script.Next.{Next}
use Rattle.script_api.specs.OnceGiven.{TakenUp}
use Rattle.world_api.proofs.AskedLaws.{look_asks_nothing}
use Rattle.script_api.proofs.LaterLaws.{later_by, later_same}
use Rattle.script_api.proofs.OnceLaws.{look_serves, looked_of}
use Rattle.script_api.proofs.once.take_up.Goals.{in-Served, in-NeedsAtoms, in-Retry, in-Worn, in-Memory}
use Rattle.script_api.proofs.once.take_up.Goals as goal

pub unreachable-requires : goal.unreachable-requires
unreachable-requires g c =
    let v = c.in-Waits.ensures.visited in look_serves _ _ v.0 (v.1.1.waiting look refl)

pub returns-clause-taken : goal.returns-clause-taken
returns-clause-taken g c =
    elim c.match-visit.branch [
      | in-Served w ↦
          subst
          (λ (r : Stage g.row.T.Denot × Next g.row.T.Denot). TakenUp c.args.goal (g.W.World.told c.args.world.now) r.1 r.0 (g.W.World.told c.visit.new.self))
          (sym w.result-is) (
            refl,
            refl,
            refl,
            looked_of
                g.T.Kept.term
                g.T.Kept.key_of
                (text_of (g.W.A.Atoms.held c.args.atoms.now))
                (text_of (g.W.A.Atoms.held c.visit.new.atoms))
                w.in-Served.reply
                w.in-Served.generation
                (g.W.World.told c.args.world.now)
                w.in-Served.ensures.visited.0
                (g.W.World.told c.visit.new.self)
                w.in-Served.ensures.visited.1,
          )
      | in-NeedsAtoms w ↦
          subst
          (λ (r : Stage g.row.T.Denot × Next g.row.T.Denot). TakenUp c.args.goal (g.W.World.told c.args.world.now) r.1 r.0 (g.W.World.told c.visit.new.self))
          (sym w.result-is)
          (refl, w.in-NeedsAtoms.ensures.visited.1)
      | in-Retry w ↦
          subst
          (λ (r : Stage g.row.T.Denot × Next g.row.T.Denot). TakenUp c.args.goal (g.W.World.told c.args.world.now) r.1 r.0 (g.W.World.told c.visit.new.self))
          (sym w.result-is)
          (refl, w.in-Retry.ensures.visited.1)
      | in-Worn w ↦
          subst
          (λ (r : Stage g.row.T.Denot × Next g.row.T.Denot). TakenUp c.args.goal (g.W.World.told c.args.world.now) r.1 r.0 (g.W.World.told c.visit.new.self))
          (sym w.result-is)
          (refl, w.in-Worn.ensures.visited.1)
      | in-Memory w ↦
          subst
          (λ (r : Stage g.row.T.Denot × Next g.row.T.Denot). TakenUp c.args.goal (g.W.World.told c.args.world.now) r.1 r.0 (g.W.World.told c.visit.new.self))
          (sym w.result-is)
          (refl, w.in-Memory.ensures.visited.1)
    ]

pub returns-clause-told : goal.returns-clause-told
returns-clause-told g c =
    elim c.match-visit.branch [
      | in-Served w ↦
          let v = w.in-Served.ensures.visited
          in later_by (g.W.World.told c.args.world.now) (g.W.World.told c.visit.new.self) v.0 v.1.1.update _ v.1.0 v.1.1.told
      | in-NeedsAtoms w ↦ later_same (g.W.World.told c.args.world.now) (g.W.World.told c.visit.new.self) w.in-NeedsAtoms.ensures.visited.1
      | in-Retry w ↦ later_same (g.W.World.told c.args.world.now) (g.W.World.told c.visit.new.self) w.in-Retry.ensures.visited.1
      | in-Worn w ↦ later_same (g.W.World.told c.args.world.now) (g.W.World.told c.visit.new.self) w.in-Worn.ensures.visited.1
      | in-Memory w ↦ later_same (g.W.World.told c.args.world.now) (g.W.World.told c.visit.new.self) w.in-Memory.ensures.visited.1
    ]

pub returns-clause-asked : goal.returns-clause-asked
returns-clause-asked g c =
    look_asks_nothing g.T.Kept.term g.T.Kept.key_of (text_of (g.W.A.Atoms.held c.args.atoms.now)) (g.W.World.told c.args.world.now)
    (g.W.A.Atoms.asked c.args.atoms.now) (g.W.A.Atoms.asked c.visit.new.atoms) c.visit.ensures.asked
