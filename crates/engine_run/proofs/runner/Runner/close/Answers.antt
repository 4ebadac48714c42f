use Rattle.std.proofs.Common.{refl, ◌∙◌, append-nil, List, ℕ, IsSome, subst}
use Rattle.std.specs.List.{All}
use Rattle.engine_run.proofs.Closing.{is_closed}
use Rattle.engine_run.proofs.Refused.{refused_same}
use Rattle.engine_run.proofs.runner.Runner.close.Goals as goal

pub returns-in-Done-clause-closed : goal.returns-in-Done-clause-closed
returns-in-Done-clause-closed g c =
    is_closed g.S.Script.execution g.S.Script.part g.S.Script.plays g.S.Script.kept g.S.Script.name g.S.Script.variables g.met.S.Script.lines
    (g.W.A.Atoms.held c.args.atoms.now) (g.W.A.Atoms.held c.next-next.new.atoms) (g.W.World.told c.args.world.now) (g.W.World.told c.next-next.new.world)
    c.args.self.now _ c.args.how _ c.in-Done.halted refl c.next-next.ensures.named c.requires.at_hand refl c.in-Done.ensures.last
    (c.in-Done.ensures.variables c.requires.at_hand) c.in-Done.ensures.given

pub returns-in-Done-clause-ready : goal.returns-in-Done-clause-ready
returns-in-Done-clause-ready g c =
    let n = g.W.A.Atoms.held c.next-next.new.atoms in
    record {
      stage = tt;
      held = subst (λ (l : List ℕ). All (λ a. IsSome (n a)) l) (append-nil (g.S.Script.names c.next-next.new.self)) c.in-Done.ensures.held;
      done_is = c.in-Done.ensures.over;
    }

pub returns-in-Done-clause-refusals : goal.returns-in-Done-clause-refusals
returns-in-Done-clause-refusals g c =
    refused_same (g.W.A.Atoms.refusals c.args.atoms.now) (g.W.A.Atoms.refusals c.next-next.new.atoms)
    (c.in-Done.ensures.refusals ∙ append-nil (g.W.A.Atoms.refusals c.args.atoms.now))
