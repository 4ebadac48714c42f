use Rattle.pl_sched.proofs.LedgerLaws.{begun_or}
use Rattle.pl_sched.proofs.OnlyLaws.{only_or}
use Rattle.pl_sched.proofs.hub.Hub.end.Goals as goal

pub invariant_of-self : goal.invariant_of-self
invariant_of-self g c =
    let how = g.W.ShowsHow.how c.args.how.now in
    let count = g.S.ShowsSteps.steps c.args.run.now in (
      begun_or c.end.result g.K.Naming.goals c.args.engine how count c.args.front.now c.end.new.front c.self.inside.shared c.end.new.self c.self.inside.started.items c.end.ensures.ended c.end.ensures.refused c.self.invariant.0,
      only_or c.end.result g.K.Naming.goals c.args.engine how count c.args.front.now c.end.new.front c.self.inside.shared c.end.new.self c.end.ensures.ended c.end.ensures.refused c.self.invariant.1 c.requires.begun,
    )
