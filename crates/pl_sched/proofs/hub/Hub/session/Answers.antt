use Rattle.pl_sched.proofs.LedgerLaws.{begun_grows}
use Rattle.pl_sched.proofs.OnlyLaws.{only_visited}
use Rattle.pl_sched.proofs.hub.Hub.session.Goals as goal

pub invariant_of-self : goal.invariant_of-self
invariant_of-self g c = (
  begun_grows c.self.inside.started.items c.args.engine c.self.inside.shared c.session.new.self c.self.invariant.0 c.session.ensures.carried,
  only_visited c.session.result c.args.front.now c.session.new.front c.self.inside.shared c.session.new.self c.session.ensures c.self.invariant.1 c.requires.begun,
)
