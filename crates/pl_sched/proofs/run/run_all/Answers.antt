use Rattle.pl_sched.proofs.LedgerLaws.{given_back}
use Rattle.pl_sched.proofs.run.run_all.Goals as goal

pub returns : goal.returns
returns g c = given_back g.K.Naming.goals (λ v. v.dones.items) (λ v. v.begun.items) c.fronts.result c.into_inner.result.seen c.fronts.ensures.seen c.fronts.ensures.whole c.fronts.ensures.only c.fronts.ensures.order c.fronts.ensures.begun
