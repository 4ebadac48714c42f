use Rattle.std.proofs.Common.{Some, None, sym, subst}
use Rattle.pl_history.specs.Fronts.{FrontState}
use Rattle.pl_sched.specs.Homes.{IsFinal}
use Rattle.pl_sched.proofs.HomeLaws.{gone_final}
use Rattle.pl_sched.proofs.over.Over.settle.Goals as goal

pub show-requires-clause-front : goal.show-requires-clause-front
show-requires-clause-front g c = c.self.invariant.0.front.table

pub invariant_of-result : goal.invariant_of-result
invariant_of-result g c = (
  subst (λ (f : FrontState). IsFinal g.E.Resident.stands g.E.Resident.ready g.E.Resident.moves g.K.Command.program g.K.Naming.history g.K.Naming.goals c.self.inside.number (Some c.self.inside.end.how) None c.self.inside.end.operators c.self.inside.end.quotes f c.self.inside.engine) (sym c.show.ensures.front)
      (gone_final g.E.Resident.stands g.E.Resident.ready g.E.Resident.moves g.K.Command.program g.K.Naming.history g.K.Naming.goals c.self.inside.number c.self.inside.end c.self.inside.front c.self.inside.engine c.self.invariant.0
      c.args.shared.now.seen c.show.ensures.sees.seen c.show.ensures.sees.told),
  c.self.invariant.1,
)
