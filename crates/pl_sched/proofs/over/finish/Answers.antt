use Rattle.std.proofs.Common.{◌≤◌, length, Option, Some, None, sym, ap, subst, arith, ◌∙◌}
use Rattle.atom_words.specs.Seats.{seen}
use Rattle.atom_table.specs.Naming.{names}
use Rattle.pl_model.specs.declared.threads.On.{On}
use Rattle.pl_history.specs.Fronts.{FrontState}
use Rattle.pl_sched.specs.Homes.{IsFinal, IsStandingAt}
use Rattle.pl_sched.proofs.HomeLaws.{waiting_home}
use Rattle.pl_sched.proofs.over.finish.Goals as goal

pub invariant_of-result : goal.invariant_of-result
invariant_of-result g c =
    let parts = c.into_parts-engine.result in
    let on = c.in_ok-awaits in
    let st = c.in_ok-standing in
    let ops = st.standing.0 in
    let quotes = st.standing.1 in
    let le : length c.args.shared.now.seen ≤ c.in-Waits.at = (let low = c.if-at-generation.false in let at = c.generation.ensures in omega (arith, low, at)) in (
      subst (λ (f : FrontState). IsFinal g.E.Resident.stands g.E.Resident.ready g.E.Resident.moves g.K.Command.program g.K.Naming.history g.K.Naming.goals parts.number None (Some on.awaits) ops quotes f parts.engine) (sym c.show.ensures.front)
          (subst (λ (o : On). IsFinal g.E.Resident.stands g.E.Resident.ready g.E.Resident.moves g.K.Command.program g.K.Naming.history g.K.Naming.goals parts.number None (Some o) ops quotes (record parts.front { seen = c.args.shared.now.seen }) parts.engine) (sym on.ensures)
          (waiting_home g.E.Resident.stands g.E.Resident.ready g.E.Resident.moves g.K.Command.program g.E.Resident.over g.K.Naming.history g.K.Naming.goals parts.number parts.mark c.in-Waits.on (names (seen parts.atoms.seat)) ops quotes parts.front parts.engine c.in-Waits.at c.in-Waits.is
          c.into_parts-engine.ensures.home c.args.shared.now.seen c.show.ensures.sees.seen le (record { operators = st.ensures.operators; quotes_are = st.ensures.quotes }))),
      c.into_parts-engine.ensures.writes,
    )
