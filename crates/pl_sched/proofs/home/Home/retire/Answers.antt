use Rattle.atom_words.specs.Seats.{seen}
use Rattle.atom_table.specs.Naming.{names}
use Rattle.pl_sched.proofs.HomeLaws.{gone_home}
use Rattle.pl_sched.proofs.home.Home.retire.Goals as goal

pub new-over-requires-clause-gone : goal.new-over-requires-clause-gone
new-over-requires-clause-gone g c =
    let parts = c.into_parts-parts.result in
    gone_home g.E.Resident.stands g.E.Resident.ready g.E.Resident.moves g.K.Command.program g.E.Resident.over g.K.Naming.history g.K.Naming.goals parts.number parts.mark c.in-Ended.end (names (seen parts.atoms.seat)) parts.front parts.engine c.in-Ended.is
    c.into_parts-parts.ensures.home
