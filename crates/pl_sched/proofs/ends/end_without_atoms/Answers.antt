use Rattle.std.proofs.Common.{Option, subst}
use Rattle.std.specs.Prelude.{IfSome}
use Rattle.atom_words.specs.Seats.{seen}
use Rattle.atom_table.specs.Naming.{names}
use Rattle.pl_model.specs.declared.ends.AtomRecord.{AtomRecord}
use Rattle.run_model.specs.AtomRecords.{IsTrue}
use Rattle.pl_hub.specs.Fronts.{told_of}
use Rattle.pl_sched.proofs.EndLaws.{wants_atoms}
use Rattle.pl_sched.proofs.ends.end_without_atoms.Goals as goal

pub end-requires-clause-ended : goal.end-requires-clause-ended
end-requires-clause-ended g c =
    wants_atoms g.E.Resident.stands g.E.Resident.ready g.E.Resident.moves g.K.Command.program g.E.Resident.over g.met.E.Resident.running (names (seen c.args.atoms.seat)) (told_of g.K.Naming.goals c.args.front) c.args.engine c.in-Some.record
    c.requires.going (subst (λ (o : Option AtomRecord). IfSome o (IsTrue g.K.Command.program.slots)) c.in-Some.is c.requires.found) c.requires.way
