use Rattle.atom_words.specs.Seats.{seen}
use Rattle.atom_table.specs.Naming.{names}
use Rattle.engine_run.specs.declared.unfinished.Unfinished.TheVariants.{NeedsAtoms, Waits, Worn}
use Rattle.pl_hub.specs.Fronts.{told_of}
use Rattle.pl_sched.proofs.TurnLaws.{home_waiting, stop_at}
use Rattle.pl_sched.proofs.WritingLaws.{at_stop}
use Rattle.pl_sched.proofs.turns.settle_stop.Goals as goal

pub new-requires-clause-home : goal.new-requires-clause-home
new-requires-clause-home g c =
    home_waiting g.S.Script.execution g.S.Script.part g.S.Script.plays g.S.Script.kept g.S.Script.name g.S.Script.variables g.S.Script.over g.S.Script.names g.K.Command.program g.K.Naming.history g.K.Naming.goals c.args.number
    (names (seen c.args.atoms.seat)) c.args.front c.args.engine c.in-Waits.on c.in-Waits.generation
    (stop_at g.S.Script.execution g.S.Script.part g.S.Script.plays g.S.Script.kept g.S.Script.name g.S.Script.variables g.S.Script.over g.S.Script.names g.K.Command.program g.K.Naming.history g.K.Naming.goals c.args.number
    (names (seen c.args.atoms.seat)) c.args.front c.args.engine c.args.stop (Waits c.in-Waits.on c.in-Waits.generation) c.in-Waits.is c.requires.gone)

pub new-requires-clause-writes : goal.new-requires-clause-writes
new-requires-clause-writes g c =
    at_stop _ c.args.stop (Waits c.in-Waits.on c.in-Waits.generation) c.in-Waits.is c.requires.writes

pub end_or_wait-requires-clause-own : goal.end_or_wait-requires-clause-own
end_or_wait-requires-clause-own g c =
    (stop_at g.S.Script.execution g.S.Script.part g.S.Script.plays g.S.Script.kept g.S.Script.name g.S.Script.variables g.S.Script.over g.S.Script.names g.K.Command.program g.K.Naming.history g.K.Naming.goals c.args.number
    (names (seen c.args.atoms.seat)) c.args.front c.args.engine c.args.stop (NeedsAtoms c.in-NeedsAtoms.pass) c.in-NeedsAtoms.is c.requires.gone).own

pub end_or_wait-requires-clause-way : goal.end_or_wait-requires-clause-way
end_or_wait-requires-clause-way g c =
    (stop_at g.S.Script.execution g.S.Script.part g.S.Script.plays g.S.Script.kept g.S.Script.name g.S.Script.variables g.S.Script.over g.S.Script.names g.K.Command.program g.K.Naming.history g.K.Naming.goals c.args.number
    (names (seen c.args.atoms.seat)) c.args.front c.args.engine c.args.stop (NeedsAtoms c.in-NeedsAtoms.pass) c.in-NeedsAtoms.is c.requires.gone).way

pub end_or_wait-requires-clause-going : goal.end_or_wait-requires-clause-going
end_or_wait-requires-clause-going g c =
    (stop_at g.S.Script.execution g.S.Script.part g.S.Script.plays g.S.Script.kept g.S.Script.name g.S.Script.variables g.S.Script.over g.S.Script.names g.K.Command.program g.K.Naming.history g.K.Naming.goals c.args.number
    (names (seen c.args.atoms.seat)) c.args.front c.args.engine c.args.stop (NeedsAtoms c.in-NeedsAtoms.pass) c.in-NeedsAtoms.is c.requires.gone).over_is

pub end_or_wait-requires-clause-writes : goal.end_or_wait-requires-clause-writes
end_or_wait-requires-clause-writes g c =
    at_stop _ c.args.stop (NeedsAtoms c.in-NeedsAtoms.pass) c.in-NeedsAtoms.is c.requires.writes

pub end_without_atoms-requires-clause-own : goal.end_without_atoms-requires-clause-own
end_without_atoms-requires-clause-own g c =
    (stop_at g.S.Script.execution g.S.Script.part g.S.Script.plays g.S.Script.kept g.S.Script.name g.S.Script.variables g.S.Script.over g.S.Script.names g.K.Command.program g.K.Naming.history g.K.Naming.goals c.args.number
    (names (seen c.args.atoms.seat)) c.args.front c.args.engine c.args.stop (Worn c.in-Worn.word) c.in-Worn.is c.requires.gone).own

pub end_without_atoms-requires-clause-way : goal.end_without_atoms-requires-clause-way
end_without_atoms-requires-clause-way g c =
    (stop_at g.S.Script.execution g.S.Script.part g.S.Script.plays g.S.Script.kept g.S.Script.name g.S.Script.variables g.S.Script.over g.S.Script.names g.K.Command.program g.K.Naming.history g.K.Naming.goals c.args.number
    (names (seen c.args.atoms.seat)) c.args.front c.args.engine c.args.stop (Worn c.in-Worn.word) c.in-Worn.is c.requires.gone).way

pub end_without_atoms-requires-clause-going : goal.end_without_atoms-requires-clause-going
end_without_atoms-requires-clause-going g c =
    (stop_at g.S.Script.execution g.S.Script.part g.S.Script.plays g.S.Script.kept g.S.Script.name g.S.Script.variables g.S.Script.over g.S.Script.names g.K.Command.program g.K.Naming.history g.K.Naming.goals c.args.number
    (names (seen c.args.atoms.seat)) c.args.front c.args.engine c.args.stop (Worn c.in-Worn.word) c.in-Worn.is c.requires.gone).over_is

pub end_without_atoms-requires-clause-found : goal.end_without_atoms-requires-clause-found
end_without_atoms-requires-clause-found g c =
    c.worn-found.ensures g.K.Command.program.slots

pub end_without_atoms-requires-clause-writes : goal.end_without_atoms-requires-clause-writes
end_without_atoms-requires-clause-writes g c =
    at_stop _ c.args.stop (Worn c.in-Worn.word) c.in-Worn.is c.requires.writes
