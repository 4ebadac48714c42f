use Rattle.std.proofs.Common.{Ok, Err}
use Rattle.atom_words.specs.Seats.{seen}
use Rattle.atom_table.specs.Naming.{names}
use Rattle.pl_sched.proofs.TurnLaws.{gone_at}
use Rattle.pl_sched.proofs.WritingLaws.{at_answer}
use Rattle.pl_sched.proofs.turns.settle.Goals as goal

pub settle_turn-requires-clause-gone : goal.settle_turn-requires-clause-gone
settle_turn-requires-clause-gone g c =
    gone_at g.S.Script.execution g.S.Script.part g.S.Script.plays g.S.Script.kept g.S.Script.name g.S.Script.variables g.S.Script.over g.S.Script.names g.K.Command.program g.K.Naming.history g.K.Naming.goals c.args.number
    (names (seen c.args.atoms.seat)) c.args.front c.args.engine c.args.turned (Ok c.in-Ok.turn) c.in-Ok.is c.requires.gone

pub settle_turn-requires-clause-writes : goal.settle_turn-requires-clause-writes
settle_turn-requires-clause-writes g c =
    at_answer _ c.args.turned (Ok c.in-Ok.turn) c.in-Ok.is c.requires.writes

pub settle_stop-requires-clause-gone : goal.settle_stop-requires-clause-gone
settle_stop-requires-clause-gone g c =
    gone_at g.S.Script.execution g.S.Script.part g.S.Script.plays g.S.Script.kept g.S.Script.name g.S.Script.variables g.S.Script.over g.S.Script.names g.K.Command.program g.K.Naming.history g.K.Naming.goals c.args.number
    (names (seen c.args.atoms.seat)) c.args.front c.args.engine c.args.turned (Err c.in-Err.stop) c.in-Err.is c.requires.gone

pub settle_stop-requires-clause-writes : goal.settle_stop-requires-clause-writes
settle_stop-requires-clause-writes g c =
    at_answer _ c.args.turned (Err c.in-Err.stop) c.in-Err.is c.requires.writes
