use Rattle.atom_words.specs.Seats.{seen}
use Rattle.atom_table.specs.Naming.{names}
use Rattle.engine_run.specs.declared.runner.Turn.TheVariants.{Ended, Goes}
use Rattle.pl_sched.proofs.TurnLaws.{ends_now, home_going, turn_at}
use Rattle.pl_sched.proofs.turns.settle_turn.Goals as goal

pub new-requires-clause-home : goal.new-requires-clause-home
new-requires-clause-home g c =
    home_going g.S.Script.execution g.S.Script.part g.S.Script.plays g.S.Script.kept g.S.Script.name g.S.Script.variables g.S.Script.over g.S.Script.names g.K.Command.program g.K.Naming.history g.K.Naming.goals c.args.number
    (names (seen c.args.atoms.seat)) c.args.front c.args.engine c.going-mark.result c.going-mark.ensures
    (turn_at g.S.Script.execution g.S.Script.part g.S.Script.plays g.S.Script.kept g.S.Script.name g.S.Script.variables g.S.Script.over g.S.Script.names g.K.Command.program g.K.Naming.history g.K.Naming.goals c.args.number
    (names (seen c.args.atoms.seat)) c.args.front c.args.engine c.args.turn Goes c.in-Goes.is c.requires.gone)

pub end-requires-clause-own : goal.end-requires-clause-own
end-requires-clause-own g c =
    (turn_at g.S.Script.execution g.S.Script.part g.S.Script.plays g.S.Script.kept g.S.Script.name g.S.Script.variables g.S.Script.over g.S.Script.names g.K.Command.program g.K.Naming.history g.K.Naming.goals c.args.number
    (names (seen c.args.atoms.seat)) c.args.front c.args.engine c.args.turn (Ended c.in-Ended.how) c.in-Ended.is c.requires.gone).own

pub end-requires-clause-ended : goal.end-requires-clause-ended
end-requires-clause-ended g c =
    ends_now g.S.Script.execution g.S.Script.part g.S.Script.plays g.S.Script.kept g.S.Script.name g.S.Script.variables g.S.Script.over g.S.Script.names g.K.Command.program g.K.Naming.history g.K.Naming.goals c.args.number
    (names (seen c.args.atoms.seat)) c.args.front c.args.engine c.in-Ended.how
    (turn_at g.S.Script.execution g.S.Script.part g.S.Script.plays g.S.Script.kept g.S.Script.name g.S.Script.variables g.S.Script.over g.S.Script.names g.K.Command.program g.K.Naming.history g.K.Naming.goals c.args.number
    (names (seen c.args.atoms.seat)) c.args.front c.args.engine c.args.turn (Ended c.in-Ended.how) c.in-Ended.is c.requires.gone)
