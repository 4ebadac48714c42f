use Rattle.std.proofs.Common.{◌≡◌, false, sym, ◌∙◌}
use Rattle.atom_words.specs.Seats.{seen}
use Rattle.atom_table.specs.Naming.{names}
use Rattle.pl_sched.proofs.TurnLaws.{leaves}
use Rattle.pl_sched.proofs.turns.turn.Goals as goal

pub go_on-requires-clause-own : goal.go_on-requires-clause-own
go_on-requires-clause-own g c =
    let parts = c.into_parts-parts.result in
    (leaves g.S.Script.execution g.S.Script.part g.S.Script.plays g.S.Script.kept g.S.Script.name g.S.Script.variables g.S.Script.over g.S.Script.names g.K.Command.program g.K.Naming.history g.K.Naming.goals parts.number parts.mark
    (names (seen parts.atoms.seat)) parts.front parts.engine (sym c.has_ended.ensures ∙ c.if-has_ended.false) c.into_parts-parts.ensures.home).0

pub go_on-requires-clause-way : goal.go_on-requires-clause-way
go_on-requires-clause-way g c =
    let parts = c.into_parts-parts.result in
    (leaves g.S.Script.execution g.S.Script.part g.S.Script.plays g.S.Script.kept g.S.Script.name g.S.Script.variables g.S.Script.over g.S.Script.names g.K.Command.program g.K.Naming.history g.K.Naming.goals parts.number parts.mark
    (names (seen parts.atoms.seat)) parts.front parts.engine (sym c.has_ended.ensures ∙ c.if-has_ended.false) c.into_parts-parts.ensures.home).1

pub go_on-requires-clause-going : goal.go_on-requires-clause-going
go_on-requires-clause-going g c =
    let parts = c.into_parts-parts.result in
    (leaves g.S.Script.execution g.S.Script.part g.S.Script.plays g.S.Script.kept g.S.Script.name g.S.Script.variables g.S.Script.over g.S.Script.names g.K.Command.program g.K.Naming.history g.K.Naming.goals parts.number parts.mark
    (names (seen parts.atoms.seat)) parts.front parts.engine (sym c.has_ended.ensures ∙ c.if-has_ended.false) c.into_parts-parts.ensures.home).2
