use Rattle.std.proofs.Common.{◌≡◌, ℕ, false, ap, sym, subst}
use Rattle.atom_words.specs.Seats.{seen}
use Rattle.atom_api.specs.Names.{Names}
use Rattle.atom_table.specs.Naming.{names}
use Rattle.world_api.specs.Told.{has_ended}
use Rattle.pl_history.specs.Fronts.{FrontState}
use Rattle.pl_hub.specs.Fronts.{told_of}
use Rattle.engine_run.specs.Runners.{IsBetween}
use Rattle.pl_sched.specs.Ledger.{IsBegun}
use Rattle.pl_sched.proofs.OnlyLaws.{job_begun}
use Rattle.pl_sched.proofs.Running.{still_runs}
use Rattle.pl_sched.proofs.TurnLaws.{has_gone_from}
use Rattle.pl_sched.proofs.WritingLaws.{still}
use Rattle.pl_sched.proofs.turns.go_on.Goals as goal

pub new-world-requires-clause-begun : goal.new-world-requires-clause-begun
new-world-requires-clause-begun g c =
    let way = c.requires.way in
    subst (λ (n : ℕ). IsBegun c.args.front.seen n) c.requires.own.engine (job_begun g.K.Command.program (told_of g.K.Naming.goals c.args.front).engine c.args.front.seen way.job way.low way.is_job)

pub turn-turned-requires-clause-runs : goal.turn-turned-requires-clause-runs
turn-turned-requires-clause-runs g c =
    subst (λ (w : FrontState). has_ended (told_of g.K.Naming.goals w).engine (told_of g.K.Naming.goals w).history ≡ false) (sym c.new-world.ensures) (still_runs g.K.Naming.goals c.args.front c.requires.own)

pub turn-turned-requires-clause-ready : goal.turn-turned-requires-clause-ready
turn-turned-requires-clause-ready g c =
    subst (λ (w : FrontState). IsBetween g.S.Script.part g.S.Script.over g.S.Script.names (names (seen c.new-known.result.atoms.seat)) (told_of g.K.Naming.goals w) c.args.engine) (sym c.new-world.ensures)
    (subst (λ (m : Names). IsBetween g.S.Script.part g.S.Script.over g.S.Script.names m (told_of g.K.Naming.goals c.args.front) c.args.engine)
    (sym (ap (λ a. names (seen a.seat)) c.new-known.ensures)) c.requires.way.is_ready)

pub settle-requires-clause-gone : goal.settle-requires-clause-gone
settle-requires-clause-gone g c =
    let t = c.turn-turned in
    has_gone_from g.S.Script.execution g.S.Script.part g.S.Script.plays g.S.Script.kept g.S.Script.name g.S.Script.variables g.S.Script.over g.S.Script.names g.K.Command.program g.K.Naming.history g.K.Naming.goals c.args.number
    c.into_front.ensures.own.0 (names (seen c.args.atoms.seat)) (names (seen c.new-known.result.atoms.seat)) (names (seen t.new.atoms.atoms.seat)) (names (seen c.into_atoms.result.seat))
    c.args.front c.new-world.result t.new.world c.into_front.result c.args.engine t.new.self
    (ap (λ a. names (seen a.seat)) c.new-known.ensures) (ap (λ a. names (seen a.seat)) c.into_atoms.ensures) c.new-world.ensures c.into_front.ensures.front
    c.requires.own c.into_front.ensures.own.1 c.requires.way t.result t.ensures.turned t.ensures.ready t.ensures.over t.ensures.later t.ensures.alias

pub settle-requires-clause-writes : goal.settle-requires-clause-writes
settle-requires-clause-writes g c =
    let t = c.turn-turned in
    still g.K.Command.program g.K.Command.file g.K.Command.board c.args.number c.args.engine.lines t.new.self.lines (g.S.Script.name c.args.engine.script) (g.S.Script.name t.new.self.script)
    (g.S.Script.word c.args.engine.script) (g.S.Script.word t.new.self.script) c.requires.writes t.result t.ensures.lines t.ensures.named t.ensures.word
