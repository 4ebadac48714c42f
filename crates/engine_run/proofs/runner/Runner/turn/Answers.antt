use Rattle.std.proofs.Common.{sym, ◌∙◌}
use Rattle.engine_run.specs.declared.runner.Runner.{Runner}
use Rattle.engine_run.specs.declared.runner.Stage.TheVariants.{Asks, Directs, Searches}
use Rattle.engine_run.specs.Runners.{HasTurned, IsBetween}
use Rattle.engine_run.specs.Searched.{UnlessMemory}
use Rattle.engine_run.proofs.Ended.{asked_first, at_its_stage, at_this_stage, none_asked}
use Rattle.engine_run.proofs.Exits.{unless_on}
use Rattle.engine_run.proofs.runner.Runner.turn.Goals as goal

-- What is ready at the stage that was taken out.

pub ask-requires-clause-asked : goal.ask-requires-clause-asked
ask-requires-clause-asked g c =
    let old = c.args.self.now in
    let m = g.W.A.Atoms.held c.args.atoms.now in
    let t = g.W.World.told c.args.world.now in
    let ready = at_this_stage (λ (r : Runner g.row.S.Denot). IsBetween g.S.Script.part g.S.Script.over g.S.Script.names m t r) old Asks
    (sym c.replace.ensures.value ∙ c.in-Asks.is) c.requires.ready in
    none_asked (g.S.Script.part old.script) ready.stage

pub ask-requires-clause-goes_on : goal.ask-requires-clause-goes_on
ask-requires-clause-goes_on g c = c.requires.ready.done_is ∙ c.requires.going

pub ask-requires-clause-held : goal.ask-requires-clause-held
ask-requires-clause-held g c = c.requires.ready.held

pub directive_turn-requires-clause-ready : goal.directive_turn-requires-clause-ready
directive_turn-requires-clause-ready g c =
    let m = g.W.A.Atoms.held c.args.atoms.now in
    let t = g.W.World.told c.args.world.now in
    at_this_stage (λ (r : Runner g.row.S.Denot). IsBetween g.S.Script.part g.S.Script.over g.S.Script.names m t r) c.args.self.now (Directs c.in-Directs.engine)
    (sym c.replace.ensures.value ∙ c.in-Directs.is) c.requires.ready

pub goal_turn-requires-clause-ready : goal.goal_turn-requires-clause-ready
goal_turn-requires-clause-ready g c =
    let m = g.W.A.Atoms.held c.args.atoms.now in
    let t = g.W.World.told c.args.world.now in
    at_this_stage (λ (r : Runner g.row.S.Denot). IsBetween g.S.Script.part g.S.Script.over g.S.Script.names m t r) c.args.self.now (Searches c.in-Searches.engine)
    (sym c.replace.ensures.value ∙ c.in-Searches.is) c.requires.ready

-- What the turn has done is done from the runner as it was.

pub returns-in-Asks-clause-turned : goal.returns-in-Asks-clause-turned
returns-in-Asks-clause-turned g c =
    let old = c.args.self.now in
    let m = g.W.A.Atoms.held c.args.atoms.now in
    let n = g.W.A.Atoms.held c.ask.new.atoms in
    let t = g.W.World.told c.args.world.now in
    let u = g.W.World.told c.ask.new.world in
    let new = c.ask.new.self in
    let r = c.ask.result in
    let is = sym c.replace.ensures.value ∙ c.in-Asks.is in
    let ready = at_this_stage (λ (z : Runner g.row.S.Denot). IsBetween g.S.Script.part g.S.Script.over g.S.Script.names m t z) old Asks is c.requires.ready in
    at_its_stage
    (λ (z : Runner g.row.S.Denot).
    UnlessMemory r (HasTurned g.S.Script.execution g.S.Script.part g.S.Script.plays g.S.Script.kept g.S.Script.name g.S.Script.variables m t z n u new r))
    old Asks is
    (unless_on r
    (λ h. asked_first g.S.Script.execution g.S.Script.part g.S.Script.plays g.S.Script.kept g.S.Script.name g.S.Script.variables m n t u _ new r ready.stage h)
    c.ask.ensures.asked)

pub returns-in-Directs-clause-turned : goal.returns-in-Directs-clause-turned
returns-in-Directs-clause-turned g c =
    let m = g.W.A.Atoms.held c.args.atoms.now in
    let t = g.W.World.told c.args.world.now in
    let d = c.directive_turn in
    at_its_stage
    (λ (z : Runner g.row.S.Denot).
    UnlessMemory d.result (HasTurned g.S.Script.execution g.S.Script.part g.S.Script.plays g.S.Script.kept g.S.Script.name g.S.Script.variables m t z
    (g.W.A.Atoms.held d.new.atoms) (g.W.World.told d.new.world) d.new.self d.result))
    c.args.self.now (Directs c.in-Directs.engine) (sym c.replace.ensures.value ∙ c.in-Directs.is)
    d.ensures.turned

pub returns-in-Searches-clause-turned : goal.returns-in-Searches-clause-turned
returns-in-Searches-clause-turned g c =
    let m = g.W.A.Atoms.held c.args.atoms.now in
    let t = g.W.World.told c.args.world.now in
    let d = c.goal_turn in
    at_its_stage
    (λ (z : Runner g.row.S.Denot).
    UnlessMemory d.result (HasTurned g.S.Script.execution g.S.Script.part g.S.Script.plays g.S.Script.kept g.S.Script.name g.S.Script.variables m t z
    (g.W.A.Atoms.held d.new.atoms) (g.W.World.told d.new.world) d.new.self d.result))
    c.args.self.now (Searches c.in-Searches.engine) (sym c.replace.ensures.value ∙ c.in-Searches.is)
    d.ensures.turned
