use Rattle.std.proofs.Common.{sym, subst}
use Rattle.std.specs.Prelude.{IsSome, Option, Some}
use Rattle.iso_engine.specs.Ready.{IsReady}
use Rattle.std.specs.List.{All}
use Rattle.atom_api.specs.Names.{Names}
use Rattle.world_api.specs.Texts.{Holds}
use Rattle.engine_run.specs.declared.runner.Stage.TheVariants.{Directs}
use Rattle.pl_term.specs.Tree.{Tree}
use Rattle.pl_model.specs.declared.ends.How.{How}
use Rattle.engine_run.specs.Endings.{EndedSo}
use Rattle.engine_run.specs.Runners.{HasAsked, HasTurned, IsBetween, at_stage}
use Rattle.engine_run.specs.Searched.{UnlessMemory}
use Rattle.engine_run.proofs.Carrying.{directed_between, directed_on, told_later}
use Rattle.engine_run.proofs.Ended.{asked_next, directive_asked}
use Rattle.engine_run.proofs.Exits.{unless_on}
use Rattle.engine_run.proofs.Refused.{refused_from}
use Rattle.engine_run.proofs.Sliced.{directed_lines, directed_named, directed_names, directed_over, directed_still, directed_word}
use Rattle.engine_run.proofs.runner.Runner.directive_turn.Goals as goal

-- `ended_at` leaves what is held as it was: `same`.

pub slice_directive-requires-clause-ready : goal.slice_directive-requires-clause-ready
slice_directive-requires-clause-ready g c =
    subst (λ (k : Names). IsReady k (g.W.World.told c.args.world.now) c.args.engine) (sym c.ended_at.ensures.same) c.requires.ready.stage.ready

-- A slice.

pub returns-in-None-clause-turned : goal.returns-in-None-clause-turned
returns-in-None-clause-turned g c =
    let s = c.slice_directive in
    let m = g.W.A.Atoms.held c.args.atoms.now in
    let n = g.W.A.Atoms.held s.new.atoms in
    let t = g.W.World.told c.args.world.now in
    let u = g.W.World.told s.new.world in
    let old = c.args.self.now in
    subst
    (λ (k : Names). UnlessMemory s.result (HasTurned g.S.Script.execution g.S.Script.part g.S.Script.plays g.S.Script.kept g.S.Script.name g.S.Script.variables k t (at_stage old (Directs c.args.engine)) n u s.new.self s.result))
    c.ended_at.ensures.same
    (unless_on s.result
    (λ h.
    directed_on g.S.Script.execution g.S.Script.part g.S.Script.plays g.S.Script.kept g.S.Script.name g.S.Script.variables g.S.Script.over g.S.Script.names g.met.S.Script.lines g.met.S.Script.names_tell (g.W.A.Atoms.held c.ended_at.new.atoms) n t u s.ensures.holds
    old s.new.self c.args.engine s.result s.ensures.goes
    (subst (λ (k : Names). IsBetween g.S.Script.part g.S.Script.over g.S.Script.names k t (at_stage old (Directs c.args.engine))) (sym c.ended_at.ensures.same) c.requires.ready) h)
    s.ensures.directed)

pub returns-in-None-clause-ready : goal.returns-in-None-clause-ready
returns-in-None-clause-ready g c =
    let s = c.slice_directive in
    let n = g.W.A.Atoms.held s.new.atoms in
    let t = g.W.World.told c.args.world.now in
    let u = g.W.World.told s.new.world in
    let old = c.args.self.now in
    unless_on s.result
    (λ h.
    directed_between g.S.Script.execution g.S.Script.part g.S.Script.plays g.S.Script.kept g.S.Script.name g.S.Script.variables g.S.Script.over g.S.Script.names g.met.S.Script.lines g.met.S.Script.names_tell (g.W.A.Atoms.held c.ended_at.new.atoms) n t u s.ensures.holds
    old s.new.self c.args.engine s.result
    (subst (λ (k : Names). IsBetween g.S.Script.part g.S.Script.over g.S.Script.names k t (at_stage old (Directs c.args.engine))) (sym c.ended_at.ensures.same) c.requires.ready) h)
    s.ensures.directed

pub returns-in-None-clause-over : goal.returns-in-None-clause-over
returns-in-None-clause-over g c =
    let s = c.slice_directive in
    directed_over (g.W.A.Atoms.held c.ended_at.new.atoms) (g.W.A.Atoms.held s.new.atoms) (g.W.World.told c.args.world.now) (g.W.World.told s.new.world) c.args.self.now s.new.self
    c.args.engine s.result s.ensures.goes s.ensures.directed

pub returns-in-None-clause-searching : goal.returns-in-None-clause-searching
returns-in-None-clause-searching g c =
    let s = c.slice_directive in
    directed_still (g.W.A.Atoms.held c.ended_at.new.atoms) (g.W.A.Atoms.held s.new.atoms) (g.W.World.told c.args.world.now) (g.W.World.told s.new.world) c.args.self.now s.new.self
    c.args.engine s.result s.ensures.directed

pub returns-in-None-clause-alias : goal.returns-in-None-clause-alias
returns-in-None-clause-alias g c =
    let s = c.slice_directive in
    directed_names (g.W.A.Atoms.held c.ended_at.new.atoms) (g.W.A.Atoms.held s.new.atoms) (g.W.World.told c.args.world.now) (g.W.World.told s.new.world) c.args.self.now s.new.self
    c.args.engine s.result s.ensures.directed

pub returns-in-None-clause-lines : goal.returns-in-None-clause-lines
returns-in-None-clause-lines g c =
    let s = c.slice_directive in
    directed_lines (g.W.A.Atoms.held c.ended_at.new.atoms) (g.W.A.Atoms.held s.new.atoms) (g.W.World.told c.args.world.now) (g.W.World.told s.new.world) c.args.self.now s.new.self
    c.args.engine s.result s.ensures.directed

pub returns-in-None-clause-word : goal.returns-in-None-clause-word
returns-in-None-clause-word g c =
    let s = c.slice_directive in
    directed_word (g.W.A.Atoms.held c.ended_at.new.atoms) (g.W.A.Atoms.held s.new.atoms) (g.W.World.told c.args.world.now) (g.W.World.told s.new.world) c.args.self.now s.new.self
    c.args.engine s.result g.S.Script.word s.ensures.directed

pub returns-in-None-clause-named : goal.returns-in-None-clause-named
returns-in-None-clause-named g c =
    let s = c.slice_directive in
    directed_named (g.W.A.Atoms.held c.ended_at.new.atoms) (g.W.A.Atoms.held s.new.atoms) (g.W.World.told c.args.world.now) (g.W.World.told s.new.world) c.args.self.now s.new.self
    c.args.engine s.result g.S.Script.name s.ensures.directed

pub returns-in-None-clause-refusals : goal.returns-in-None-clause-refusals
returns-in-None-clause-refusals g c =
    let s = c.slice_directive in
    unless_on s.result
    (λ h. refused_from (g.W.A.Atoms.refusals c.args.atoms.now) (g.W.A.Atoms.refusals c.ended_at.new.atoms) (g.W.A.Atoms.refusals s.new.atoms) _ c.ended_at.ensures.refusals h)
    s.ensures.refusals

-- The search has ended, and the script is asked for its next item.

pub ask-requires-clause-asked : goal.ask-requires-clause-asked
ask-requires-clause-asked g c =
    directive_asked (g.S.Script.part c.args.self.now.script) c.requires.ready.stage.item c.in-Some.how c.requires.ready.stage.at_hand c.requires.ready.stage.is

pub ask-requires-clause-goes_on : goal.ask-requires-clause-goes_on
ask-requires-clause-goes_on g c = c.requires.ready.done_is

pub ask-requires-clause-held : goal.ask-requires-clause-held
ask-requires-clause-held g c =
    subst (λ (k : Names). All (λ a. IsSome (k a)) (g.S.Script.names c.args.self.now.script)) (sym c.ended_at.ensures.same) c.requires.ready.held

pub returns-in-Some-clause-turned : goal.returns-in-Some-clause-turned
returns-in-Some-clause-turned g c =
    let s = c.ask in
    let m = g.W.A.Atoms.held c.args.atoms.now in
    let ended = subst (λ (o : Option (How Tree)). EndedSo m c.args.engine o) c.in-Some.is c.in_ok-ended_at.ensures.how in
    let n = g.W.A.Atoms.held s.new.atoms in
    let t = g.W.World.told c.args.world.now in
    let u = g.W.World.told s.new.world in
    let old = c.args.self.now in
    unless_on s.result
    (λ h. asked_next g.S.Script.execution g.S.Script.part g.S.Script.plays g.S.Script.kept g.S.Script.name g.S.Script.variables m n t u old s.new.self s.result c.args.engine c.in-Some.how c.requires.ready.stage ended.0 h)
    (subst (λ (k : Names). UnlessMemory s.result (HasAsked g.S.Script.execution g.S.Script.part g.S.Script.plays g.S.Script.kept g.S.Script.name g.S.Script.variables k t old (Some c.in-Some.how) n u s.new.self s.result))
    c.ended_at.ensures.same s.ensures.asked)

pub returns-in-Some-clause-refusals : goal.returns-in-Some-clause-refusals
returns-in-Some-clause-refusals g c =
    let s = c.ask in
    unless_on s.result
    (λ h. refused_from (g.W.A.Atoms.refusals c.args.atoms.now) (g.W.A.Atoms.refusals c.ended_at.new.atoms) (g.W.A.Atoms.refusals s.new.atoms) _ c.ended_at.ensures.refusals h)
    s.ensures.refusals

pub returns-in-None-clause-holds : goal.returns-in-None-clause-holds
returns-in-None-clause-holds g c =
    subst (λ (k : Names). Holds k (g.W.A.Atoms.held c.slice_directive.new.atoms)) c.ended_at.ensures.same c.slice_directive.ensures.holds

pub returns-in-Some-clause-holds : goal.returns-in-Some-clause-holds
returns-in-Some-clause-holds g c =
    subst (λ (k : Names). Holds k (g.W.A.Atoms.held c.ask.new.atoms)) c.ended_at.ensures.same c.ask.ensures.holds

pub returns-in-None-clause-later : goal.returns-in-None-clause-later
returns-in-None-clause-later g c =
    let s = c.slice_directive in
    let m = g.W.A.Atoms.held c.ended_at.new.atoms in
    let n = g.W.A.Atoms.held s.new.atoms in
    unless_on s.result (λ h. told_later m n (g.W.World.told c.args.world.now) (g.W.World.told s.new.world) h.searched.counted.ran.advances.later) s.ensures.directed
