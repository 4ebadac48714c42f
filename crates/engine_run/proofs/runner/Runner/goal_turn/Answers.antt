use Rattle.std.proofs.Common.{sym, subst}
use Rattle.std.specs.Prelude.{IsSome, Option}
use Rattle.iso_engine.specs.Ready.{IsReady}
use Rattle.std.specs.List.{All}
use Rattle.atom_api.specs.Names.{Names}
use Rattle.world_api.specs.Texts.{Holds}
use Rattle.engine_run.specs.declared.runner.Stage.TheVariants.{Searches}
use Rattle.pl_term.specs.Tree.{Tree}
use Rattle.pl_model.specs.declared.ends.How.{How}
use Rattle.engine_run.specs.Endings.{EndedSo}
use Rattle.engine_run.specs.Runners.{HasClosed, HasTurned, IsBetween, at_stage}
use Rattle.engine_run.specs.Searched.{UnlessMemory}
use Rattle.engine_run.proofs.Carrying.{searched_between, searched_on, told_later}
use Rattle.engine_run.proofs.Ended.{closed_then, goal_at_hand}
use Rattle.engine_run.proofs.Exits.{unless_on}
use Rattle.engine_run.proofs.Refused.{refused_from}
use Rattle.engine_run.proofs.Sliced.{searched_lines, searched_named, searched_names, searched_over, searched_still, searched_word}
use Rattle.engine_run.proofs.runner.Runner.goal_turn.Goals as goal

-- `ended_at` leaves what is held as it was: `same`.

pub slice_goal-requires-clause-ready : goal.slice_goal-requires-clause-ready
slice_goal-requires-clause-ready g c =
    subst (λ (k : Names). IsReady k (g.W.World.told c.args.world.now) c.args.engine) (sym c.ended_at.ensures.same) c.requires.ready.stage.ready

-- A slice.

pub returns-in-None-clause-turned : goal.returns-in-None-clause-turned
returns-in-None-clause-turned g c =
    let s = c.slice_goal in
    let m = g.W.A.Atoms.held c.args.atoms.now in
    let n = g.W.A.Atoms.held s.new.atoms in
    let t = g.W.World.told c.args.world.now in
    let u = g.W.World.told s.new.world in
    let old = c.args.self.now in
    subst
    (λ (k : Names). UnlessMemory s.result (HasTurned g.S.Script.execution g.S.Script.part g.S.Script.plays g.S.Script.kept g.S.Script.name g.S.Script.variables k t (at_stage old (Searches c.args.engine)) n u s.new.self s.result))
    c.ended_at.ensures.same
    (unless_on s.result
    (λ h.
    searched_on g.S.Script.execution g.S.Script.part g.S.Script.plays g.S.Script.kept g.S.Script.name g.S.Script.variables g.S.Script.over g.S.Script.names g.met.S.Script.lines g.met.S.Script.names_tell (g.W.A.Atoms.held c.ended_at.new.atoms) n t u s.ensures.holds
    old s.new.self c.args.engine s.result s.ensures.goes
    (subst (λ (k : Names). IsBetween g.S.Script.part g.S.Script.over g.S.Script.names k t (at_stage old (Searches c.args.engine))) (sym c.ended_at.ensures.same) c.requires.ready) h)
    s.ensures.searched)

pub returns-in-None-clause-ready : goal.returns-in-None-clause-ready
returns-in-None-clause-ready g c =
    let s = c.slice_goal in
    let n = g.W.A.Atoms.held s.new.atoms in
    let t = g.W.World.told c.args.world.now in
    let u = g.W.World.told s.new.world in
    let old = c.args.self.now in
    unless_on s.result
    (λ h.
    searched_between g.S.Script.execution g.S.Script.part g.S.Script.plays g.S.Script.kept g.S.Script.name g.S.Script.variables g.S.Script.over g.S.Script.names g.met.S.Script.lines g.met.S.Script.names_tell (g.W.A.Atoms.held c.ended_at.new.atoms) n t u s.ensures.holds
    old s.new.self c.args.engine s.result
    (subst (λ (k : Names). IsBetween g.S.Script.part g.S.Script.over g.S.Script.names k t (at_stage old (Searches c.args.engine))) (sym c.ended_at.ensures.same) c.requires.ready) h)
    s.ensures.searched

pub returns-in-None-clause-over : goal.returns-in-None-clause-over
returns-in-None-clause-over g c =
    let s = c.slice_goal in
    searched_over (g.W.A.Atoms.held c.ended_at.new.atoms) (g.W.A.Atoms.held s.new.atoms) (g.W.World.told c.args.world.now) (g.W.World.told s.new.world) c.args.self.now s.new.self
    c.args.engine s.result g.S.Script.variables s.ensures.goes s.ensures.searched

pub returns-in-None-clause-searching : goal.returns-in-None-clause-searching
returns-in-None-clause-searching g c =
    let s = c.slice_goal in
    searched_still (g.W.A.Atoms.held c.ended_at.new.atoms) (g.W.A.Atoms.held s.new.atoms) (g.W.World.told c.args.world.now) (g.W.World.told s.new.world) c.args.self.now s.new.self
    c.args.engine s.result g.S.Script.variables s.ensures.searched

pub returns-in-None-clause-alias : goal.returns-in-None-clause-alias
returns-in-None-clause-alias g c =
    let s = c.slice_goal in
    searched_names (g.W.A.Atoms.held c.ended_at.new.atoms) (g.W.A.Atoms.held s.new.atoms) (g.W.World.told c.args.world.now) (g.W.World.told s.new.world) c.args.self.now s.new.self
    c.args.engine s.result g.S.Script.variables s.ensures.searched

pub returns-in-None-clause-lines : goal.returns-in-None-clause-lines
returns-in-None-clause-lines g c =
    let s = c.slice_goal in
    searched_lines (g.W.A.Atoms.held c.ended_at.new.atoms) (g.W.A.Atoms.held s.new.atoms) (g.W.World.told c.args.world.now) (g.W.World.told s.new.world) c.args.self.now s.new.self
    c.args.engine s.result g.S.Script.variables s.ensures.searched

pub returns-in-None-clause-word : goal.returns-in-None-clause-word
returns-in-None-clause-word g c =
    let s = c.slice_goal in
    searched_word (g.W.A.Atoms.held c.ended_at.new.atoms) (g.W.A.Atoms.held s.new.atoms) (g.W.World.told c.args.world.now) (g.W.World.told s.new.world) c.args.self.now s.new.self
    c.args.engine s.result g.S.Script.variables g.S.Script.word s.ensures.searched

pub returns-in-None-clause-named : goal.returns-in-None-clause-named
returns-in-None-clause-named g c =
    let s = c.slice_goal in
    searched_named (g.W.A.Atoms.held c.ended_at.new.atoms) (g.W.A.Atoms.held s.new.atoms) (g.W.World.told c.args.world.now) (g.W.World.told s.new.world) c.args.self.now s.new.self
    c.args.engine s.result g.S.Script.variables g.S.Script.name s.ensures.searched

pub returns-in-None-clause-refusals : goal.returns-in-None-clause-refusals
returns-in-None-clause-refusals g c =
    let s = c.slice_goal in
    unless_on s.result
    (λ h. refused_from (g.W.A.Atoms.refusals c.args.atoms.now) (g.W.A.Atoms.refusals c.ended_at.new.atoms) (g.W.A.Atoms.refusals s.new.atoms) _ c.ended_at.ensures.refusals h)
    s.ensures.refusals

-- The search has ended, and the script is told.

pub close-requires-clause-at_hand : goal.close-requires-clause-at_hand
close-requires-clause-at_hand g c =
    goal_at_hand (g.S.Script.part c.args.self.now.script) c.requires.ready.stage.item c.requires.ready.stage.at_hand c.requires.ready.stage.is

pub close-requires-clause-goes_on : goal.close-requires-clause-goes_on
close-requires-clause-goes_on g c = c.requires.ready.done_is

pub close-requires-clause-held : goal.close-requires-clause-held
close-requires-clause-held g c =
    subst (λ (k : Names). All (λ a. IsSome (k a)) (g.S.Script.names c.args.self.now.script)) (sym c.ended_at.ensures.same) c.requires.ready.held

pub close-requires-clause-told : goal.close-requires-clause-told
close-requires-clause-told g c =
    let m = g.W.A.Atoms.held c.args.atoms.now in
    (subst (λ (o : Option (How Tree)). EndedSo m c.args.engine o) c.in-Some.is c.in_ok-ended_at.ensures.how).1

pub returns-in-Some-clause-turned : goal.returns-in-Some-clause-turned
returns-in-Some-clause-turned g c =
    let s = c.close in
    let m = g.W.A.Atoms.held c.args.atoms.now in
    let ended = subst (λ (o : Option (How Tree)). EndedSo m c.args.engine o) c.in-Some.is c.in_ok-ended_at.ensures.how in
    let n = g.W.A.Atoms.held s.new.atoms in
    let t = g.W.World.told c.args.world.now in
    let u = g.W.World.told s.new.world in
    let old = c.args.self.now in
    unless_on s.result
    (λ h. closed_then g.S.Script.execution g.S.Script.part g.S.Script.plays g.S.Script.kept g.S.Script.name g.S.Script.variables m n t u old s.new.self s.result c.args.engine c.in-Some.how c.requires.ready.stage ended.0 h)
    (subst (λ (k : Names). UnlessMemory s.result (HasClosed g.S.Script.execution g.S.Script.part g.S.Script.plays g.S.Script.kept g.S.Script.name g.S.Script.variables k t old c.in-Some.how n u s.new.self s.result))
    c.ended_at.ensures.same s.ensures.closed)

pub returns-in-Some-clause-refusals : goal.returns-in-Some-clause-refusals
returns-in-Some-clause-refusals g c =
    let s = c.close in
    unless_on s.result
    (λ h. refused_from (g.W.A.Atoms.refusals c.args.atoms.now) (g.W.A.Atoms.refusals c.ended_at.new.atoms) (g.W.A.Atoms.refusals s.new.atoms) _ c.ended_at.ensures.refusals h)
    s.ensures.refusals

pub returns-in-None-clause-holds : goal.returns-in-None-clause-holds
returns-in-None-clause-holds g c =
    subst (λ (k : Names). Holds k (g.W.A.Atoms.held c.slice_goal.new.atoms)) c.ended_at.ensures.same c.slice_goal.ensures.holds

pub returns-in-Some-clause-holds : goal.returns-in-Some-clause-holds
returns-in-Some-clause-holds g c =
    subst (λ (k : Names). Holds k (g.W.A.Atoms.held c.close.new.atoms)) c.ended_at.ensures.same c.close.ensures.holds

pub returns-in-None-clause-later : goal.returns-in-None-clause-later
returns-in-None-clause-later g c =
    let s = c.slice_goal in
    let m = g.W.A.Atoms.held c.ended_at.new.atoms in
    let n = g.W.A.Atoms.held s.new.atoms in
    unless_on s.result (λ h. told_later m n (g.W.World.told c.args.world.now) (g.W.World.told s.new.world) h.searched.counted.ran.advances.later) s.ensures.searched
