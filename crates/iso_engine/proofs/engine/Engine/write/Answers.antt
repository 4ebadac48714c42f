use Rattle.std.proofs.Common.{◌≡◌, [], ◌++◌, List, Option, inl, refl, sym, ap, subst, ◌∙◌, append-nil}
use Rattle.std.specs.Prelude.{encode_utf8_all}
use Rattle.pl_model.specs.Resolution.{Output}
use Rattle.iso_search.specs.declared.outcome.Fault.TheVariants.{Inferences}
use Rattle.iso_search.specs.declared.outcome.Outcome.TheVariants.{Raise}
use Rattle.iso_search.specs.declared.search.Search.{Search}
use Rattle.iso_engine.specs.declared.engine.Engine.{Engine}
use Rattle.iso_engine.specs.Ready.{IsReady}
use Rattle.iso_engine.specs.Slices.{IsStepped, written_text}
use Rattle.iso_engine.specs.Spending.{IsSpent}
use Rattle.iso_engine.specs.Wrote.{IsTakenBack, IsTried, IsWrote}
use Rattle.iso_engine.specs.declared.write.wrote.Wrote.{Wrote}
use Rattle.iso_engine.proofs.Opening.{goal_held}
use Rattle.iso_engine.proofs.Refusals.{at_exit, refused_end, refused_list, refused_step, unless_memory}
use Rattle.iso_engine.proofs.Solutions.{view_is}
use Rattle.iso_engine.proofs.TakenBack.{called_back}
use Rattle.iso_engine.proofs.Writings.{ran_written, spent_written, writes_not_none}
use Rattle.iso_engine.proofs.engine.Engine.write.Goals as goal

pub write_goal-requires-clause-held : goal.write_goal-requires-clause-held
write_goal-requires-clause-held g c =
    let e = c.args.self.now in
    let a = c.args.atoms.now in
    let l = c.requires.list in
    goal_held (g.W.A.Atoms.held a) (g.W.World.told c.args.world.now) e l.0 l.1 c.args.goal c.args.rest l.2 l.3 c.requires.ready.stable (g.met.W.A.Atoms.fixed_held a)
    (g.met.W.A.Atoms.unlike a) (g.met.W.A.Atoms.finite a)

pub unreachable-requires : goal.unreachable-requires
unreachable-requires g c =
    let e = c.args.self.now in
    let a = c.args.atoms.now in
    let m = g.W.A.Atoms.held a in
    let t = g.W.World.told c.args.world.now in
    let n = g.W.A.Atoms.held c.write_goal.new.atoms in
    let u = g.W.World.told c.write_goal.new.world in
    let view = view_is m t (g.met.W.A.Atoms.fixed_held a) (g.met.W.A.Atoms.unlike a) (g.met.W.A.Atoms.finite a) in
    let tried = subst (IsTried m t e.search c.args.goal c.args.rest c.args.out.now.items n u c.write_goal.new.search c.write_goal.new.out.items) c.in_default.is c.in_ok-tried.ensures.wrote in
    writes_not_none m t e c.args.goal c.args.procedure view c.requires.writes tried.1

pub returns-in_ok-self-in-Spent-clause-ready : goal.returns-in_ok-self-in-Spent-clause-ready
returns-in_ok-self-in-Spent-clause-ready g c =
    let e = c.args.self.now in
    let there = c.write_goal.new.atoms in
    let m = g.W.A.Atoms.held c.args.atoms.now in
    let n = g.W.A.Atoms.held there in
    let t = g.W.World.told c.args.world.now in
    let u = g.W.World.told c.write_goal.new.world in
    let x = c.write_goal.new.search in
    let a = c.args.out.now.items in
    let b = c.write_goal.new.out.items in
    let view = view_is n u (g.met.W.A.Atoms.fixed_held there) (g.met.W.A.Atoms.unlike there) (g.met.W.A.Atoms.finite there) in
    let l = c.requires.list in
    let k = c.in_ok-tried.ensures in
    let wrote = subst (IsTried m t e.search c.args.goal c.args.rest a n u x b) c.in-Some.is k.wrote in
    let f : Engine = record e { search = x; doing = c.in_ok-self-in-Spent.field-0 } in
    let spent = subst (IsWrote m t e.search c.args.goal c.args.rest a n u x b) c.in-Spent.is wrote in
    let moved = spent_written m n t u e f c.args.goal c.args.procedure l.0 l.1 c.args.rest l.2 l.3 c.requires.rest c.requires.writes c.write_goal.ensures.holds view c.requires.ready
    refl refl k.whole (Raise Inferences) c.in_ok-self-in-Spent.ensures spent.0.1 spent.0.2 refl spent.1 in
    moved.1

pub returns-in_ok-self-in-Spent-clause-stepped : goal.returns-in_ok-self-in-Spent-clause-stepped
returns-in_ok-self-in-Spent-clause-stepped g c =
    let e = c.args.self.now in
    let there = c.write_goal.new.atoms in
    let m = g.W.A.Atoms.held c.args.atoms.now in
    let n = g.W.A.Atoms.held there in
    let t = g.W.World.told c.args.world.now in
    let u = g.W.World.told c.write_goal.new.world in
    let x = c.write_goal.new.search in
    let a = c.args.out.now.items in
    let b = c.write_goal.new.out.items in
    let view = view_is n u (g.met.W.A.Atoms.fixed_held there) (g.met.W.A.Atoms.unlike there) (g.met.W.A.Atoms.finite there) in
    let l = c.requires.list in
    let k = c.in_ok-tried.ensures in
    let wrote = subst (IsTried m t e.search c.args.goal c.args.rest a n u x b) c.in-Some.is k.wrote in
    let f : Engine = record e { search = x; doing = c.in_ok-self-in-Spent.field-0 } in
    let spent = subst (IsWrote m t e.search c.args.goal c.args.rest a n u x b) c.in-Spent.is wrote in
    let moved = spent_written m n t u e f c.args.goal c.args.procedure l.0 l.1 c.args.rest l.2 l.3 c.requires.rest c.requires.writes c.write_goal.ensures.holds view c.requires.ready
    refl refl k.whole (Raise Inferences) c.in_ok-self-in-Spent.ensures spent.0.1 spent.0.2 refl spent.1 in
    ([], moved.0, spent.0.3 ∙ sym (append-nil a))

pub returns-in_ok-self-in-Ran-clause-spent : goal.returns-in_ok-self-in-Ran-clause-spent
returns-in_ok-self-in-Ran-clause-spent g c =
    let e = c.args.self.now in
    let there = c.write_goal.new.atoms in
    let m = g.W.A.Atoms.held c.args.atoms.now in
    let n = g.W.A.Atoms.held there in
    let t = g.W.World.told c.args.world.now in
    let u = g.W.World.told c.write_goal.new.world in
    let x = c.write_goal.new.search in
    let a = c.args.out.now.items in
    let b = c.write_goal.new.out.items in
    let view = view_is n u (g.met.W.A.Atoms.fixed_held there) (g.met.W.A.Atoms.unlike there) (g.met.W.A.Atoms.finite there) in
    let l = c.requires.list in
    let k = c.in_ok-tried.ensures in
    let wrote = subst (IsTried m t e.search c.args.goal c.args.rest a n u x b) c.in-Some.is k.wrote in
    let f : Engine = record e { search = x; doing = c.in_ok-self-in-Ran.field-0 } in
    let run = subst (IsWrote m t e.search c.args.goal c.args.rest a n u x b) c.in-Ran.is wrote in
    let moved = ran_written m n t u e f c.args.goal c.args.procedure l.0 l.1 c.args.rest l.2 l.3 c.requires.rest c.requires.writes c.write_goal.ensures.holds view c.requires.ready
    refl refl k.whole c.in-Ran.outcome c.in_ok-self-in-Ran.ensures a b run in
    moved.1.2

pub returns-in_ok-self-in-Ran-clause-ready : goal.returns-in_ok-self-in-Ran-clause-ready
returns-in_ok-self-in-Ran-clause-ready g c =
    let e = c.args.self.now in
    let there = c.write_goal.new.atoms in
    let m = g.W.A.Atoms.held c.args.atoms.now in
    let n = g.W.A.Atoms.held there in
    let t = g.W.World.told c.args.world.now in
    let u = g.W.World.told c.write_goal.new.world in
    let x = c.write_goal.new.search in
    let a = c.args.out.now.items in
    let b = c.write_goal.new.out.items in
    let view = view_is n u (g.met.W.A.Atoms.fixed_held there) (g.met.W.A.Atoms.unlike there) (g.met.W.A.Atoms.finite there) in
    let l = c.requires.list in
    let k = c.in_ok-tried.ensures in
    let wrote = subst (IsTried m t e.search c.args.goal c.args.rest a n u x b) c.in-Some.is k.wrote in
    let f : Engine = record e { search = x; doing = c.in_ok-self-in-Ran.field-0 } in
    let run = subst (IsWrote m t e.search c.args.goal c.args.rest a n u x b) c.in-Ran.is wrote in
    let moved = ran_written m n t u e f c.args.goal c.args.procedure l.0 l.1 c.args.rest l.2 l.3 c.requires.rest c.requires.writes c.write_goal.ensures.holds view c.requires.ready
    refl refl k.whole c.in-Ran.outcome c.in_ok-self-in-Ran.ensures a b run in
    moved.1.1

pub returns-in_ok-self-in-Ran-clause-stepped : goal.returns-in_ok-self-in-Ran-clause-stepped
returns-in_ok-self-in-Ran-clause-stepped g c =
    let e = c.args.self.now in
    let there = c.write_goal.new.atoms in
    let m = g.W.A.Atoms.held c.args.atoms.now in
    let n = g.W.A.Atoms.held there in
    let t = g.W.World.told c.args.world.now in
    let u = g.W.World.told c.write_goal.new.world in
    let x = c.write_goal.new.search in
    let a = c.args.out.now.items in
    let b = c.write_goal.new.out.items in
    let view = view_is n u (g.met.W.A.Atoms.fixed_held there) (g.met.W.A.Atoms.unlike there) (g.met.W.A.Atoms.finite there) in
    let l = c.requires.list in
    let k = c.in_ok-tried.ensures in
    let wrote = subst (IsTried m t e.search c.args.goal c.args.rest a n u x b) c.in-Some.is k.wrote in
    let f : Engine = record e { search = x; doing = c.in_ok-self-in-Ran.field-0 } in
    let run = subst (IsWrote m t e.search c.args.goal c.args.rest a n u x b) c.in-Ran.is wrote in
    let moved = ran_written m n t u e f c.args.goal c.args.procedure l.0 l.1 c.args.rest l.2 l.3 c.requires.rest c.requires.writes c.write_goal.ensures.holds view c.requires.ready
    refl refl k.whole c.in-Ran.outcome c.in_ok-self-in-Ran.ensures a b run in
    (moved.0, moved.1.0, moved.2)

pub returns-in_err-tried-clause-ready : goal.returns-in_err-tried-clause-ready
returns-in_err-tried-clause-ready g c =
    let e = c.args.self.now in
    let there = c.write_goal.new.atoms in
    let m = g.W.A.Atoms.held c.args.atoms.now in
    let n = g.W.A.Atoms.held there in
    let t = g.W.World.told c.args.world.now in
    let u = g.W.World.told c.write_goal.new.world in
    let x = c.write_goal.new.search in
    let a = c.args.out.now.items in
    let b = c.write_goal.new.out.items in
    let f : Engine = record e { search = x } in
    let w = c.in_err-tried.field-0.0 in
    let exit = at_exit c.from_residual.result w c.from_residual.ensures.1 in
    refused_end (Option Wrote) c.from_residual.result w exit (IsTakenBack t e.search a u x b) (λ o. IsReady n u f) c.in_err-tried.ensures.taken_back
    (λ s again back. (called_back m n t u e f c.write_goal.ensures.holds (view_is n u (g.met.W.A.Atoms.fixed_held there) (g.met.W.A.Atoms.unlike there) (g.met.W.A.Atoms.finite there)) c.requires.ready
    back.0 (ap (λ (y : Search). let z : Engine = record e { search = y } in z) back.1)).1)

pub returns-in_err-tried-clause-stepped : goal.returns-in_err-tried-clause-stepped
returns-in_err-tried-clause-stepped g c =
    let e = c.args.self.now in
    let there = c.write_goal.new.atoms in
    let m = g.W.A.Atoms.held c.args.atoms.now in
    let n = g.W.A.Atoms.held there in
    let t = g.W.World.told c.args.world.now in
    let u = g.W.World.told c.write_goal.new.world in
    let x = c.write_goal.new.search in
    let a = c.args.out.now.items in
    let b = c.write_goal.new.out.items in
    let f : Engine = record e { search = x } in
    let w = c.in_err-tried.field-0.0 in
    let exit = at_exit c.from_residual.result w c.from_residual.ensures.1 in
    refused_end (Option Wrote) c.from_residual.result w exit (IsTakenBack t e.search a u x b)
    (λ o. (more : List Output) × IsStepped m t e o n u f more × (b ≡ a ++ encode_utf8_all (written_text more))) c.in_err-tried.ensures.taken_back
    (λ s again back. (
      [],
      refused_step m t e n u f s again (called_back m n t u e f c.write_goal.ensures.holds (view_is n u (g.met.W.A.Atoms.fixed_held there) (g.met.W.A.Atoms.unlike there) (g.met.W.A.Atoms.finite there)) c.requires.ready
          back.0 (ap (λ (y : Search). let z : Engine = record e { search = y } in z) back.1)).0,
      back.2 ∙ sym (append-nil a),
    ))

pub returns-in_err-tried-clause-spent : goal.returns-in_err-tried-clause-spent
returns-in_err-tried-clause-spent g c =
    let e = c.args.self.now in
    let there = c.write_goal.new.atoms in
    let m = g.W.A.Atoms.held c.args.atoms.now in
    let n = g.W.A.Atoms.held there in
    let t = g.W.World.told c.args.world.now in
    let u = g.W.World.told c.write_goal.new.world in
    let x = c.write_goal.new.search in
    let a = c.args.out.now.items in
    let b = c.write_goal.new.out.items in
    let f : Engine = record e { search = x } in
    let w = c.in_err-tried.field-0.0 in
    let exit = at_exit c.from_residual.result w c.from_residual.ensures.1 in
    refused_end (Option Wrote) c.from_residual.result w exit (IsTakenBack t e.search a u x b) (λ o. IsSpent e.search.inferences x.inferences) c.in_err-tried.ensures.taken_back
    (λ s again back. inl (ap (λ (y : Search). y.inferences) back.1))

pub returns-in_err-tried-clause-refusals : goal.returns-in_err-tried-clause-refusals
returns-in_err-tried-clause-refusals g c =
    let w = c.in_err-tried.field-0.0 in
    refused_list (Option Wrote) c.from_residual.result w (at_exit c.from_residual.result w c.from_residual.ensures.1) (g.W.A.Atoms.refusals c.args.atoms.now)
    (g.W.A.Atoms.refusals c.write_goal.new.atoms) (unless_memory (Option Wrote) w c.in_err-tried.ensures.refusals)
