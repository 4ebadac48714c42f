use Rattle.std.proofs.Common.{◌≡◌, suc, [], inl, refl, ap, subst}
use Rattle.pl_term.specs.Tree.{Chars}
use Rattle.world_api.specs.Told.{Told}
use Rattle.world_api.proofs.Gaining.{gains_weaker}
use Rattle.iso_search.specs.declared.search.Search.{Search}
use Rattle.iso_engine.specs.Leaving.{IsExitDone, exit_procedure}
use Rattle.iso_engine.specs.Ready.{IsReady}
use Rattle.iso_engine.specs.Slices.{IsStepped}
use Rattle.iso_engine.specs.Spending.{IsSpent}
use Rattle.iso_engine.specs.Standing.{staying}
use Rattle.iso_engine.specs.declared.doing.Doing.TheVariants.{Ended}
use Rattle.iso_engine.specs.declared.doing.End.TheVariants.{Exited}
use Rattle.iso_engine.specs.declared.engine.Engine.{Engine}
use Rattle.iso_engine.specs.declared.state.leaving.Leaving.{Leaving}
use Rattle.iso_engine.proofs.ExitGoals.{exit_has}
use Rattle.iso_engine.proofs.ExitsMoved.{exit_text, left_moved}
use Rattle.iso_engine.proofs.GoalsMoved.{alone_as_moved, goal_names}
use Rattle.iso_engine.proofs.Refusals.{at_exit, refused_end, refused_list, refused_step, unless_memory}
use Rattle.iso_engine.proofs.Solutions.{view_is}
use Rattle.iso_engine.proofs.TakenBack.{called_back}
use Rattle.iso_engine.proofs.engine.Engine.exit.Goals as goal

pub exit_goal-requires-clause-held : goal.exit_goal-requires-clause-held
exit_goal-requires-clause-held g c =
    let a = c.args.atoms.now in
    let l = c.requires.list in
    goal_names (g.A.Atoms.held a) c.requires.ready.0 c.args.self.now c.args.goal l.0 l.1 c.args.rest l.2 l.3 c.requires.ready.1 (g.met.A.Atoms.fixed_held a)
    (g.met.A.Atoms.unlike a) (g.met.A.Atoms.finite a)

pub returns-in-Leaves-clause-ready : goal.returns-in-Leaves-clause-ready
returns-in-Leaves-clause-ready g c t ready =
    let e = c.args.self.now in
    let there = c.exit_goal.new.atoms in
    let m = g.A.Atoms.held c.args.atoms.now in
    let n = g.A.Atoms.held there in
    let l = c.requires.list in
    let view = view_is n t (g.met.A.Atoms.fixed_held there) (g.met.A.Atoms.unlike there) (g.met.A.Atoms.finite there) in
    let s = c.exit_goal.new.search in
    let k = c.in_ok-left.ensures in
    let ball = c.in-Leaves.ball in
    let f : Engine = record e { search = s; doing = Ended (Exited ball) } in
    let done = subst (IsExitDone (staying e.stays) n e.search c.args.goal c.args.rest s) c.in-Leaves.is k.left in
    let moved = left_moved m n t e f c.args.goal l.0 l.1 c.args.rest l.2 l.3 c.exit_goal.ensures.holds view ready refl refl k.whole ball (suc e.search.inferences) done.0 done.1 refl in
    moved.1

pub returns-in-Leaves-clause-stepped : goal.returns-in-Leaves-clause-stepped
returns-in-Leaves-clause-stepped g c t ready =
    let e = c.args.self.now in
    let there = c.exit_goal.new.atoms in
    let m = g.A.Atoms.held c.args.atoms.now in
    let n = g.A.Atoms.held there in
    let l = c.requires.list in
    let view = view_is n t (g.met.A.Atoms.fixed_held there) (g.met.A.Atoms.unlike there) (g.met.A.Atoms.finite there) in
    let s = c.exit_goal.new.search in
    let k = c.in_ok-left.ensures in
    let ball = c.in-Leaves.ball in
    let f : Engine = record e { search = s; doing = Ended (Exited ball) } in
    let done = subst (IsExitDone (staying e.stays) n e.search c.args.goal c.args.rest s) c.in-Leaves.is k.left in
    let moved = left_moved m n t e f c.args.goal l.0 l.1 c.args.rest l.2 l.3 c.exit_goal.ensures.holds view ready refl refl k.whole ball (suc e.search.inferences) done.0 done.1 refl in
    moved.0

pub returns-in-Leaves-clause-spent : goal.returns-in-Leaves-clause-spent
returns-in-Leaves-clause-spent g c =
    let t = c.requires.ready.0 in
    let ready = c.requires.ready.1 in
    let e = c.args.self.now in
    let there = c.exit_goal.new.atoms in
    let m = g.A.Atoms.held c.args.atoms.now in
    let n = g.A.Atoms.held there in
    let l = c.requires.list in
    let view = view_is n t (g.met.A.Atoms.fixed_held there) (g.met.A.Atoms.unlike there) (g.met.A.Atoms.finite there) in
    let s = c.exit_goal.new.search in
    let k = c.in_ok-left.ensures in
    let ball = c.in-Leaves.ball in
    let f : Engine = record e { search = s; doing = Ended (Exited ball) } in
    let done = subst (IsExitDone (staying e.stays) n e.search c.args.goal c.args.rest s) c.in-Leaves.is k.left in
    let moved = left_moved m n t e f c.args.goal l.0 l.1 c.args.rest l.2 l.3 c.exit_goal.ensures.holds view ready refl refl k.whole ball (suc e.search.inferences) done.0 done.1 refl in
    moved.2

pub returns-in_ok-self-in-Ran-clause-ready : goal.returns-in_ok-self-in-Ran-clause-ready
returns-in_ok-self-in-Ran-clause-ready g c t ready =
    let e = c.args.self.now in
    let there = c.exit_goal.new.atoms in
    let m = g.A.Atoms.held c.args.atoms.now in
    let n = g.A.Atoms.held there in
    let l = c.requires.list in
    let view = view_is n t (g.met.A.Atoms.fixed_held there) (g.met.A.Atoms.unlike there) (g.met.A.Atoms.finite there) in
    let s = c.exit_goal.new.search in
    let k = c.in_ok-left.ensures in
    let o = c.in-Ran.outcome in
    let f : Engine = record e { search = s; doing = c.in_ok-self-in-Ran.field-0 } in
    let done = subst (IsExitDone (staying e.stays) n e.search c.args.goal c.args.rest s) c.in-Ran.is k.left in
    let moved = alone_as_moved m n t t e f c.args.goal exit_procedure l.0 l.1 c.args.rest l.2 l.3 c.requires.rest (exit_has e.search.store c.args.goal c.args.term c.requires.exits)
    c.exit_goal.ensures.holds view ready refl refl k.whole o refl done c.in_ok-self-in-Ran.ensures in
    moved.1

pub returns-in_ok-self-in-Ran-clause-stepped : goal.returns-in_ok-self-in-Ran-clause-stepped
returns-in_ok-self-in-Ran-clause-stepped g c t ready =
    let e = c.args.self.now in
    let there = c.exit_goal.new.atoms in
    let m = g.A.Atoms.held c.args.atoms.now in
    let n = g.A.Atoms.held there in
    let l = c.requires.list in
    let view = view_is n t (g.met.A.Atoms.fixed_held there) (g.met.A.Atoms.unlike there) (g.met.A.Atoms.finite there) in
    let s = c.exit_goal.new.search in
    let k = c.in_ok-left.ensures in
    let o = c.in-Ran.outcome in
    let f : Engine = record e { search = s; doing = c.in_ok-self-in-Ran.field-0 } in
    let done = subst (IsExitDone (staying e.stays) n e.search c.args.goal c.args.rest s) c.in-Ran.is k.left in
    let moved = alone_as_moved m n t t e f c.args.goal exit_procedure l.0 l.1 c.args.rest l.2 l.3 c.requires.rest (exit_has e.search.store c.args.goal c.args.term c.requires.exits)
    c.exit_goal.ensures.holds view ready refl refl k.whole o refl done c.in_ok-self-in-Ran.ensures in
    moved.0

pub returns-in_ok-self-in-Ran-clause-spent : goal.returns-in_ok-self-in-Ran-clause-spent
returns-in_ok-self-in-Ran-clause-spent g c =
    let t = c.requires.ready.0 in
    let ready = c.requires.ready.1 in
    let e = c.args.self.now in
    let there = c.exit_goal.new.atoms in
    let m = g.A.Atoms.held c.args.atoms.now in
    let n = g.A.Atoms.held there in
    let l = c.requires.list in
    let view = view_is n t (g.met.A.Atoms.fixed_held there) (g.met.A.Atoms.unlike there) (g.met.A.Atoms.finite there) in
    let s = c.exit_goal.new.search in
    let k = c.in_ok-left.ensures in
    let o = c.in-Ran.outcome in
    let f : Engine = record e { search = s; doing = c.in_ok-self-in-Ran.field-0 } in
    let done = subst (IsExitDone (staying e.stays) n e.search c.args.goal c.args.rest s) c.in-Ran.is k.left in
    let moved = alone_as_moved m n t t e f c.args.goal exit_procedure l.0 l.1 c.args.rest l.2 l.3 c.requires.rest (exit_has e.search.store c.args.goal c.args.term c.requires.exits)
    c.exit_goal.ensures.holds view ready refl refl k.whole o refl done c.in_ok-self-in-Ran.ensures in
    moved.2

pub returns-in_err-left-clause-ready : goal.returns-in_err-left-clause-ready
returns-in_err-left-clause-ready g c =
    let e = c.args.self.now in
    let there = c.exit_goal.new.atoms in
    let m = g.A.Atoms.held c.args.atoms.now in
    let n = g.A.Atoms.held there in
    let l = c.requires.list in
    let s = c.exit_goal.new.search in
    let f : Engine = record e { search = s } in
    let w = c.in_err-left.field-0.0 in
    let exit = at_exit c.from_residual.result w c.from_residual.ensures.1 in
    refused_end Leaving c.from_residual.result w exit (s ≡ e.search) (λ o. (t : Told) → IsReady m t e → IsReady n t f) c.in_err-left.ensures.taken_back
    (λ x again back t ready. (called_back m n t t e f c.exit_goal.ensures.holds (view_is n t (g.met.A.Atoms.fixed_held there) (g.met.A.Atoms.unlike there) (g.met.A.Atoms.finite there))
    ready refl (ap (λ (y : Search). let z : Engine = record e { search = y } in z) back)).1)

pub returns-in_err-left-clause-stepped : goal.returns-in_err-left-clause-stepped
returns-in_err-left-clause-stepped g c =
    let e = c.args.self.now in
    let there = c.exit_goal.new.atoms in
    let m = g.A.Atoms.held c.args.atoms.now in
    let n = g.A.Atoms.held there in
    let l = c.requires.list in
    let s = c.exit_goal.new.search in
    let f : Engine = record e { search = s } in
    let w = c.in_err-left.field-0.0 in
    let exit = at_exit c.from_residual.result w c.from_residual.ensures.1 in
    refused_end Leaving c.from_residual.result w exit (s ≡ e.search) (λ o. (t : Told) → IsReady m t e → IsStepped m t e o n t f []) c.in_err-left.ensures.taken_back
    (λ x again back t ready. refused_step m t e n t f x again
    (called_back m n t t e f c.exit_goal.ensures.holds (view_is n t (g.met.A.Atoms.fixed_held there) (g.met.A.Atoms.unlike there) (g.met.A.Atoms.finite there))
    ready refl (ap (λ (y : Search). let z : Engine = record e { search = y } in z) back)).0)

pub returns-in_err-left-clause-spent : goal.returns-in_err-left-clause-spent
returns-in_err-left-clause-spent g c =
    let e = c.args.self.now in
    let s = c.exit_goal.new.search in
    let w = c.in_err-left.field-0.0 in
    refused_end Leaving c.from_residual.result w (at_exit c.from_residual.result w c.from_residual.ensures.1) (s ≡ e.search) (λ o. IsSpent e.search.inferences s.inferences)
    c.in_err-left.ensures.taken_back (λ x again back. inl (ap (λ (y : Search). y.inferences) back))

pub returns-in_err-left-clause-refusals : goal.returns-in_err-left-clause-refusals
returns-in_err-left-clause-refusals g c =
    let w = c.in_err-left.field-0.0 in
    refused_list Leaving c.from_residual.result w (at_exit c.from_residual.result w c.from_residual.ensures.1) (g.A.Atoms.refusals c.args.atoms.now)
    (g.A.Atoms.refusals c.exit_goal.new.atoms) (unless_memory Leaving w c.in_err-left.ensures.refusals)

pub returns-in_err-left-clause-asked : goal.returns-in_err-left-clause-asked
returns-in_err-left-clause-asked g c =
    let e = c.args.self.now in
    let a = c.args.atoms.now in
    let l = c.requires.list in
    gains_weaker _ _ (g.A.Atoms.asked a) (g.A.Atoms.asked c.exit_goal.new.atoms)
    (λ (x : Chars) named t. exit_text (g.A.Atoms.held a) t e c.args.goal c.args.term l.0 l.1 c.args.rest l.2 l.3 c.requires.exits
    (view_is (g.A.Atoms.held a) t (g.met.A.Atoms.fixed_held a) (g.met.A.Atoms.unlike a) (g.met.A.Atoms.finite a)) x named)
    c.exit_goal.ensures.asks

pub returns-in-Leaves-clause-asked : goal.returns-in-Leaves-clause-asked
returns-in-Leaves-clause-asked g c =
    let e = c.args.self.now in
    let a = c.args.atoms.now in
    let l = c.requires.list in
    gains_weaker _ _ (g.A.Atoms.asked a) (g.A.Atoms.asked c.exit_goal.new.atoms)
    (λ (x : Chars) named t. exit_text (g.A.Atoms.held a) t e c.args.goal c.args.term l.0 l.1 c.args.rest l.2 l.3 c.requires.exits
    (view_is (g.A.Atoms.held a) t (g.met.A.Atoms.fixed_held a) (g.met.A.Atoms.unlike a) (g.met.A.Atoms.finite a)) x named)
    c.exit_goal.ensures.asks

pub returns-in_err-self-in-Ran-clause-asked : goal.returns-in_err-self-in-Ran-clause-asked
returns-in_err-self-in-Ran-clause-asked g c =
    let e = c.args.self.now in
    let a = c.args.atoms.now in
    let l = c.requires.list in
    gains_weaker _ _ (g.A.Atoms.asked a) (g.A.Atoms.asked c.exit_goal.new.atoms)
    (λ (x : Chars) named t. exit_text (g.A.Atoms.held a) t e c.args.goal c.args.term l.0 l.1 c.args.rest l.2 l.3 c.requires.exits
    (view_is (g.A.Atoms.held a) t (g.met.A.Atoms.fixed_held a) (g.met.A.Atoms.unlike a) (g.met.A.Atoms.finite a)) x named)
    c.exit_goal.ensures.asks

pub returns-in_ok-self-in-Ran-clause-asked : goal.returns-in_ok-self-in-Ran-clause-asked
returns-in_ok-self-in-Ran-clause-asked g c =
    let e = c.args.self.now in
    let a = c.args.atoms.now in
    let l = c.requires.list in
    gains_weaker _ _ (g.A.Atoms.asked a) (g.A.Atoms.asked c.exit_goal.new.atoms)
    (λ (x : Chars) named t. exit_text (g.A.Atoms.held a) t e c.args.goal c.args.term l.0 l.1 c.args.rest l.2 l.3 c.requires.exits
    (view_is (g.A.Atoms.held a) t (g.met.A.Atoms.fixed_held a) (g.met.A.Atoms.unlike a) (g.met.A.Atoms.finite a)) x named)
    c.exit_goal.ensures.asks
