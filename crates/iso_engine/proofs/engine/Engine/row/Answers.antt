use Rattle.std.proofs.Common.{◌≡◌, [], None, inl, refl, sym, ap, subst}
use Rattle.world_api.specs.declared.visit.Procedure.{Procedure}
use Rattle.world_api.specs.Told.{Told}
use Rattle.world_api.proofs.Gaining.{gains_weaker}
use Rattle.iso_search.specs.declared.search.Search.{Search}
use Rattle.iso_engine.specs.declared.engine.Engine.{Engine}
use Rattle.iso_engine.specs.Ready.{IsReady}
use Rattle.iso_engine.specs.Slices.{IsStepped}
use Rattle.iso_engine.specs.Spending.{IsSpent}
use Rattle.iso_search.specs.declared.outcome.Outcome.{Outcome}
use Rattle.iso_engine.proofs.Refusals.{at_exit, refused_end, refused_list}
use Rattle.iso_engine.proofs.RowTaken.{IsFollowedAs, given_text, led_moved, refused_stepped, row_held, stopped_ready}
use Rattle.iso_engine.proofs.Solutions.{view_is}
use Rattle.iso_engine.proofs.engine.Engine.row.Goals as goal

pub run_row-requires-clause-held : goal.run_row-requires-clause-held
run_row-requires-clause-held g c =
    let e = c.args.self.now in
    let a = c.args.atoms.now in
    let l = c.requires.list in
    row_held (g.A.Atoms.held a) c.requires.ready.0 e c.args.goal.now l.0 l.1 c.args.rest l.2 l.3 c.requires.ready.1 (g.met.A.Atoms.fixed_held a)
    (g.met.A.Atoms.unlike a) (g.met.A.Atoms.finite a)

pub returns-in_err-outcome-clause-asked : goal.returns-in_err-outcome-clause-asked
returns-in_err-outcome-clause-asked g c =
    let e = c.args.self.now in
    let a = c.args.atoms.now in
    let m = g.A.Atoms.held a in
    let l = c.requires.list in
    gains_weaker _ _ (g.A.Atoms.asked a) (g.A.Atoms.asked c.run_row.new.atoms)
    (λ x h t. given_text m t e c.args.goal.now l.0 l.1 c.args.rest l.2 l.3 c.requires.row
    (view_is m t (g.met.A.Atoms.fixed_held a) (g.met.A.Atoms.unlike a) (g.met.A.Atoms.finite a)) x h)
    c.run_row.ensures.asked

pub returns-in_err-go_on-clause-asked : goal.returns-in_err-go_on-clause-asked
returns-in_err-go_on-clause-asked g c =
    let e = c.args.self.now in
    let a = c.args.atoms.now in
    let m = g.A.Atoms.held a in
    let l = c.requires.list in
    gains_weaker _ _ (g.A.Atoms.asked a) (g.A.Atoms.asked c.run_row.new.atoms)
    (λ x h t. given_text m t e c.args.goal.now l.0 l.1 c.args.rest l.2 l.3 c.requires.row
    (view_is m t (g.met.A.Atoms.fixed_held a) (g.met.A.Atoms.unlike a) (g.met.A.Atoms.finite a)) x h)
    c.run_row.ensures.asked

pub returns-clause-asked : goal.returns-clause-asked
returns-clause-asked g c =
    let e = c.args.self.now in
    let a = c.args.atoms.now in
    let m = g.A.Atoms.held a in
    let l = c.requires.list in
    gains_weaker _ _ (g.A.Atoms.asked a) (g.A.Atoms.asked c.run_row.new.atoms)
    (λ x h t. given_text m t e c.args.goal.now l.0 l.1 c.args.rest l.2 l.3 c.requires.row
    (view_is m t (g.met.A.Atoms.fixed_held a) (g.met.A.Atoms.unlike a) (g.met.A.Atoms.finite a)) x h)
    c.run_row.ensures.asked

pub returns-clause-ready : goal.returns-clause-ready
returns-clause-ready g c t ready =
    let e = c.args.self.now in
    let m = g.A.Atoms.held c.args.atoms.now in
    let there = c.run_row.new.atoms in
    let n = g.A.Atoms.held there in
    let r = c.args.goal.now in
    let l = c.requires.list in
    let view = view_is n t (g.met.A.Atoms.fixed_held there) (g.met.A.Atoms.unlike there) (g.met.A.Atoms.finite there) in
    let k = c.in_ok-outcome.ensures in
    let went = c.in_ok-go_on.ensures in
    let f : Engine = record e { search = c.run_row.new.search; doing = c.go_on.new.self.doing } in
    let moved = led_moved m n t e f r l.0 l.1 c.args.rest l.2 l.3 c.requires.rest c.requires.row c.run_row.ensures.holds view ready c.in_ok-outcome.outcome k.tried refl refl
    (subst (λ (p : Procedure). IsFollowedAs f c.args.rest p c.in_ok-outcome.outcome) c.procedure.ensures went.follows) in
    subst (λ (z : Engine). IsReady n t z) (sym went.kept) moved.1

pub returns-clause-stepped : goal.returns-clause-stepped
returns-clause-stepped g c t ready =
    let e = c.args.self.now in
    let m = g.A.Atoms.held c.args.atoms.now in
    let there = c.run_row.new.atoms in
    let n = g.A.Atoms.held there in
    let r = c.args.goal.now in
    let l = c.requires.list in
    let view = view_is n t (g.met.A.Atoms.fixed_held there) (g.met.A.Atoms.unlike there) (g.met.A.Atoms.finite there) in
    let k = c.in_ok-outcome.ensures in
    let went = c.in_ok-go_on.ensures in
    let f : Engine = record e { search = c.run_row.new.search; doing = c.go_on.new.self.doing } in
    let moved = led_moved m n t e f r l.0 l.1 c.args.rest l.2 l.3 c.requires.rest c.requires.row c.run_row.ensures.holds view ready c.in_ok-outcome.outcome k.tried refl refl
    (subst (λ (p : Procedure). IsFollowedAs f c.args.rest p c.in_ok-outcome.outcome) c.procedure.ensures went.follows) in
    subst (λ (z : Engine). IsStepped m t e None n t z []) (sym went.kept) moved.0

pub returns-clause-spent : goal.returns-clause-spent
returns-clause-spent g c =
    let e = c.args.self.now in
    let m = g.A.Atoms.held c.args.atoms.now in
    let there = c.run_row.new.atoms in
    let n = g.A.Atoms.held there in
    let r = c.args.goal.now in
    let l = c.requires.list in
    let t = c.requires.ready.0 in
    let ready = c.requires.ready.1 in
    let view = view_is n t (g.met.A.Atoms.fixed_held there) (g.met.A.Atoms.unlike there) (g.met.A.Atoms.finite there) in
    let k = c.in_ok-outcome.ensures in
    let went = c.in_ok-go_on.ensures in
    let f : Engine = record e { search = c.run_row.new.search; doing = c.go_on.new.self.doing } in
    let moved = led_moved m n t e f r l.0 l.1 c.args.rest l.2 l.3 c.requires.rest c.requires.row c.run_row.ensures.holds view ready c.in_ok-outcome.outcome k.tried refl refl
    (subst (λ (p : Procedure). IsFollowedAs f c.args.rest p c.in_ok-outcome.outcome) c.procedure.ensures went.follows) in
    subst (λ (z : Engine). IsSpent e.search.inferences z.search.inferences) (sym went.kept) moved.2

pub returns-in_err-outcome-clause-ready : goal.returns-in_err-outcome-clause-ready
returns-in_err-outcome-clause-ready g c =
    let e = c.args.self.now in
    let m = g.A.Atoms.held c.args.atoms.now in
    let there = c.run_row.new.atoms in
    let n = g.A.Atoms.held there in
    let r = c.args.goal.now in
    let l = c.requires.list in
    let x = c.run_row.new.search in
    let f : Engine = record e { search = x } in
    let w = c.in_err-outcome.field-0.0 in
    let exit = at_exit c.from_residual.result w c.from_residual.ensures.1 in
    refused_end Outcome c.from_residual.result w exit (x ≡ e.search) (λ o. (t : Told) → IsReady m t e → IsReady n t f) c.in_err-outcome.ensures.taken_back
    (λ s again back t ready. stopped_ready m n t e f r l.0 l.1 c.args.rest l.2 l.3 c.requires.rest c.requires.row c.run_row.ensures.holds
    (view_is n t (g.met.A.Atoms.fixed_held there) (g.met.A.Atoms.unlike there) (g.met.A.Atoms.finite there)) ready (g.met.A.Atoms.fixed_held there)
    (g.met.A.Atoms.unlike there) (g.met.A.Atoms.finite there) (ap (λ (y : Search). let z : Engine = record e { search = y } in z) back))

pub returns-in_err-outcome-clause-stepped : goal.returns-in_err-outcome-clause-stepped
returns-in_err-outcome-clause-stepped g c =
    let e = c.args.self.now in
    let m = g.A.Atoms.held c.args.atoms.now in
    let there = c.run_row.new.atoms in
    let n = g.A.Atoms.held there in
    let r = c.args.goal.now in
    let l = c.requires.list in
    let x = c.run_row.new.search in
    let f : Engine = record e { search = x } in
    let w = c.in_err-outcome.field-0.0 in
    let exit = at_exit c.from_residual.result w c.from_residual.ensures.1 in
    refused_end Outcome c.from_residual.result w exit (x ≡ e.search) (λ o. (t : Told) → IsReady m t e → IsStepped m t e o n t f []) c.in_err-outcome.ensures.taken_back
    (λ s again back t ready. refused_stepped m n t e f r l.0 l.1 c.args.rest l.2 l.3 c.requires.rest c.requires.row c.run_row.ensures.holds
    (view_is n t (g.met.A.Atoms.fixed_held there) (g.met.A.Atoms.unlike there) (g.met.A.Atoms.finite there)) ready (g.met.A.Atoms.fixed_held there)
    (g.met.A.Atoms.unlike there) (g.met.A.Atoms.finite there) (ap (λ (y : Search). let z : Engine = record e { search = y } in z) back) s again)

pub returns-in_err-outcome-clause-spent : goal.returns-in_err-outcome-clause-spent
returns-in_err-outcome-clause-spent g c =
    let e = c.args.self.now in
    let x = c.run_row.new.search in
    let w = c.in_err-outcome.field-0.0 in
    refused_end Outcome c.from_residual.result w (at_exit c.from_residual.result w c.from_residual.ensures.1) (x ≡ e.search) (λ o. IsSpent e.search.inferences x.inferences)
    c.in_err-outcome.ensures.taken_back (λ s again back. inl (ap (λ (y : Search). y.inferences) back))

pub returns-in_err-outcome-clause-refusals : goal.returns-in_err-outcome-clause-refusals
returns-in_err-outcome-clause-refusals g c =
    let w = c.in_err-outcome.field-0.0 in
    refused_list Outcome c.from_residual.result w (at_exit c.from_residual.result w c.from_residual.ensures.1) (g.A.Atoms.refusals c.args.atoms.now)
    (g.A.Atoms.refusals c.run_row.new.atoms) c.in_err-outcome.ensures.refusals
