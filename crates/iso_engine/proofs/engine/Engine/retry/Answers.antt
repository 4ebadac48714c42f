use Rattle.std.proofs.Common.{refl, sym, ap, subst, ◌∙◌}
use Rattle.term_store.specs.Contents.{term_at}
use Rattle.iso_search.specs.declared.choices.Purpose.{Purpose}
use Rattle.iso_engine.specs.CalledGoals.{HasPredicate}
use Rattle.iso_engine.specs.Purposes.{listed_in}
use Rattle.iso_engine.specs.Views.{view_of}
use Rattle.iso_search.specs.declared.failure.Back.TheVariants.{Retry}
use Rattle.iso_search.specs.Searching.{IsWhole}
use Rattle.iso_engine.specs.Retried.{IsPutBack}
use Rattle.iso_engine.specs.declared.engine.Engine.{Engine}
use Rattle.iso_engine.specs.Retrying.{IsGoneOn, IsTried}
use Rattle.iso_search.specs.declared.outcome.Outcome.{Outcome}
use Rattle.iso_engine.proofs.Asking.{goal_over}
use Rattle.iso_engine.proofs.Purposes.{listed_callable}
use Rattle.iso_engine.proofs.Solutions.{view_is}
use Rattle.iso_engine.proofs.Refusals.{at_exit, refused_end, refused_list, refused_on}
use Rattle.iso_engine.proofs.Retries.{put_back, tried}
use Rattle.iso_engine.proofs.engine.Engine.retry.Goals as goal

pub returns-clause-gone : goal.returns-clause-gone
returns-clause-gone g c =
    let e = c.args.self.now in
    let m = g.W.A.Atoms.held c.args.atoms.now in
    let n = g.W.A.Atoms.held c.retry_clauses.new.atoms in
    let t = g.W.World.told c.args.world.now in
    let u = g.W.World.told c.retry_clauses.new.world in
    let went = c.in_ok-go_on.ensures in
    let f : Engine = record e { search = c.retry_clauses.new.search; doing = c.go_on.new.self.doing } in
    let tries = c.trying_procedure-procedure.ensures e.search.store c.args.goal
    (λ resolves. subst (λ x. HasPredicate x c.request_at-request.result.procedure)
    (c.listed_at-listed.ensures.stands ∙ ap (λ (q : Purpose). listed_in q (term_at e.search.store c.args.goal)) resolves) c.request_at-request.ensures.0) in
    subst (λ (z : Engine). IsTried t e (Retry c.args.purpose c.args.goal c.args.generation c.args.place c.args.next) n u z) (sym went.kept)
    (tried m n t u e f c.args.purpose c.args.goal c.args.generation c.args.place c.args.next c.in_ok-outcome.outcome c.trying_procedure-procedure.result
    c.retry_clauses.ensures.holds c.requires.held c.requires.open c.requires.next tries c.in_ok-outcome.ensures.retried went.follows refl)

pub returns-in_err-outcome-clause-gone : goal.returns-in_err-outcome-clause-gone
returns-in_err-outcome-clause-gone g c =
    let t = g.W.World.told c.args.world.now in
    let u = g.W.World.told c.retry_clauses.new.world in
    let e = c.args.self.now in
    let x = c.retry_clauses.new.search in
    let f : Engine = record e { search = x } in
    let w = c.in_err-outcome.field-0.0 in
    refused_end Outcome c.from_residual.result w (at_exit c.from_residual.result w c.from_residual.ensures.1)
    (IsPutBack t e.search c.args.purpose c.args.goal c.args.generation c.args.place c.args.next u x)
    (IsGoneOn t e (Retry c.args.purpose c.args.goal c.args.generation c.args.place c.args.next) (g.W.A.Atoms.held c.retry_clauses.new.atoms) u f)
    c.in_err-outcome.ensures.put_back
    (λ s again put. (again, put_back t u e x c.args.purpose c.args.goal c.args.generation c.args.place c.args.next put))

pub returns-in_err-outcome-clause-whole : goal.returns-in_err-outcome-clause-whole
returns-in_err-outcome-clause-whole g c =
    let w = c.in_err-outcome.field-0.0 in
    refused_on Outcome c.from_residual.result w (at_exit c.from_residual.result w c.from_residual.ensures.1) (IsWhole c.retry_clauses.new.search) c.in_err-outcome.ensures.whole

pub returns-in_err-outcome-clause-refusals : goal.returns-in_err-outcome-clause-refusals
returns-in_err-outcome-clause-refusals g c =
    let w = c.in_err-outcome.field-0.0 in
    refused_list Outcome c.from_residual.result w (at_exit c.from_residual.result w c.from_residual.ensures.1) (g.W.A.Atoms.refusals c.args.atoms.now)
    (g.W.A.Atoms.refusals c.retry_clauses.new.atoms) c.in_err-outcome.ensures.refusals

pub request_at-request-requires-clause-callable : goal.request_at-request-requires-clause-callable
request_at-request-requires-clause-callable g c =
    let a = c.args.atoms.now in
    let m = g.W.A.Atoms.held a in
    let t = g.W.World.told c.args.world.now in
    let s = c.args.self.now.search.store in
    let over = goal_over s c.mark-mark.result c.args.goal c.mark-mark.ensures.mark c.mark-mark.ensures.here c.requires.goal in
    listed_callable c.args.purpose s c.args.goal c.listed_at-listed.result over c.listed_at-listed.ensures.stands (view_of m t)
    (view_is m t (g.met.W.A.Atoms.fixed_held a) (g.met.W.A.Atoms.unlike a) (g.met.W.A.Atoms.finite a)) c.requires.open.callable
