use Rattle.std.proofs.Common.{◌≡◌, ◌≤◌, length, refl, sym, ap, subst, ◌∙◌}
use Rattle.term_store.specs.Contents.{Holds, term_at}
use Rattle.iso_search.specs.declared.choices.Purpose.{Purpose}
use Rattle.iso_engine.specs.CalledGoals.{HasPredicate}
use Rattle.iso_engine.specs.Purposes.{listed_in}
use Rattle.iso_engine.specs.Views.{view_of}
use Rattle.iso_search.specs.declared.failure.Back.TheVariants.{Retry}
use Rattle.iso_engine.specs.declared.engine.Engine.{Engine}
use Rattle.iso_engine.specs.Retrying.{IsTried}
use Rattle.iso_search.specs.declared.search.Search.{Search}
use Rattle.iso_engine.specs.Retried.{IsNextRun}
use Rattle.iso_engine.proofs.Asking.{goal_over}
use Rattle.iso_engine.proofs.KnownAnswers.{same_held, where_none, where_some}
use Rattle.iso_engine.proofs.Purposes.{listed_callable}
use Rattle.iso_engine.proofs.Solutions.{view_is}
use Rattle.iso_engine.proofs.Retries.{put_again, tried}
use Rattle.iso_engine.proofs.engine.Engine.retry_known.Goals as goal

pub returns-in_ok-go_on-in-Some-clause-gone : goal.returns-in_ok-go_on-in-Some-clause-gone
returns-in_ok-go_on-in-Some-clause-gone g c =
    let e = c.args.self.now in
    let m = g.W.A.Atoms.held c.args.atoms.now in
    let n = g.W.A.Atoms.held c.retry_known.new.atoms in
    let t = g.W.World.told c.args.world.now in
    let u = g.W.World.told c.retry_known.new.world in
    let x = c.retry_known.new.search in
    let went = c.in_ok-go_on-in-Some.ensures in
    let f : Engine = record e { search = x; doing = c.go_on.new.self.doing } in
    let o = c.in-Some.outcome in
    let run = where_some (IsNextRun t e.search c.args.purpose c.args.goal c.args.generation c.args.place c.args.next n u x) c.in_ok-known.known o c.in-Some.is c.in_ok-known.ensures.retried in
    let tries = c.trying_procedure-procedure.ensures e.search.store c.args.goal
    (λ resolves. subst (λ x. HasPredicate x c.request_at-request.result.procedure)
    (c.listed_at-listed.ensures.stands ∙ ap (λ (q : Purpose). listed_in q (term_at e.search.store c.args.goal)) resolves) c.request_at-request.ensures.0) in
    subst (λ (z : Engine). IsTried t e (Retry c.args.purpose c.args.goal c.args.generation c.args.place c.args.next) n u z) (sym went.kept)
    (tried m n t u e f c.args.purpose c.args.goal c.args.generation c.args.place c.args.next o c.trying_procedure-procedure.result
    (same_held m n c.retry_known.ensures.held) c.requires.held c.requires.open c.requires.next tries run went.follows refl)

pub returns-in_ok-put_back-in-None-clause-gone : goal.returns-in_ok-put_back-in-None-clause-gone
returns-in_ok-put_back-in-None-clause-gone g c =
    let e = c.args.self.now in
    let t = g.W.World.told c.args.world.now in
    let u = g.W.World.told c.retry_known.new.world in
    let d : Search = c.retry_known.new.search in
    let none = where_none ((u ≡ t) × (d ≡ e.search)) c.in_ok-known.known c.in-None.is c.in_ok-known.ensures.none in
    put_again t u e d c.put_back.new.search c.args.purpose c.args.goal c.args.generation c.args.place c.args.next none.0 none.1 c.in_ok-put_back-in-None.ensures.choices c.put_back.ensures.kept

pub put_back-requires-clause-goal : goal.put_back-requires-clause-goal
put_back-requires-clause-goal g c =
    let e = c.args.self.now in
    let d : Search = c.retry_known.new.search in
    let none = where_none ((g.W.World.told c.retry_known.new.world ≡ g.W.World.told c.args.world.now) × (d ≡ e.search)) c.in_ok-known.known c.in-None.is c.in_ok-known.ensures.none in
    subst (λ (x : Search). Holds x.store c.args.goal) (sym none.1) c.requires.goal

pub put_back-requires-clause-next : goal.put_back-requires-clause-next
put_back-requires-clause-next g c =
    let e = c.args.self.now in
    let d : Search = c.retry_known.new.search in
    let none = where_none ((g.W.World.told c.retry_known.new.world ≡ g.W.World.told c.args.world.now) × (d ≡ e.search)) c.in_ok-known.known c.in-None.is c.in_ok-known.ensures.none in
    subst (λ (x : Search). c.args.next ≤ length x.frames.items) (sym none.1) c.requires.next

pub request_at-request-requires-clause-callable : goal.request_at-request-requires-clause-callable
request_at-request-requires-clause-callable g c =
    let a = c.args.atoms.now in
    let m = g.W.A.Atoms.held a in
    let t = g.W.World.told c.args.world.now in
    let s = c.args.self.now.search.store in
    let over = goal_over s c.mark-mark.result c.args.goal c.mark-mark.ensures.mark c.mark-mark.ensures.here c.requires.goal in
    listed_callable c.args.purpose s c.args.goal c.listed_at-listed.result over c.listed_at-listed.ensures.stands (view_of m t)
    (view_is m t (g.met.W.A.Atoms.fixed_held a) (g.met.W.A.Atoms.unlike a) (g.met.W.A.Atoms.finite a)) c.requires.open.callable
