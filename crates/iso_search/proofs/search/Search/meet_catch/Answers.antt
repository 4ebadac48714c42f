use Rattle.std.proofs.Common.{◌≡◌, codes, ap, subst, ◌∙◌}
use Rattle.pl_model.specs.History.{Proc}
use Rattle.pl_model.specs.Balls.{error_ball}
use Rattle.pl_model.specs.Resolution.{State, throwing}
use Rattle.pl_model.specs.Control.{at_catch, fitting}
use Rattle.iso_search.specs.Outcomes.{fault_term, limits_in, state_in}
use Rattle.iso_search.specs.Reading.{reads}
use Rattle.iso_search.specs.Recovering.{IsRecoveryIn, recovery_result}
use Rattle.iso_search.specs.Searching.{node_of}
use Rattle.iso_search.specs.Spelling.{spelled, text_of}
use Rattle.iso_search.proofs.Naming.{catch_is, text_is}
use Rattle.iso_search.proofs.search.Search.meet_catch.Goals as goal

pub error-requires : goal.error-requires
error-requires c = subst (IsRecoveryIn c.recover.new.self.store) c.in-Refused.is c.in_ok-recovery.ensures.inside

pub returns-in-Run-clause-step : goal.returns-in-Run-clause-step
returns-in-Run-clause-step c t view =
    let e = c.args.self.now in
    let f = c.recover.new.self in
    let s = state_in t e in
    let n = node_of t.view e c.args.point.next in
    let ball = spelled (text_of t.view.names) c.args.ball in
    subst (λ o. recovery_result t f c.args.point.next o
    ≡ at_catch s n (reads t.view e.store c.args.point.catcher) (reads t.view e.store c.args.point.recovery) (fitting (limits_in t e) s n ball))
    c.in-Run.is (c.in_ok-recovery.ensures.step t view)

pub returns-in-Throw-clause-step : goal.returns-in-Throw-clause-step
returns-in-Throw-clause-step c t view =
    let e = c.args.self.now in
    let f = c.recover.new.self in
    let s = state_in t e in
    let n = node_of t.view e c.args.point.next in
    let ball = spelled (text_of t.view.names) c.args.ball in
    subst (λ o. recovery_result t f c.args.point.next o
    ≡ at_catch s n (reads t.view e.store c.args.point.catcher) (reads t.view e.store c.args.point.recovery) (fitting (limits_in t e) s n ball))
    c.in-Throw.is (c.in_ok-recovery.ensures.step t view)

pub returns-in_ok-error-in-Refused-clause-step : goal.returns-in_ok-error-in-Refused-clause-step
returns-in_ok-error-in-Refused-clause-step c t view =
    let v = t.view in
    let e = c.args.self.now in
    let f = c.recover.new.self in
    let s = state_in t e in
    let n = node_of v e c.args.point.next in
    let g = text_of v.names in
    let fault = c.in-Refused.fault in
    let outer = (node_of v f c.args.point.next).goals in
    ap (λ b. let x : State = record (state_in t f) { doing = throwing b outer } in x) (c.in_ok-error-in-Refused.ensures.reads v view)
    ∙ ap (λ a. let p : Proc = record { name = a; arity = 3 } in
    let x : State = record (state_in t f) { doing = throwing (error_ball (fault_term (reads v f.store) fault) p) outer } in x) (text_is v view 55 (codes "catch") catch_is)
    ∙ subst (λ o. recovery_result t f c.args.point.next o
    ≡ at_catch s n (reads v e.store c.args.point.catcher) (reads v e.store c.args.point.recovery) (fitting (limits_in t e) s n (spelled g c.args.ball)))
    c.in-Refused.is (c.in_ok-recovery.ensures.step t view)
