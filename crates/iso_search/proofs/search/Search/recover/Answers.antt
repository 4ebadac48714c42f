use Rattle.std.proofs.Common.{◌≡◌, codes, length, refl, ap, subst, ◌∙◌}
use Rattle.pl_term.specs.Cells.{cells}
use Rattle.pl_term.specs.Variables.{variables}
use Rattle.pl_model.specs.History.{Proc}
use Rattle.pl_model.specs.Balls.{error_ball}
use Rattle.pl_model.specs.Control.{catch_proc}
use Rattle.term_store.specs.Heap.{atom_name}
use Rattle.iso_search.specs.declared.search.Search.{Search}
use Rattle.iso_search.specs.Outcomes.{fault_term, state_in}
use Rattle.iso_search.specs.Reading.{reads}
use Rattle.iso_search.specs.Recovering.{IsBallRefused, IsBallTaken, IsBallTaking, ball_result}
use Rattle.iso_search.specs.Searching.{node_of}
use Rattle.iso_search.specs.Spelling.{spelled, text_of}
use Rattle.iso_search.proofs.Naming.{catch_is, text_is}
use Rattle.iso_search.proofs.Recoveries.{at_catch_error, at_catch_fits, copy_kept}
use Rattle.iso_search.proofs.search.Search.recover.Goals as goal

pub returns-in_ok-recovery-in-Taken-clause-step : goal.returns-in_ok-recovery-in-Taken-clause-step
returns-in_ok-recovery-in-Taken-clause-step c t view =
    let e = c.args.self.now in
    let d = c.take_ball.new.self in
    let point = c.args.point in
    let kept = c.in-Taken.kept in
    let took : IsBallTaken e c.args.ball kept d = subst (IsBallTaking e c.args.ball d) c.in-Taken.is c.in_ok-taking.ensures.taken in
    let count = length (variables kept) in
    let need = cells kept in
    let copy = copy_kept t.view kept c.args.ball count need took.copy refl refl in
    c.in_ok-recovery-in-Taken.ensures.step t view
    ∙ at_catch_fits t e d point.next count need point.catcher point.recovery (spelled (text_of t.view.names) c.args.ball) took.same (took.choices t.view) took.next took.used
    copy (took.fits t point.next)

pub returns-in_ok-recovery-in-Refused-clause-step : goal.returns-in_ok-recovery-in-Refused-clause-step
returns-in_ok-recovery-in-Refused-clause-step c t view =
    let v = t.view in
    let e = c.args.self.now in
    let d = c.take_ball.new.self in
    let point = c.args.point in
    let g = text_of v.names in
    let ball = spelled g c.args.ball in
    let error = spelled g c.in_ok-error-in-Refused.error in
    let fault = c.in-Refused.fault in
    let took : IsBallRefused e c.args.ball fault d = subst (IsBallTaking e c.args.ball d) c.in-Refused.is c.in_ok-taking.ensures.taken in
    let is : error ≡ error_ball (fault_term (reads v e.store) fault) catch_proc =
    c.in_ok-error-in-Refused.ensures.reads v view
    ∙ ap (λ (x : Search). let p : Proc = record { name = g (atom_name 55); arity = 3 } in error_ball (fault_term (reads v x.store) fault) p) took.same
    ∙ ap (λ n. let p : Proc = record { name = n; arity = 3 } in error_ball (fault_term (reads v e.store) fault) p) (text_is v view 55 (codes "catch") catch_is) in
    c.in_ok-recovery-in-Refused.ensures.step t view
    ∙ ap (λ (x : Search). ball_result (state_in t x) (node_of v x point.next) (reads v x.store point.catcher) (reads v x.store point.recovery) e.next_variable error) took.same
    ∙ at_catch_error t e point.next point.catcher point.recovery fault ball error took.budget is (took.fits t point.next)
