use Rattle.std.proofs.Common.{◌≡◌, suc, [], ◌∷◌, sym, ap, subst, ◌∙◌}
use Rattle.pl_model.specs.BodyChecks.{called_goal}
use Rattle.pl_model.specs.Resolution.{goal as a_goal}
use Rattle.pl_model.specs.Control.{over}
use Rattle.iso_search.specs.declared.search.Search.{Search}
use Rattle.iso_search.specs.Calling.{IsCheckedIn, goal_or_error}
use Rattle.iso_search.specs.Choices.{choice_at}
use Rattle.iso_search.specs.Outcomes.{exit_at, limits_in, result_in, state_in}
use Rattle.iso_search.specs.Reading.{reads}
use Rattle.iso_search.specs.Searching.{node_of}
use Rattle.iso_search.proofs.Calling.{called_over, exit_inside}
use Rattle.iso_search.proofs.Grown.{alternative_grown, node_grown, refused_by_check, state_grown}
use Rattle.iso_search.proofs.After.{after_grown, refused}
use Rattle.iso_search.proofs.search.Search.call_over.Goals as goal

pub enter-requires-clause-words : goal.enter-requires-clause-words
enter-requires-clause-words c =
    alternative_grown c.args.self.now.store c.check_called.new.self.store c.check_called.ensures.grows c.args.alternative c.requires.words

pub enter-requires-clause-exit : goal.enter-requires-clause-exit
enter-requires-clause-exit c =
    exit_inside c.args.self.now.store c.check_called.new.self.store c.check_called.ensures.grows.stays c.args.exit c.requires.exit

pub enter-requires-clause-inner : goal.enter-requires-clause-inner
enter-requires-clause-inner c = subst (IsCheckedIn c.check_called.new.self.store) c.in-Goal.is c.in_ok-checked.ensures.inside

pub returns-in_ok-outcome-in-Goal-clause-step : goal.returns-in_ok-outcome-in-Goal-clause-step
returns-in_ok-outcome-in-Goal-clause-step c t p view =
    let v = t.view in
    let e = c.args.self.now in
    let d = c.check_called.new.self in
    let f = c.enter.new.self in
    let o = c.in_ok-outcome-in-Goal.outcome in
    let inner = c.in-Goal.goal in
    let n = node_of v e c.args.rest in
    let kept = c.check_called.ensures.kept in
    let g = c.check_called.ensures.grows.stays in
    let is = subst (λ k. goal_or_error (reads v d.store) k ≡ called_goal (reads v e.store c.args.argument)) c.in-Goal.is (c.in_ok-checked.ensures.checked v view) in
    let at : node_of v d c.args.rest ≡ n = ap (λ (y : Search). node_of v y c.args.rest) kept ∙ node_grown e d.store g c.requires.whole v c.args.rest in
    let entered =
    subst (λ (y : Search). result_in t f n p o ≡ over (limits_in t y) (state_in t y) n p
    (choice_at v (reads v y.store) (node_of v y c.args.rest) c.args.alternative) (λ h. a_goal (reads v y.store inner) (suc h) ∷ exit_at (reads v y.store) c.args.exit h ∷ []))
    kept (c.in_ok-outcome-in-Goal.ensures.step t p n [] at) in
    called_over t e f d.store g c.requires.whole c.args.rest p o c.args.alternative c.args.argument inner c.args.exit c.requires.words c.requires.exit (sym is) entered

pub returns-in-Refused-clause-step : goal.returns-in-Refused-clause-step
returns-in-Refused-clause-step c t p view =
    let v = t.view in
    let e = c.args.self.now in
    let d = c.check_called.new.self in
    let g = c.check_called.ensures.grows.stays in
    let n = node_of v e c.args.rest in
    let is = subst (λ k. goal_or_error (reads v d.store) k ≡ called_goal (reads v e.store c.args.argument)) c.in-Refused.is (c.in_ok-checked.ensures.checked v view) in
    let same : state_in t d ≡ state_in t e = ap (state_in t) c.check_called.ensures.kept ∙ state_grown e d.store g c.requires.whole t in
    refused_by_check t e d n p (called_goal (reads v e.store c.args.argument))
    (λ body. over (limits_in t e) (state_in t e) n p (choice_at v (reads v e.store) n c.args.alternative) (λ h. a_goal body (suc h) ∷ exit_at (reads v e.store) c.args.exit h ∷ []))
    c.in-Refused.fault is same

pub returns-in_ok-outcome-in-Goal-clause-after : goal.returns-in_ok-outcome-in-Goal-clause-after
returns-in_ok-outcome-in-Goal-clause-after c =
    after_grown c.args.self.now c.check_called.new.self c.enter.new.self c.in_ok-outcome-in-Goal.outcome c.check_called.ensures.grows.stays
    c.requires.whole c.check_called.ensures.kept c.in_ok-outcome-in-Goal.ensures.after

pub returns-in-Refused-clause-after : goal.returns-in-Refused-clause-after
returns-in-Refused-clause-after c =
    let d = c.check_called.new.self in
    refused c.args.self.now d c.in-Refused.fault c.check_called.ensures.grows.stays c.requires.whole c.check_called.ensures.kept
    (subst (IsCheckedIn d.store) c.in-Refused.is c.in_ok-checked.ensures.inside)
