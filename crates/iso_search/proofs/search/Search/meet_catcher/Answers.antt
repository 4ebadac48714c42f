use Rattle.std.proofs.Common.{◌≡◌, [], ◌∷◌, length, ap, subst, ◌∙◌, arith}
use Rattle.pl_model.specs.BodyChecks.{body_of}
use Rattle.pl_model.specs.Resolution.{goal as a_goal}
use Rattle.pl_model.specs.Control.{before}
use Rattle.term_store.specs.Contents.{Unified}
use Rattle.iso_search.specs.declared.recovering.Recovery.TheVariants.{Refused}
use Rattle.iso_search.specs.declared.search.Search.{Search}
use Rattle.iso_search.specs.Calling.{goal_or_error}
use Rattle.iso_search.specs.Outcomes.{state_in}
use Rattle.iso_search.specs.Reading.{reads}
use Rattle.iso_search.specs.Recovering.{recovery_result}
use Rattle.iso_search.specs.Searching.{IsWhole, choices_of, node_of}
use Rattle.iso_search.proofs.Over.{length_choices, same_state}
use Rattle.iso_search.proofs.Recoveries.{copy_read, passed_on, recovery_refused, recovery_run, stays_built}
use Rattle.iso_search.proofs.search.Search.meet_catcher.Goals as goal

pub returns-then-not-same-clause-step : goal.returns-then-not-same-clause-step
returns-then-not-same-clause-step c t view =
    let e = c.args.self.now in
    let s = c.build.new.self.store in
    let u = c.bind_terms.new.self.store in
    let place = c.in_ok-place.place in
    let point = c.args.point in
    let built = c.in_ok-place.ensures.built in
    let g = stays_built e.store s c.args.from c.args.kept place built c.in_ok-place.ensures.adds in
    let made = c.in_ok-place.ensures.kept in
    let bound = c.in_ok-same.ensures in
    let at = bound.kept ∙ ap (λ (x : Search). let y : Search = record x { store = u } in y) made in
    let found = subst (λ b. Unified b s place point.catcher u) c.if-not-same.true bound.unified in
    passed_on t view e s u g c.requires.whole point.next c.args.from place point.catcher point.recovery c.args.ball bound.adds bound.used
    (subst IsWhole made c.in_ok-place.ensures.whole) c.requires.catcher c.requires.recovery (copy_read t.view e.store s c.args.from c.args.kept c.args.ball place built c.requires.kept)
    c.bind_terms.new.self at found.0 found.1

pub returns-in-Refused-clause-step : goal.returns-in-Refused-clause-step
returns-in-Refused-clause-step c t view =
    let v = t.view in
    let e = c.args.self.now in
    let s = c.build.new.self.store in
    let b = c.bind_terms.new.self in
    let u = b.store in
    let d = c.check_body.new.self in
    let place = c.in_ok-place.place in
    let point = c.args.point in
    let built = c.in_ok-place.ensures.built in
    let g = stays_built e.store s c.args.from c.args.kept place built c.in_ok-place.ensures.adds in
    let made = c.in_ok-place.ensures.kept in
    let bound = c.in_ok-same.ensures in
    let at = bound.kept ∙ ap (λ (x : Search). let y : Search = record x { store = u } in y) made in
    let found = subst (λ q. Unified q s place point.catcher u) c.if-not-same.false bound.unified in
    let is = subst (λ k. goal_or_error (reads v d.store) k ≡ body_of (reads v u point.recovery)) c.in-Refused.is (c.in_ok-checked.ensures.checked v view) in
    ap (λ (y : Search). recovery_result t y point.next (Refused c.in-Refused.fault))
    (c.check_body.ensures.kept ∙ ap (λ (x : Search). let y : Search = record x { store = d.store } in y) at)
    ∙ recovery_refused t view e s u g c.requires.whole point.next c.args.from place point.catcher point.recovery c.args.ball bound.adds bound.used
    (subst IsWhole made c.in_ok-place.ensures.whole) c.requires.catcher c.requires.recovery (copy_read v e.store s c.args.from c.args.kept c.args.ball place built c.requires.kept)
    found.0 found.1.0 found.1.1 d.store c.in-Refused.fault c.check_body.ensures.grows.stays (subst IsWhole at bound.whole) is

pub returns-clause-step : goal.returns-clause-step
returns-clause-step c t view =
    let v = t.view in
    let e = c.args.self.now in
    let s = c.build.new.self.store in
    let b = c.bind_terms.new.self in
    let u = b.store in
    let d = c.check_body.new.self in
    let f = c.push.new.self in
    let place = c.in_ok-place.place in
    let point = c.args.point in
    let built = c.in_ok-place.ensures.built in
    let g = stays_built e.store s c.args.from c.args.kept place built c.in_ok-place.ensures.adds in
    let made = c.in_ok-place.ensures.kept in
    let bound = c.in_ok-same.ensures in
    let at = bound.kept ∙ ap (λ (x : Search). let y : Search = record x { store = u } in y) made in
    let now = c.check_body.ensures.kept ∙ ap (λ (x : Search). let y : Search = record x { store = d.store } in y) at in
    let found = subst (λ q. Unified q s place point.catcher u) c.if-not-same.false bound.unified in
    let is = subst (λ k. goal_or_error (reads v d.store) k ≡ body_of (reads v u point.recovery)) c.in-Goal.is (c.in_ok-checked.ensures.checked v view) in
    let pushed = c.in_ok-list-in-Goal.ensures in
    let tall : c.len-height.result ≡ length (choices_of v d) = omega (arith, c.len-height.ensures, d.choices.ok.0, length_choices v d) in
    let same : state_in t f ≡ state_in t d =
    same_state t f d (pushed.choices v) (ap (λ (x : Search). x.next_variable) pushed.kept) (ap (λ (x : Search). x.inferences) pushed.kept) in
    recovery_run t view e s u g c.requires.whole point.next c.args.from place point.catcher point.recovery c.args.ball bound.adds bound.used
    (subst IsWhole made c.in_ok-place.ensures.whole) c.requires.catcher c.requires.recovery (copy_read v e.store s c.args.from c.args.kept c.args.ball place built c.requires.kept)
    found.0 found.1.0 found.1.1 d.store c.in-Goal.goal f c.len-height.result c.in_ok-list-in-Goal.list c.check_body.ensures.grows.stays (subst IsWhole at bound.whole) is
    (tall ∙ ap (λ (x : Search). length (choices_of v x)) now)
    (pushed.node v ∙ ap (λ (x : Search). before (a_goal (reads v d.store c.in-Goal.goal) c.len-height.result ∷ []) (node_of v x point.next)) now)
    (same ∙ ap (state_in t) now)

pub bind_terms-requires-clause-right : goal.bind_terms-requires-clause-right
bind_terms-requires-clause-right c = c.in_ok-place.ensures.adds.places c.args.point.catcher c.requires.catcher

pub check_body-requires-clause-body : goal.check_body-requires-clause-body
check_body-requires-clause-body c =
    c.in_ok-same.ensures.adds.places c.args.point.recovery (c.in_ok-place.ensures.adds.places c.args.point.recovery c.requires.recovery)
