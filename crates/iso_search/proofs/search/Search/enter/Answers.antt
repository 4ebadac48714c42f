use Rattle.std.proofs.Common.{◌≡◌, suc, ◌+◌, [], ◌∷◌, length, ap, ap₂, ◌∙◌, subst, sym, arith}
use Rattle.pl_model.specs.Control.{before}
use Rattle.pl_model.specs.Resolution.{goal as a_goal}
use Rattle.iso_search.specs.declared.search.Search.{Search}
use Rattle.iso_search.specs.Choices.{choice_at}
use Rattle.iso_search.specs.Outcomes.{IsExitIn, IsMade, exit_at}
use Rattle.iso_search.specs.Reading.{reads}
use Rattle.iso_search.specs.Searching.{node_of, choices_of}
use Rattle.iso_search.proofs.Over.{over_made, over_full}
use Rattle.iso_search.proofs.search.Search.enter.Goals as goal

pub returns-in-None-clause-step : goal.returns-in-None-clause-step
returns-in-None-clause-step c t p n more at =
    let e = c.args.self.now in
    let d = c.make_choice.new.self in
    let r = reads t.view e.store in
    let kept = c.in_ok-made.ensures.kept in
    let made = subst (λ o. IsMade t.view o e c.args.alternative c.args.behind d) c.in-None.is (c.in_ok-made.ensures.made t.view) in
    over_full t e d n p (choice_at t.view r (node_of t.view e c.args.behind) c.args.alternative)
    (λ h. a_goal (r c.args.inner) (suc h) ∷ exit_at r c.args.exit h ∷ more) made.0 made.1
    (ap (λ (s : Search). s.next_variable) kept) (ap (λ (s : Search). s.inferences) kept)

pub returns-in_ok-list-in-Some-clause-step : goal.returns-in_ok-list-in-Some-clause-step
returns-in_ok-list-in-Some-clause-step c t p n more at =
    let e = c.args.self.now in
    let d = c.make_choice.new.self in
    let b = c.push.new.self in
    let f = c.push-in-Some.new.self in
    let v = t.view in
    let r = reads v e.store in
    let out = c.in_ok-out-in-Some.ensures in
    let last = c.in_ok-list-in-Some.ensures in
    let kept = c.in_ok-made.ensures.kept in
    let made = subst (λ o. IsMade v o e c.args.alternative c.args.behind d) c.in-Some.is (c.in_ok-made.ensures.made v) in
    let height : c.in-Some.height ≡ length (choices_of v e) = made.2 in
    let next : c.in-Some.height + 1 ≡ suc (length (choices_of v e)) = omega arith in
    let stores : b.store ≡ e.store = ap (λ (s : Search). s.store) out.kept ∙ ap (λ (s : Search). s.store) kept in
    over_made t e f n p (choice_at t.view r (node_of t.view e c.args.behind) c.args.alternative)
    (λ h. a_goal (r c.args.inner) (suc h) ∷ exit_at r c.args.exit h ∷ more) c.in_ok-list-in-Some.list
    made.0
    (last.choices v ∙ out.choices v ∙ made.1)
    (last.node v
    ∙ ap₂ (λ g m. before (a_goal g (c.in-Some.height + 1) ∷ []) m) (ap (λ s. reads v s c.args.inner) stores)
    (out.node v
    ∙ ap₂ (λ x m. before (x ∷ []) m) (c.exit_task.ensures.task (reads v d.store)
    ∙ ap₂ (λ s h. exit_at (reads v s) c.args.exit h) (ap (λ (s : Search). s.store) kept) height)
    (ap (λ (s : Search). node_of v s c.args.rest) kept ∙ at))
    ∙ ap (λ h. before (a_goal (r c.args.inner) h ∷ exit_at r c.args.exit (length (choices_of v e)) ∷ more) n) next)
    (ap (λ (s : Search). s.next_variable) last.kept ∙ ap (λ (s : Search). s.next_variable) out.kept ∙ ap (λ (s : Search). s.next_variable) kept)
    (ap (λ (s : Search). s.inferences) last.kept ∙ ap (λ (s : Search). s.inferences) out.kept ∙ ap (λ (s : Search). s.inferences) kept)

pub push-requires-clause-task : goal.push-requires-clause-task
push-requires-clause-task c =
    let e = c.args.self.now in
    c.exit_task.ensures.words c.make_choice.new.self.store (subst (λ s. IsExitIn s c.args.exit) (sym (ap (λ (x : Search). x.store) c.in_ok-made.ensures.kept)) c.requires.exit)
