use Rattle.std.proofs.Common.{◌≡◌, [], ◌∷◌, length, nat_lt, sym, ap, ap₂, ◌∙◌, subst}
use Rattle.pl_model.specs.Control.{before}
use Rattle.pl_model.specs.Resolution.{goal as a_goal, branch}
use Rattle.iso_search.specs.declared.choices.Alternative.TheVariants.{Branch}
use Rattle.iso_search.specs.declared.search.Search.{Search}
use Rattle.iso_search.specs.Outcomes.{IsMade}
use Rattle.iso_search.specs.Reading.{reads}
use Rattle.iso_search.specs.Searching.{node_of}
use Rattle.iso_search.proofs.Over.{over_made, over_full}
use Rattle.iso_search.proofs.After.{after_push, full}
use Rattle.iso_search.specs.declared.outcome.Outcome.TheVariants.{Raise}
use Rattle.iso_search.specs.declared.outcome.Fault.TheVariants.{Choices}
use Rattle.iso_search.proofs.search.Search.disjunction.Goals as goal

pub returns-in-None-clause-step : goal.returns-in-None-clause-step
returns-in-None-clause-step c t p =
    let e = c.args.self.now in
    let b = c.push.new.self in
    let d = c.make_choice.new.self in
    let r = reads t.view e.store in
    let n = node_of t.view e c.args.rest in
    let pushed = c.in_ok-other.ensures in
    let kept = c.in_ok-made.ensures.kept in
    let made = subst (λ o. IsMade t.view o b Branch c.in_ok-other.other d) c.in-None.is (c.in_ok-made.ensures.made t.view) in
    over_full t e d n p (branch (before (a_goal (r c.args.right) c.args.cut ∷ []) n)) (λ k. a_goal (r c.args.left) c.args.cut ∷ [])
    (ap₂ (λ l k. nat_lt (length l) k) (sym (pushed.choices t.view)) (sym (ap (λ (s : Search). s.budgets.choices) pushed.kept)) ∙ made.0)
    (made.1 ∙ pushed.choices t.view)
    (ap (λ (s : Search). s.next_variable) kept ∙ ap (λ (s : Search). s.next_variable) pushed.kept)
    (ap (λ (s : Search). s.inferences) kept ∙ ap (λ (s : Search). s.inferences) pushed.kept)

pub returns-in_ok-list-in-Some-clause-step : goal.returns-in_ok-list-in-Some-clause-step
returns-in_ok-list-in-Some-clause-step c t p =
    let e = c.args.self.now in
    let b = c.push.new.self in
    let d = c.make_choice.new.self in
    let f = c.push-in-Some.new.self in
    let v = t.view in
    let r = reads v e.store in
    let n = node_of v e c.args.rest in
    let pushed = c.in_ok-other.ensures in
    let again = c.in_ok-list-in-Some.ensures in
    let kept = c.in_ok-made.ensures.kept in
    let made = subst (λ o. IsMade v o b Branch c.in_ok-other.other d) c.in-Some.is (c.in_ok-made.ensures.made v) in
    let stores : d.store ≡ e.store = ap (λ (s : Search). s.store) kept ∙ ap (λ (s : Search). s.store) pushed.kept in
    over_made t e f n p (branch (before (a_goal (r c.args.right) c.args.cut ∷ []) n)) (λ k. a_goal (r c.args.left) c.args.cut ∷ []) c.in_ok-list-in-Some.list
    (ap₂ (λ l k. nat_lt (length l) k) (sym (pushed.choices v)) (sym (ap (λ (s : Search). s.budgets.choices) pushed.kept)) ∙ made.0)
    (again.choices v ∙ made.1 ∙ ap₂ (λ m l. branch m ∷ l) (pushed.node v) (pushed.choices v))
    (again.node v
    ∙ ap₂ (λ s m. before (a_goal (reads v s c.args.left) c.args.cut ∷ []) m) stores
    (ap (λ (s : Search). node_of v s c.args.rest) kept ∙ pushed.nodes v c.args.rest c.requires.rest))
    (ap (λ (s : Search). s.next_variable) again.kept ∙ ap (λ (s : Search). s.next_variable) kept ∙ ap (λ (s : Search). s.next_variable) pushed.kept)
    (ap (λ (s : Search). s.inferences) again.kept ∙ ap (λ (s : Search). s.inferences) kept ∙ ap (λ (s : Search). s.inferences) pushed.kept)

pub returns-in-None-clause-after : goal.returns-in-None-clause-after
returns-in-None-clause-after c =
    let pushed = c.in_ok-other.ensures in
    after_push c.args.self.now c.push.new.self c.make_choice.new.self (Raise Choices) pushed.longer pushed.nodes
    (ap (λ (x : Search). x.budgets) pushed.kept) (full c.push.new.self c.make_choice.new.self c.in_ok-made.ensures.kept)
