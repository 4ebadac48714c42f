use Rattle.std.proofs.Common.{◌≡◌, suc, [], ◌∷◌, ap, ap₂, ◌∙◌}
use Rattle.pl_model.specs.Control.{before}
use Rattle.pl_model.specs.Resolution.{goal as a_goal, commit, branch}
use Rattle.iso_search.specs.declared.search.Search.{Search}
use Rattle.iso_search.specs.Outcomes.{limits_in, state_in}
use Rattle.iso_search.specs.Reading.{reads}
use Rattle.iso_search.specs.Searching.{node_of}
use Rattle.iso_search.proofs.Over.{same_limits, same_state, over_same}
use Rattle.iso_search.proofs.After.{after_push}
use Rattle.iso_search.proofs.search.Search.if_then_else.Goals as goal

pub returns-clause-step : goal.returns-clause-step
returns-clause-step c t p =
    let e = c.args.self.now in
    let a = c.push.new.self in
    let b = c.push-2.new.self in
    let v = t.view in
    let r = reads v e.store in
    let n = node_of v e c.args.rest in
    let first = c.in_ok-list.ensures in
    let second = c.in_ok-behind.ensures in
    let stores : b.store ≡ e.store = ap (λ (s : Search). s.store) second.kept ∙ ap (λ (s : Search). s.store) first.kept in
    let behind : node_of v b c.in_ok-behind.behind ≡ before (a_goal (r c.args.else_goal) c.args.cut ∷ []) n =
    second.node v
    ∙ ap₂ (λ s m. before (a_goal (reads v s c.args.else_goal) c.args.cut ∷ []) m) (ap (λ (s : Search). s.store) first.kept) (first.nodes v c.args.rest c.requires.rest) in
    c.in_ok-outcome.ensures.step t p n (a_goal (r c.args.then_goal) c.args.cut ∷ []) (second.nodes v c.in_ok-list.list first.list ∙ first.node v)
    ∙ over_same (limits_in t b) (limits_in t e) (state_in t b) (state_in t e) n p
    (branch (node_of v b c.in_ok-behind.behind)) (branch (before (a_goal (r c.args.else_goal) c.args.cut ∷ []) n))
    (λ k. a_goal (reads v b.store c.args.condition) (suc k) ∷ commit k ∷ a_goal (r c.args.then_goal) c.args.cut ∷ [])
    (λ k. a_goal (r c.args.condition) (suc k) ∷ commit k ∷ a_goal (r c.args.then_goal) c.args.cut ∷ [])
    (same_limits t b e (ap (λ (s : Search). s.budgets) second.kept ∙ ap (λ (s : Search). s.budgets) first.kept))
    (same_state t b e (second.choices v ∙ first.choices v)
    (ap (λ (s : Search). s.next_variable) second.kept ∙ ap (λ (s : Search). s.next_variable) first.kept)
    (ap (λ (s : Search). s.inferences) second.kept ∙ ap (λ (s : Search). s.inferences) first.kept))
    (ap branch behind)
    (ap (λ s k. a_goal (reads v s c.args.condition) (suc k) ∷ commit k ∷ a_goal (r c.args.then_goal) c.args.cut ∷ []) stores)

pub returns-clause-after : goal.returns-clause-after
returns-clause-after c =
    let e = c.args.self.now in
    let a = c.push.new.self in
    let b = c.push-2.new.self in
    let f = c.enter.new.self in
    let first = c.in_ok-list.ensures in
    let second = c.in_ok-behind.ensures in
    let o = c.in_ok-outcome.outcome in
    after_push e a f o first.longer first.nodes (ap (λ (x : Search). x.budgets) first.kept)
    (after_push a b f o second.longer second.nodes (ap (λ (x : Search). x.budgets) second.kept) c.in_ok-outcome.ensures.after)
