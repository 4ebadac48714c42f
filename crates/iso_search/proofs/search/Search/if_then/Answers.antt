use Rattle.std.proofs.Common.{◌≡◌, suc, [], ◌∷◌, refl, ap, ◌∙◌}
use Rattle.pl_model.specs.Resolution.{goal as a_goal, commit, barrier}
use Rattle.iso_search.specs.declared.search.Search.{Search}
use Rattle.iso_search.specs.Outcomes.{limits_in, state_in}
use Rattle.iso_search.specs.Reading.{reads}
use Rattle.iso_search.specs.Searching.{node_of}
use Rattle.iso_search.proofs.Over.{same_limits, same_state, over_same}
use Rattle.iso_search.proofs.After.{after_push}
use Rattle.iso_search.proofs.search.Search.if_then.Goals as goal

pub returns-clause-step : goal.returns-clause-step
returns-clause-step c t p =
    let e = c.args.self.now in
    let b = c.push.new.self in
    let v = t.view in
    let r = reads v e.store in
    let n = node_of v e c.args.rest in
    let pushed = c.in_ok-list.ensures in
    let stores : b.store ≡ e.store = ap (λ (s : Search). s.store) pushed.kept in
    c.in_ok-outcome.ensures.step t p n (a_goal (r c.args.then_goal) c.args.cut ∷ []) (pushed.node v)
    ∙ over_same (limits_in t b) (limits_in t e) (state_in t b) (state_in t e) n p barrier barrier
    (λ k. a_goal (reads v b.store c.args.condition) (suc k) ∷ commit k ∷ a_goal (r c.args.then_goal) c.args.cut ∷ [])
    (λ k. a_goal (r c.args.condition) (suc k) ∷ commit k ∷ a_goal (r c.args.then_goal) c.args.cut ∷ [])
    (same_limits t b e (ap (λ (s : Search). s.budgets) pushed.kept))
    (same_state t b e (pushed.choices v) (ap (λ (s : Search). s.next_variable) pushed.kept) (ap (λ (s : Search). s.inferences) pushed.kept))
    refl
    (ap (λ s k. a_goal (reads v s c.args.condition) (suc k) ∷ commit k ∷ a_goal (r c.args.then_goal) c.args.cut ∷ []) stores)

pub returns-clause-after : goal.returns-clause-after
returns-clause-after c =
    let pushed = c.in_ok-list.ensures in
    after_push c.args.self.now c.push.new.self c.enter.new.self c.in_ok-outcome.outcome pushed.longer pushed.nodes
    (ap (λ (x : Search). x.budgets) pushed.kept) c.in_ok-outcome.ensures.after
