use Rattle.std.proofs.Common.{ap, sym, ◌∙◌}
use Rattle.hub_threads.proofs.Free.{held_by, is_held, is_free}
use Rattle.hub_threads.proofs.held.queues.Queues.is_new.Goals as goal

pub returns-then-is_some : goal.returns-then-is_some
returns-then-is_some g c =
    let queue = held_by (λ q. q.number) c.args.n _ c.args.self.now.state.queues c.queue_at.result c.is_some.result c.queue_at.ensures c.is_some.ensures
    (c.as_slice.ensures.value ∙ ap (λ h. h.state.queues) c.self.view_is)
    in is_held _ (sym queue ∙ c.if-is_some.true) (λ new. new.no_queue)

pub returns-then-is_some-2 : goal.returns-then-is_some-2
returns-then-is_some-2 g c =
    let thread = held_by (λ t. t.number) c.args.n _ c.args.self.now.state.threads c.thread_at.result c.is_some-2.result c.thread_at.ensures c.is_some-2.ensures
    (c.as_slice-2.ensures.value ∙ ap (λ h. h.state.threads) c.self.view_is)
    in is_held _ (sym thread ∙ c.if-is_some-2.true) (λ new. new.no_thread)

pub returns-then-is_some-3 : goal.returns-then-is_some-3
returns-then-is_some-3 g c =
    let alias = held_by (λ a. a.1) c.args.n _ c.args.self.now.state.aliases c.named_at.result c.is_some-3.result c.named_at.ensures c.is_some-3.ensures
    (c.as_slice-3.ensures.value ∙ ap (λ h. h.state.aliases) c.self.view_is)
    in is_held _ (sym alias ∙ c.if-is_some-3.true) (λ new. new.no_alias)

pub returns : goal.returns
returns g c =
    let queue = held_by (λ q. q.number) c.args.n _ c.args.self.now.state.queues c.queue_at.result c.is_some.result c.queue_at.ensures c.is_some.ensures
    (c.as_slice.ensures.value ∙ ap (λ h. h.state.queues) c.self.view_is)
    in let thread = held_by (λ t. t.number) c.args.n _ c.args.self.now.state.threads c.thread_at.result c.is_some-2.result c.thread_at.ensures c.is_some-2.ensures
    (c.as_slice-2.ensures.value ∙ ap (λ h. h.state.threads) c.self.view_is)
    in let alias = held_by (λ a. a.1) c.args.n _ c.args.self.now.state.aliases c.named_at.result c.is_some-3.result c.named_at.ensures c.is_some-3.ensures
    (c.as_slice-3.ensures.value ∙ ap (λ h. h.state.aliases) c.self.view_is)
    in let goal = held_by (λ x. x.0) c.args.n _ c.args.self.now.goals c.goal_at.result _ c.goal_at.ensures (sym c.is_none.ensures)
    (c.as_slice-4.ensures.value ∙ ap (λ h. h.goals) c.self.view_is)
    in is_free c.is_none.result _ (sym goal)
    (λ free. record { no_queue = sym queue ∙ c.if-is_some.false; no_thread = sym thread ∙ c.if-is_some-2.false; no_alias = sym alias ∙ c.if-is_some-3.false; no_goal = free })
    (λ new. new.no_goal)
