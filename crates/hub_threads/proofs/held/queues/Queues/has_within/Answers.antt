use Rattle.std.proofs.Common.{◌≡◌, ◌∙◌, ap, inl, inr, subst, true}
use Rattle.pl_term.specs.Variables.{is_in}
use Rattle.hub_threads.specs.Distinct.{has_number}
use Rattle.hub_threads.specs.Held.{thread_numbers}
use Rattle.hub_threads.proofs.held.queues.Queues.has_within.Goals as goal

pub returns-then-thread_within-clause-had : goal.returns-then-thread_within-clause-had
returns-then-thread_within-clause-had g c = λ hit.
    let one = c.thread_within.ensures.one c.if-thread_within.true in
    (one.0, one.1, one.2, inl (subst (λ ts. has_number one.0 (thread_numbers ts) ≡ true) (c.as_slice.ensures.value ∙ ap (λ h. h.state.threads) c.self.view_is) one.3))

pub returns-clause-had : goal.returns-clause-had
returns-clause-had g c = λ hit.
    let one = c.number_within.ensures.one hit in
    (one.0, one.1, one.2, inr (subst (λ ns. is_in one.0 ns ≡ true) (c.as_slice-2.ensures.value ∙ ap (λ h. h.state.joined) c.self.view_is) one.3))
