use Rattle.std.proofs.Common.{ap, refl, sym, subst, ◌∙◌}
use Rattle.std.specs.Prelude.{is_none, not}
use Rattle.pl_model.specs.Threads.{thread_named}
use Rattle.hub_threads.specs.Located.{IsAt}
use Rattle.hub_threads.proofs.Located.{located_item}
use Rattle.hub_threads.proofs.Answered.{join_found, none_left, some_left}
use Rattle.hub_threads.proofs.Changes.{joined_sound, joined_state}
use Rattle.hub_threads.proofs.held.queues.Queues.join.Goals as goal

pub returns-then-is_none-clause-refused : goal.returns-then-is_none-clause-refused
returns-then-is_none-clause-refused g c =
    let at = subst (λ l. IsAt (thread_named c.args.self.now.state c.args.t.now) l c.in-Some.i) (sym (ap (λ h. h.state.threads) c.self.view_is)) c.in-Some.ensures
    in let status = ap (λ t. is_none t.status) (sym (c.index.ensures ∙ located_item _ _ c.in-Some.i _ at)) ∙ ap not c.is_none.ensures
    in rw (join_found c.args.self.now.state c.args.t.now at.item at.found_is) tt

pub returns-then-is_none-clause-joined : goal.returns-then-is_none-clause-joined
returns-then-is_none-clause-joined g c =
    let at = subst (λ l. IsAt (thread_named c.args.self.now.state c.args.t.now) l c.in-Some.i) (sym (ap (λ h. h.state.threads) c.self.view_is)) c.in-Some.ensures
    in let status = ap (λ t. is_none t.status) (sym (c.index.ensures ∙ located_item _ _ c.in-Some.i _ at)) ∙ ap not c.is_none.ensures
    in rw at.found_is (none_left at.item.number at.item.status c.args.self.now (status ∙ ap (λ b. not (not b)) c.if-is_none.true))

pub returns-in_ok-reserve-in-Some-clause-refused : goal.returns-in_ok-reserve-in-Some-clause-refused
returns-in_ok-reserve-in-Some-clause-refused g c =
    let at = subst (λ l. IsAt (thread_named c.args.self.now.state c.args.t.now) l c.in-Some.i) (sym (ap (λ h. h.state.threads) c.self.view_is)) c.in-Some.ensures
    in let status = ap (λ t. is_none t.status) (sym (c.index.ensures ∙ located_item _ _ c.in-Some.i _ at)) ∙ ap not c.is_none.ensures
    in rw (join_found c.args.self.now.state c.args.t.now at.item at.found_is) tt

pub invariant_of-self-in-Some : goal.invariant_of-self-in-Some
invariant_of-self-in-Some g c =
    let at = subst (λ l. IsAt (thread_named c.args.self.now.state c.args.t.now) l c.in-Some.i) (sym (ap (λ h. h.state.threads) c.self.view_is)) c.in-Some.ensures
    in let status = ap (λ t. is_none t.status) (sym (c.index.ensures ∙ located_item _ _ c.in-Some.i _ at)) ∙ ap not c.is_none.ensures
    in joined_sound _ _ _ _ _ _ _ _ _ c.in-Some.i c.remove-thread.result.number at c.remove-thread.ensures.items c.take_alias.ensures c.self.invariant

pub returns-in_ok-reserve-in-Some-clause-joined : goal.returns-in_ok-reserve-in-Some-clause-joined
returns-in_ok-reserve-in-Some-clause-joined g c =
    let at = subst (λ l. IsAt (thread_named c.args.self.now.state c.args.t.now) l c.in-Some.i) (sym (ap (λ h. h.state.threads) c.self.view_is)) c.in-Some.ensures
    in let status = ap (λ t. is_none t.status) (sym (c.index.ensures ∙ located_item _ _ c.in-Some.i _ at)) ∙ ap not c.is_none.ensures
    in let thread = c.remove-thread.ensures.value ∙ located_item _ _ c.in-Some.i _ at
    in rw at.found_is (
      ap (λ t. t.status) thread,
      some_left at.item.number at.item.status c.args.self.now _ (status ∙ ap (λ b. not (not b)) c.if-is_none.false)
          (joined_state c.args.self.now _ _ _ _ _ _ _ _ _ c.in-Some.i c.remove-thread.result.number c.self.view_is at c.remove-thread.ensures.items (ap (λ t. t.number) thread) c.take_alias.ensures
          (c.push_reserved.ensures.items ∙ rw (c.in_ok-reserve-in-Some.ensures.items) refl) c.self.invariant),
    )
