use Rattle.std.proofs.Common.{Some, ap, refl, sym, subst, ◌∙◌, find}
use Rattle.std.specs.Prelude.{is_some}
use Rattle.pl_model.specs.declared.threads.Thread.{Thread}
use Rattle.pl_model.specs.Threads.{is_thread, is_queue, thread_numbered}
use Rattle.hub_threads.specs.Held.{own_contents}
use Rattle.hub_threads.specs.Located.{IsAt}
use Rattle.hub_threads.proofs.Located.{located_item}
use Rattle.hub_threads.proofs.Answered.{end_over, end_runs, removed_sound, removed_queues, removed_left}
use Rattle.hub_threads.proofs.Changes.{ended_sound, ended_state}
use Rattle.hub_threads.proofs.held.queues.Queues.end.Goals as goal

pub returns-then-is_some-clause-refused : goal.returns-then-is_some-clause-refused
returns-then-is_some-clause-refused g c =
    let at = subst (λ l. IsAt (find (is_thread c.args.n) l) l c.in-Some.i) c.as_slice.ensures.value c.in-Some.ensures
    in let found = ap (λ h. thread_numbered h.state c.args.n) (sym c.self.view_is) ∙ at.found_is
    in let status = ap (λ t. is_some t.status) (sym (c.index.ensures ∙ located_item _ _ c.in-Some.i _ at)) ∙ sym c.is_some.ensures
    in rw (end_over c.args.self.now.state c.args.n at.item found (status ∙ c.if-is_some.true)) refl

pub returns-then-is_some-clause-ended : goal.returns-then-is_some-clause-ended
returns-then-is_some-clause-ended g c =
    let at = subst (λ l. IsAt (find (is_thread c.args.n) l) l c.in-Some.i) c.as_slice.ensures.value c.in-Some.ensures
    in let found = ap (λ h. thread_numbered h.state c.args.n) (sym c.self.view_is) ∙ at.found_is
    in let status = ap (λ t. is_some t.status) (sym (c.index.ensures ∙ located_item _ _ c.in-Some.i _ at)) ∙ sym c.is_some.ensures
    in rw (end_over c.args.self.now.state c.args.n at.item found (status ∙ c.if-is_some.true)) tt

pub returns-in-Err-clause-refused : goal.returns-in-Err-clause-refused
returns-in-Err-clause-refused g c =
    let at = subst (λ l. IsAt (find (is_thread c.args.n) l) l c.in-Some.i) c.as_slice.ensures.value c.in-Some.ensures
    in let found = ap (λ h. thread_numbered h.state c.args.n) (sym c.self.view_is) ∙ at.found_is
    in let status = ap (λ t. is_some t.status) (sym (c.index.ensures ∙ located_item _ _ c.in-Some.i _ at)) ∙ sym c.is_some.ensures
    in rw (end_runs c.args.self.now.state c.args.n at.item found (status ∙ c.if-is_some.false)) tt

pub returns-in-Ok-clause-refused : goal.returns-in-Ok-clause-refused
returns-in-Ok-clause-refused g c =
    let at = subst (λ l. IsAt (find (is_thread c.args.n) l) l c.in-Some.i) c.as_slice.ensures.value c.in-Some.ensures
    in let found = ap (λ h. thread_numbered h.state c.args.n) (sym c.self.view_is) ∙ at.found_is
    in let status = ap (λ t. is_some t.status) (sym (c.index.ensures ∙ located_item _ _ c.in-Some.i _ at)) ∙ sym c.is_some.ensures
    in rw (end_runs c.args.self.now.state c.args.n at.item found (status ∙ c.if-is_some.false)) tt

pub invariant_of-self : goal.invariant_of-self
invariant_of-self g c =
    let at = subst (λ l. IsAt (find (is_thread c.args.n) l) l c.in-Some.i) c.as_slice.ensures.value c.in-Some.ensures
    in let found = ap (λ h. thread_numbered h.state c.args.n) (sym c.self.view_is) ∙ at.found_is
    in let status = ap (λ t. is_some t.status) (sym (c.index.ensures ∙ located_item _ _ c.in-Some.i _ at)) ∙ sym c.is_some.ensures
    in let old = c.index_mut.ensures.value ∙ located_item _ _ c.in-Some.i _ at
    in ended_sound _ _ _ _ _ _ c.in-Some.i _ at (ap (λ t. t.number) old)
    (removed_sound (find (is_queue c.args.n) c.self.inside.queues.items) c.in-Ok.left.items _ _ _ _ _ _ c.in-Ok.ensures.removed c.self.invariant)

pub returns-in-Ok-clause-ended : goal.returns-in-Ok-clause-ended
returns-in-Ok-clause-ended g c =
    let at = subst (λ l. IsAt (find (is_thread c.args.n) l) l c.in-Some.i) c.as_slice.ensures.value c.in-Some.ensures
    in let found = ap (λ h. thread_numbered h.state c.args.n) (sym c.self.view_is) ∙ at.found_is
    in let status = ap (λ t. is_some t.status) (sym (c.index.ensures ∙ located_item _ _ c.in-Some.i _ at)) ∙ sym c.is_some.ensures
    in let old = c.index_mut.ensures.value ∙ located_item _ _ c.in-Some.i _ at
    in let gone = removed_queues (find (is_queue c.args.n) c.self.inside.queues.items) c.args.n c.in-Ok.left.items _ _ refl c.in-Ok.ensures.removed c.self.invariant.queues_once
    in rw (end_runs c.args.self.now.state c.args.n at.item found (status ∙ c.if-is_some.false)) (
      removed_left (find (is_queue c.args.n) c.self.inside.queues.items) c.in-Ok.left.items _ _ c.in-Ok.ensures.removed ∙ ap (λ h. own_contents c.args.n h.state) c.self.view_is,
      ended_state c.args.self.now _ _ _ _ _ _ c.in-Some.i c.args.n c.args.how _ c.self.view_is at (ap (λ (t : Thread g.row.M.Denot). record t { status = Some c.args.how }) old) gone c.self.invariant,
    )
