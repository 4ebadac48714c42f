use Rattle.std.proofs.Common.{ap, refl, sym, subst, ◌∙◌}
use Rattle.std.specs.Option.{option_map}
use Rattle.pl_model.specs.Threads.{queue_named, first_message}
use Rattle.hub_threads.specs.Held.{named_message}
use Rattle.hub_threads.specs.Located.{IsAt}
use Rattle.hub_threads.proofs.Located.{located_item}
use Rattle.hub_threads.proofs.held.queues.Queues.peek.Goals as goal

pub returns-in-Ok-clause-found : goal.returns-in-Ok-clause-found
returns-in-Ok-clause-found g c =
    let at = subst (λ l. IsAt (queue_named c.args.self.now.state c.args.q.now) l c.in-Some.i) (sym (ap (λ h. h.state.queues) c.self.view_is)) c.in-Some.ensures
    in rw at.found_is
    (c.in-Ok.ensures ∙ ap (λ q. option_map named_message (first_message (g.M.Kept.unified c.args.pattern.now) q)) (c.index.ensures ∙ located_item _ _ c.in-Some.i _ at))

pub returns-in-Err-clause-found : goal.returns-in-Err-clause-found
returns-in-Err-clause-found g c =
    let at = subst (λ l. IsAt (queue_named c.args.self.now.state c.args.q.now) l c.in-Some.i) (sym (ap (λ h. h.state.queues) c.self.view_is)) c.in-Some.ensures
    in rw at.found_is refl
