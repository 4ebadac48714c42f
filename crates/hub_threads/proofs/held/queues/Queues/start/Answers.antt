use Rattle.std.proofs.Common.{ap, refl, sym, subst, ◌∙◌}
use Rattle.hub_threads.specs.Held.{IsNew, with_name}
use Rattle.hub_threads.specs.Refusals.{start_refusal}
use Rattle.hub_threads.proofs.Changes.{if_none, started_sound, started_state}
use Rattle.hub_threads.proofs.held.queues.Queues.start.Goals as goal

pub invariant_of-self-in-Ok : goal.invariant_of-self-in-Ok
invariant_of-self-in-Ok g c =
    started_sound _ _ _ _ _ _ _ _ _ c.args.n c.args.alias c.args.goal c.self.invariant (subst (IsNew c.args.n) (sym c.self.view_is) c.requires)
    (c.put_alias.ensures ∙ ap (with_name c.args.n c.args.alias) c.in-Ok.ensures.aliases.0)
    (c.push_reserved.ensures.items ∙ rw (c.in-Ok.ensures.queues.0, c.new.ensures) refl)
    (c.push_reserved-in-Ok.ensures.items ∙ rw (c.in-Ok.ensures.threads.0) refl)
    (c.push_reserved-in-Ok-2.ensures.items ∙ rw (c.in-Ok.ensures.goals.0) refl)

pub returns-in-Ok-clause-started : goal.returns-in-Ok-clause-started
returns-in-Ok-clause-started g c =
    if_none (start_refusal c.args.self.now.state c.args.alias)
    (started_state c.args.self.now _ _ _ _ _ _ _ _ _ c.args.n c.args.alias c.args.goal c.self.view_is
    (c.put_alias.ensures ∙ ap (with_name c.args.n c.args.alias) c.in-Ok.ensures.aliases.0)
    (c.push_reserved.ensures.items ∙ rw (c.in-Ok.ensures.queues.0, c.new.ensures) refl)
    (c.push_reserved-in-Ok.ensures.items ∙ rw (c.in-Ok.ensures.threads.0) refl)
    (c.push_reserved-in-Ok-2.ensures.items ∙ rw (c.in-Ok.ensures.goals.0) refl))
