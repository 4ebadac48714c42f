use Rattle.std.proofs.Common.{◌∙◌, false, ap, refl, sym, subst}
use Rattle.hub_threads.specs.Held.{with_name, IsNew}
use Rattle.hub_threads.specs.Refusals.{make_refusal}
use Rattle.hub_threads.proofs.Changes.{made_sound, made_state, if_none}
use Rattle.hub_threads.proofs.held.queues.Queues.make_queue.Goals as goal

pub invariant_of-self-2 : goal.invariant_of-self-2
invariant_of-self-2 g c =
    made_sound _ _ _ _ _ _ _ c.args.n c.args.alias false c.self.invariant (subst (IsNew c.args.n) (sym c.self.view_is) c.requires)
    (c.put_alias.ensures ∙ ap (with_name c.args.n c.args.alias) c.in_ok-reserve.ensures.items)
    (c.push_reserved.ensures.items ∙ rw (c.in_ok-reserve-2.ensures.items, c.new.ensures) refl)

pub returns-clause-made : goal.returns-clause-made
returns-clause-made g c =
    if_none (make_refusal c.args.self.now.state c.args.alias)
    (made_state c.args.self.now _ _ _ _ _ _ _ c.args.n c.args.alias c.self.view_is
    (c.put_alias.ensures ∙ ap (with_name c.args.n c.args.alias) c.in_ok-reserve.ensures.items)
    (c.push_reserved.ensures.items ∙ rw (c.in_ok-reserve-2.ensures.items, c.new.ensures) refl))
