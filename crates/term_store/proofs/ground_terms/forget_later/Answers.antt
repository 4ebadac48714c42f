use Rattle.std.proofs.Common.{◌<◌, ◌-◌, length, get_or, sym, subst}
use Rattle.term_store.specs.GroundTerms.{IsEarly, Rise, no_ground_term}
use Rattle.term_store.proofs.Settling.{early_all, rise_taken}
use Rattle.term_store.proofs.ground_terms.forget_later.Goals as goal

pub returns-clause-taken : goal.returns-clause-taken
returns-clause-taken c = (length c.loop-list.list.items, c.loop-list.invariant.taken)

pub returns-clause-early : goal.returns-clause-early
returns-clause-early c =
    let gs = c.loop-list.list.items in
    let rise : Rise gs = subst Rise (sym c.loop-list.invariant.taken) (rise_taken (length gs) c.args.list.now.items c.requires) in
    early_all c.args.heads c.args.bindings gs rise
    (subst (λ l. 0 < length l → IsEarly c.args.heads c.args.bindings (get_or l (length l - 1) no_ground_term)) c.deref.ensures.value
    (c.is_later.ensures.early c.loop-list-test.false))
