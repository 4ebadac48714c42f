use Rattle.std.proofs.Common.{sym, ap, subst, ◌∙◌}
use Rattle.term_store.specs.Contents.{term_at}
use Rattle.iso_engine.specs.ClauseLooks.{IsLookHeld, IsLookOver, looked_rule}
use Rattle.iso_engine.proofs.LookGoals.{held_numbered, held_same}
use Rattle.iso_engine.proofs.MadeRules.{joined_held, joined_read, parted_held, parted_read}
use Rattle.iso_engine.proofs.state.looking.rule_of.Goals as goal

pub returns-in_ok-rule-in-Inspects-clause-read : goal.returns-in_ok-rule-in-Inspects-clause-read
returns-in_ok-rule-in-Inspects-clause-read c v view =
    let r = c.in_ok-rule-in-Inspects in
    joined_read c.args.store.now c.rule_with.new.store c.in-Inspects.head c.in-Inspects.body r.rule r.ensures.stands v view
    ∙ sym (ap (looked_rule v c.args.store.now) c.in-Inspects.is)

pub returns-in_ok-rule-in-Inspects-clause-held : goal.returns-in_ok-rule-in-Inspects-clause-held
returns-in_ok-rule-in-Inspects-clause-held c m tells there =
    let s = c.args.store.now in
    let held = subst (IsLookHeld m s) c.in-Inspects.is there in
    let t = c.rule_with.new.store in
    let r = c.in_ok-rule-in-Inspects in
    held_same t m r.rule
    (joined_held s t c.in-Inspects.head c.in-Inspects.body r.rule r.ensures.stands m tells.naming.stands (held_numbered s m c.in-Inspects.head held.0)
    (held_numbered s m c.in-Inspects.body held.1))

pub returns-in_ok-rule-in-Retracts-clause-read : goal.returns-in_ok-rule-in-Retracts-clause-read
returns-in_ok-rule-in-Retracts-clause-read c v view =
    let r = c.in_ok-rule-in-Retracts in
    let parts = c.parts_at-parts in
    parted_read c.args.store.now c.rule_with-in-Retracts.new.store parts.result.0 parts.result.1 r.rule r.ensures.stands c.in-Retracts.term parts.ensures (subst (IsLookOver c.args.store.now) c.in-Retracts.is c.requires.over) v view
    ∙ sym (ap (looked_rule v c.args.store.now) c.in-Retracts.is)

pub returns-in_ok-rule-in-Retracts-clause-held : goal.returns-in_ok-rule-in-Retracts-clause-held
returns-in_ok-rule-in-Retracts-clause-held c m tells held =
    let r = c.in_ok-rule-in-Retracts in
    let s = c.args.store.now in
    let t = c.rule_with-in-Retracts.new.store in
    let parts = c.parts_at-parts in
    held_same t m r.rule
    (parted_held s t parts.result.0 parts.result.1 r.rule r.ensures.stands c.in-Retracts.term parts.ensures m tells.naming.stands (held_numbered s m c.in-Retracts.term (subst (IsLookHeld m s) c.in-Retracts.is held)))

pub returns-in_ok-rule-in-Inspects-clause-shape : goal.returns-in_ok-rule-in-Inspects-clause-shape
returns-in_ok-rule-in-Inspects-clause-shape c =
    let s = c.args.store.now in
    (term_at s c.in-Inspects.head, term_at s c.in-Inspects.body, c.in_ok-rule-in-Inspects.ensures.stands)

pub returns-in_ok-rule-in-Retracts-clause-shape : goal.returns-in_ok-rule-in-Retracts-clause-shape
returns-in_ok-rule-in-Retracts-clause-shape c =
    let s = c.args.store.now in
    let parts = c.parts_at-parts.result in
    (term_at s parts.0, term_at s parts.1, c.in_ok-rule-in-Retracts.ensures.stands)
