use Rattle.std.proofs.Common.{codes, sym, ap, subst, ◌∙◌}
use Rattle.pl_model.specs.Balls.{error_ball}
use Rattle.pl_model.specs.ErrorTerms.{domain_error}
use Rattle.pl_model.specs.History.{proc}
use Rattle.builtin_rows.specs.Given.{thrown}
use Rattle.builtin_rows.specs.Rows.{IsRow}
use Rattle.builtin_rows.proofs.Balls.{atom_held, atom_reads}
use Rattle.builtin_term.specs.Faults.{IsFaultHeld, fault_term, kind_text}
use Rattle.builtin_term.proofs.PartAnswers.{error_given, ok_weaker}
use Rattle.builtin_rows.proofs.Listing.{nil_is}
use Rattle.builtin_term.proofs.FixedNames.{domain_error_is, instantiation_error_is, non_empty_list_is, not_less_than_zero_is, type_error_is}
use Rattle.builtin_term.proofs.faults.raise.Goals as goal

pub refused_for-requires-in-EmptyList : goal.refused_for-requires-in-EmptyList
refused_for-requires-in-EmptyList c = (c.atom.ensures c.args.store.now).0

pub returns-in-Unbound-clause-row : goal.returns-in-Unbound-clause-row
returns-in-Unbound-clause-row c =
    let s = c.args.store.now in
    let t = c.raised.new.store in
    ok_weaker _ _ c.raised.result c.raised.ensures.row
    (λ r h m p next stands held known.
    error_given s next (proc p c.args.arity) m t (fault_term m s c.args.fault) r
    (λ ts. subst (λ e. IsRow s next ts (thrown (error_ball e (proc p c.args.arity))) m t r) (ap (fault_term m s) (sym c.in-Unbound.is))
    (h m (codes "instantiation_error") p next ts stands instantiation_error_is known)))

pub returns-in-Mistyped-clause-row : goal.returns-in-Mistyped-clause-row
returns-in-Mistyped-clause-row c =
    let s = c.args.store.now in
    let t = c.refused_for.new.store in
    ok_weaker _ _ c.refused_for.result c.refused_for.ensures.row
    (λ r h m p next stands held known.
    error_given s next (proc p c.args.arity) m t (fault_term m s c.args.fault) r
    (λ ts. subst (λ e. IsRow s next ts (thrown (error_ball e (proc p c.args.arity))) m t r) (ap (fault_term m s) (sym c.in-Mistyped.is))
    (h m (codes "type_error") (kind_text c.in-Mistyped.kind) p next ts stands (subst (IsFaultHeld m s) c.in-Mistyped.is held) type_error_is c.name.ensures known)))

pub returns-in-Negative-clause-row : goal.returns-in-Negative-clause-row
returns-in-Negative-clause-row c =
    let s = c.args.store.now in
    let t = c.refused_for-in-Negative.new.store in
    ok_weaker _ _ c.refused_for-in-Negative.result c.refused_for-in-Negative.ensures.row
    (λ r h m p next stands held known.
    error_given s next (proc p c.args.arity) m t (fault_term m s c.args.fault) r
    (λ ts. subst (λ e. IsRow s next ts (thrown (error_ball e (proc p c.args.arity))) m t r) (ap (fault_term m s) (sym c.in-Negative.is))
    (h m (codes "domain_error") (codes "not_less_than_zero") p next ts stands (subst (IsFaultHeld m s) c.in-Negative.is held) domain_error_is not_less_than_zero_is known)))

pub returns-in-EmptyList-clause-row : goal.returns-in-EmptyList-clause-row
returns-in-EmptyList-clause-row c =
    let s = c.args.store.now in
    let t = c.refused_for-in-EmptyList.new.store in
    let nil = (c.atom.ensures s).1 in
    ok_weaker _ _ c.refused_for-in-EmptyList.result c.refused_for-in-EmptyList.ensures.row
    (λ r h m p next stands held known.
    error_given s next (proc p c.args.arity) m t (fault_term m s c.args.fault) r
    (λ ts. subst (λ e. IsRow s next ts (thrown (error_ball e (proc p c.args.arity))) m t r)
    (ap (λ u. domain_error (codes "non_empty_list") u) (sym (atom_reads m stands s c.atom.result 30 (codes "[]") nil_is nil)) ∙ ap (fault_term m s) (sym c.in-EmptyList.is))
    (h m (codes "domain_error") (codes "non_empty_list") p next ts stands (atom_held m stands s c.atom.result 30 (codes "[]") nil_is nil) domain_error_is non_empty_list_is known)))
