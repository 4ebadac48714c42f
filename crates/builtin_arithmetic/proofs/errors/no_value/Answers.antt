use Rattle.std.proofs.Common.{◌≡◌, codes, of_z, to_z, w64, sym, ap, subst, ◌∙◌, rules}
use Rattle.std.proofs.lemmas.Int.{to_z-of_z}
use Rattle.pl_term.specs.Tree.{int}
use Rattle.pl_model.specs.Balls.{error_ball, type_error}
use Rattle.pl_model.specs.History.{proc}
use Rattle.pl_model.specs.TermBuiltins.{operation_error}
use Rattle.world_builtins.specs.Spelling.{spelled, text_of}
use Rattle.builtin_rows.specs.Given.{thrown}
use Rattle.builtin_rows.specs.Rows.{IsRow}
use Rattle.builtin_arithmetic.proofs.Raising.{float_is, int_overflow_is, number_held, type_is, undefined_is, zero_divisor_is}
use Rattle.builtin_arithmetic.proofs.errors.no_value.Goals as goal

pub refused_for-requires : goal.refused_for-requires
refused_for-requires c = (c.integer-base.ensures c.args.store.now).0

pub returns-in_ok-row-in-ZeroDivisor-clause-row : goal.returns-in_ok-row-in-ZeroDivisor-clause-row
returns-in_ok-row-in-ZeroDivisor-clause-row c m p next ts stands known =
    subst (λ f. IsRow c.args.store.now next ts (thrown (error_ball (operation_error f) (proc p c.args.arity))) m c.evaluation_error.new.store c.in_ok-row-in-ZeroDivisor.row)
    (sym c.in-ZeroDivisor.is) (c.in_ok-row-in-ZeroDivisor.ensures.row m (codes "zero_divisor") p next ts stands zero_divisor_is known)

pub returns-in_ok-row-in-IntOverflow-clause-row : goal.returns-in_ok-row-in-IntOverflow-clause-row
returns-in_ok-row-in-IntOverflow-clause-row c m p next ts stands known =
    subst
    (λ f. IsRow c.args.store.now next ts (thrown (error_ball (operation_error f) (proc p c.args.arity))) m c.evaluation_error-in-IntOverflow.new.store c.in_ok-row-in-IntOverflow.row)
    (sym c.in-IntOverflow.is) (c.in_ok-row-in-IntOverflow.ensures.row m (codes "int_overflow") p next ts stands int_overflow_is known)

pub returns-in_ok-row-in-Undefined-clause-row : goal.returns-in_ok-row-in-Undefined-clause-row
returns-in_ok-row-in-Undefined-clause-row c m p next ts stands known =
    subst
    (λ f. IsRow c.args.store.now next ts (thrown (error_ball (operation_error f) (proc p c.args.arity))) m c.evaluation_error-in-Undefined.new.store c.in_ok-row-in-Undefined.row)
    (sym c.in-Undefined.is) (c.in_ok-row-in-Undefined.ensures.row m (codes "undefined") p next ts stands undefined_is known)

pub returns-in_ok-row-in-NeedsFloat-clause-row : goal.returns-in_ok-row-in-NeedsFloat-clause-row
returns-in_ok-row-in-NeedsFloat-clause-row c m p next ts stands known =
    let s = c.args.store.now in
    let t = c.refused_for.new.store in
    let same : to_z w64 (of_z w64 c.in-NeedsFloat.base) ≡ c.in-NeedsFloat.base = search (rules, to_z-of_z) in
    let at = (c.integer-base.ensures s).1 ∙ ap int same in
    subst (λ f. IsRow s next ts (thrown (error_ball (operation_error f) (proc p c.args.arity))) m t c.in_ok-row-in-NeedsFloat.row) (sym c.in-NeedsFloat.is)
    (subst (λ u. IsRow s next ts (thrown (error_ball (type_error (codes "float") (spelled (text_of m) u)) (proc p c.args.arity))) m t c.in_ok-row-in-NeedsFloat.row) at
    (c.in_ok-row-in-NeedsFloat.ensures.row m (codes "type_error") (codes "float") p next ts stands (number_held m s c.integer-base.result c.in-NeedsFloat.base at) type_is float_is known))
