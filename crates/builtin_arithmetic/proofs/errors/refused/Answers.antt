use Rattle.std.proofs.Common.{codes, sym, subst}
use Rattle.pl_model.specs.Balls.{error_ball}
use Rattle.pl_model.specs.History.{proc}
use Rattle.pl_model.specs.TermBuiltins.{value_error}
use Rattle.builtin_rows.specs.Given.{thrown}
use Rattle.builtin_rows.specs.Rows.{IsRow}
use Rattle.builtin_arithmetic.specs.Values.{IsFaultHeld, fault_of}
use Rattle.builtin_arithmetic.proofs.Raising.{instantiation_is}
use Rattle.builtin_arithmetic.proofs.errors.refused.Goals as goal

pub returns-in_ok-row-in-Unbound-clause-row : goal.returns-in_ok-row-in-Unbound-clause-row
returns-in_ok-row-in-Unbound-clause-row c m p next ts stands held known =
    subst (λ f. IsRow c.args.store.now next ts (thrown (error_ball (value_error (fault_of m f)) (proc p c.args.arity))) m c.raised.new.store c.in_ok-row-in-Unbound.row)
    (sym c.in-Unbound.is) (c.in_ok-row-in-Unbound.ensures.row m (codes "instantiation_error") p next ts stands instantiation_is known)

pub returns-in_ok-row-in-NoEvaluable-clause-row : goal.returns-in_ok-row-in-NoEvaluable-clause-row
returns-in_ok-row-in-NoEvaluable-clause-row c m p next ts stands held known =
    subst (λ f. IsRow c.args.store.now next ts (thrown (error_ball (value_error (fault_of m f)) (proc p c.args.arity))) m c.no_evaluable.new.store c.in_ok-row-in-NoEvaluable.row)
    (sym c.in-NoEvaluable.is)
    (c.in_ok-row-in-NoEvaluable.ensures.row m p next ts stands (subst (IsFaultHeld m) c.in-NoEvaluable.is held) known)

pub returns-in_ok-row-in-Operation-clause-row : goal.returns-in_ok-row-in-Operation-clause-row
returns-in_ok-row-in-Operation-clause-row c m p next ts stands held known =
    subst (λ f. IsRow c.args.store.now next ts (thrown (error_ball (value_error (fault_of m f)) (proc p c.args.arity))) m c.no_value.new.store c.in_ok-row-in-Operation.row)
    (sym c.in-Operation.is) (c.in_ok-row-in-Operation.ensures.row m p next ts stands known)
