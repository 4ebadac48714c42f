use Rattle.std.proofs.Common.{codes}
use Rattle.pl_model.specs.Balls.{instantiation_error}
use Rattle.pl_model.specs.History.{proc}
use Rattle.builtin_atom.proofs.Fixed.{instantiation_error_is}
use Rattle.builtin_atom.proofs.Rows.{error_row, none_refused, with_ok}
use Rattle.builtin_atom.proofs.errors.unbound.Goals as goal

pub returns-clause-row : goal.returns-clause-row
returns-clause-row c =
    let s = c.args.store.now in
    with_ok _ _ c.raised.result
    (λ r h m p ts stand known. error_row s (proc p c.args.arity) ts instantiation_error m c.raised.new.store r
    (λ next. h m (codes "instantiation_error") p next ts stand instantiation_error_is known))
    c.raised.ensures.row

pub returns-clause-refusals : goal.returns-clause-refusals
returns-clause-refusals c = none_refused c.raised.result c.raised.ensures.refuses
