use Rattle.std.proofs.Common.{codes}
use Rattle.pl_model.specs.Balls.{syntax_error}
use Rattle.pl_model.specs.History.{proc}
use Rattle.builtin_atom.proofs.Fixed.{syntax_error_is}
use Rattle.builtin_atom.proofs.Rows.{error_row, none_refused, with_ok}
use Rattle.builtin_atom.proofs.errors.bad_syntax.Goals as goal

pub returns-clause-row : goal.returns-clause-row
returns-clause-row c =
    let s = c.args.store.now in
    with_ok _ _ c.refused_with.result
    (λ r h m k p ts stand kind known. error_row s (proc p c.args.arity) ts (syntax_error k) m c.refused_with.new.store r
    (λ next. h m (codes "syntax_error") k p next ts stand syntax_error_is kind known))
    c.refused_with.ensures.row

pub returns-clause-refusals : goal.returns-clause-refusals
returns-clause-refusals c = none_refused c.refused_with.result c.refused_with.ensures.refuses
