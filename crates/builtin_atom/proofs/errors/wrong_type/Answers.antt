use Rattle.std.proofs.Common.{codes}
use Rattle.pl_model.specs.Balls.{type_error}
use Rattle.pl_model.specs.History.{proc}
use Rattle.world_builtins.specs.Spelling.{reads}
use Rattle.builtin_atom.proofs.Fixed.{type_error_is}
use Rattle.builtin_atom.proofs.Rows.{error_row, none_refused, with_ok}
use Rattle.builtin_atom.proofs.errors.wrong_type.Goals as goal

pub returns-clause-row : goal.returns-clause-row
returns-clause-row c =
    let s = c.args.store.now in
    with_ok _ _ c.refused_for.result
    (λ r h m k p ts stand held kind known. error_row s (proc p c.args.arity) ts (type_error k (reads m s c.args.culprit)) m c.refused_for.new.store r
    (λ next. h m (codes "type_error") k p next ts stand held type_error_is kind known))
    c.refused_for.ensures.row

pub returns-clause-refusals : goal.returns-clause-refusals
returns-clause-refusals c = none_refused c.refused_for.result c.refused_for.ensures.refuses
