use Rattle.std.proofs.Common.{codes}
use Rattle.pl_model.specs.History.{proc}
use Rattle.world_builtins.specs.Spelling.{reads}
use Rattle.pl_model.specs.ErrorTerms.{domain_error}
use Rattle.builtin_atom.proofs.Fixed.{domain_error_is, not_less_than_zero_is}
use Rattle.builtin_atom.proofs.Rows.{error_row, none_refused, with_ok}
use Rattle.builtin_atom.proofs.errors.below_zero.Goals as goal

pub returns-clause-row : goal.returns-clause-row
returns-clause-row c =
    let s = c.args.store.now in
    with_ok _ _ c.refused_for.result
    (λ r h m p ts stand held known. error_row s (proc p c.args.arity) ts (domain_error (codes "not_less_than_zero") (reads m s c.args.culprit)) m c.refused_for.new.store r
    (λ next. h m (codes "domain_error") (codes "not_less_than_zero") p next ts stand held domain_error_is not_less_than_zero_is known))
    c.refused_for.ensures.row

pub returns-clause-refusals : goal.returns-clause-refusals
returns-clause-refusals c = none_refused c.refused_for.result c.refused_for.ensures.refuses
