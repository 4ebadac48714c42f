use Rattle.std.proofs.Common.{codes}
use Rattle.builtin_arithmetic.proofs.Raising.{evaluation_is}
use Rattle.builtin_arithmetic.proofs.errors.evaluation_error.Goals as goal

pub returns-clause-row : goal.returns-clause-row
returns-clause-row c m x p next ts stands reason known =
    c.in_ok-row.ensures.row m (codes "evaluation_error") x p next ts stands evaluation_is reason known
