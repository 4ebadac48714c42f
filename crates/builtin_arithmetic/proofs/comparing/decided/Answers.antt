use Rattle.std.proofs.Common.{refl, sym, subst}
use Rattle.pl_model.specs.BuiltinRows.{test}
use Rattle.builtin_rows.specs.Given.{given}
use Rattle.builtin_rows.specs.Rows.{IsRow}
use Rattle.builtin_rows.specs.declared.row.Row.TheVariants.{Fails}
use Rattle.builtin_arithmetic.proofs.Answering.{fails_row}
use Rattle.builtin_arithmetic.proofs.comparing.decided.Goals as goal

pub returns-clause-row : goal.returns-clause-row
returns-clause-row c m next p ts few =
    let s = c.args.store.now in
    subst (λ b. IsRow s next ts (given p ts next s.used s.budget (test b ts)) m s Fails) (sym c.if-holds.false) (fails_row m s s next p ts refl)
