use Rattle.std.proofs.Common.{◌≤◌, length, refl, sym, arith}
use Rattle.builtin_rows.proofs.Finding.{row_now, no_row}
use Rattle.builtin_rows.proofs.names.row_at.Goals as goal

pub returns-then-number-rows : goal.returns-then-number-rows
returns-then-number-rows c = row_now c.args.rows.now c.args.number _ refl

pub returns-else-number-rows : goal.returns-else-number-rows
returns-else-number-rows c =
    let past : length c.args.rows.now ≤ c.args.number = omega arith in sym (no_row c.args.rows.now c.args.number past)
