use Rattle.std.proofs.Common.{◌≡◌, drop}
use Rattle.builtin_rows.specs.Tables.{with_count}
use Rattle.builtin_rows.proofs.names.with_count.Given as goal

abbrev pub invariant-loop-row : goal.invariant-loop-row
invariant-loop-row l = with_count l.arity l.named ≡ with_count l.arity (drop l.row-index l.named)
