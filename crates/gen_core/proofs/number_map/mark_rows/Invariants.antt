use Rattle.gen_core.proofs.Markings.{MarkedUpTo}
use Rattle.gen_core.proofs.number_map.mark_rows.Given as goal

abbrev pub invariant-loop-i : goal.invariant-loop-i
invariant-loop-i g l = MarkedUpTo l.place l.i l.initial.rows.items l.rows.items
