use Rattle.std.proofs.Common.{◌≡◌, None, drop}
use Rattle.clause_db.specs.Access.{life_at}
use Rattle.clause_db.proofs.access.life_at.Given as goal

abbrev pub invariant-loop-i : goal.invariant-loop-i
invariant-loop-i l = life_at l.access l.g (drop l.i l.lives) ≡ life_at None l.g l.lives
