use Rattle.std.proofs.Common.{◌≡◌, drop}
use Rattle.clause_db.specs.Index.{hash_on}
use Rattle.clause_db.proofs.index.hash_on.Given as goal

abbrev pub invariant-loop-i : goal.invariant-loop-i
invariant-loop-i l = hash_on l.hash (drop l.i l.bytes) ≡ hash_on l.before l.bytes
