use Rattle.std.proofs.Common.{◌≡◌, drop}
use Rattle.prolog_reader.specs.ByHash.{hash_on}
use Rattle.prolog_reader.proofs.named.hash_on.Given as goal

abbrev pub invariant-loop-i : goal.invariant-loop-i
invariant-loop-i l = hash_on l.hash (drop l.i l.bytes) ≡ hash_on l.before l.bytes
