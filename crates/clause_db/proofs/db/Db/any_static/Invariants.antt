use Rattle.std.proofs.Common.{◌≡◌, false, take}
use Rattle.std.specs.List.{list_any}
use Rattle.pl_model.specs.laws.Shown.{proc_of}
use Rattle.clause_db.specs.Parts.{held_access}
use Rattle.clause_db.specs.Faults.{is_static_access}
use Rattle.clause_db.proofs.db.Db.any_static.Given as goal

abbrev pub invariant-loop-i : goal.invariant-loop-i
invariant-loop-i g l = list_any (λ p. is_static_access (held_access l.g l.self (proc_of p))) (take l.i l.ps) ≡ false
