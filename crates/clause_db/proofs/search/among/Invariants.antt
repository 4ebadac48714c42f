use Rattle.std.proofs.Common.{◌≡◌, false, take}
use Rattle.std.specs.List.{list_any}
use Rattle.pl_model.specs.laws.Shown.{proc_of}
use Rattle.clause_db.specs.Located.{stands_at}
use Rattle.clause_db.specs.Parts.{piece, is_part_of}
use Rattle.clause_db.proofs.search.among.Given as goal

abbrev pub invariant-loop-j : goal.invariant-loop-j
invariant-loop-j g l = list_any (stands_at (λ x. is_part_of (proc_of l.p) (piece x)) l.parts) (take l.j l.places) ≡ false
