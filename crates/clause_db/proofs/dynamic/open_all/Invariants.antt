use Rattle.std.proofs.Common.{◌≡◌, drop, map}
use Rattle.clause_db.specs.Parts.{piece}
use Rattle.clause_db.specs.Dynamic.{opened_all}
use Rattle.clause_db.specs.Sound.{names}
use Rattle.clause_db.proofs.dynamic.open_all.Given as goal

abbrev pub invariant-loop-i : goal.invariant-loop-i
invariant-loop-i g l =
    (opened_all l.place (drop l.i l.ps) (map piece l.parts.items) ≡ opened_all l.place l.ps (map piece l.initial.parts.items))
    × (names (map piece l.parts.items) ≡ names (map piece l.initial.parts.items))
