use Rattle.std.proofs.Common.{◌≡◌, drop, take, map}
use Rattle.clause_db.specs.Parts.{piece}
use Rattle.clause_db.specs.Dynamic.{with_blanks}
use Rattle.clause_db.specs.Index.{Indexed}
use Rattle.clause_db.specs.Sound.{Apart, names}
use Rattle.clause_db.proofs.dynamic.add_blanks.Given as goal

abbrev pub invariant-loop-i : goal.invariant-loop-i
invariant-loop-i g l =
    (with_blanks (drop l.i l.ps) (map piece l.parts.items) ≡ with_blanks l.ps (map piece l.initial.parts.items))
    × (take l.stood (map piece l.parts.items) ≡ map piece l.initial.parts.items)
    × Apart (names (map piece l.parts.items))
    × Indexed l.index (names (map piece l.parts.items))
