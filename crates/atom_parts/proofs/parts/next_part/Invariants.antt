use Rattle.std.proofs.Common.{◌≡◌, ◌-◌, suc, take, drop}
use Rattle.pl_model.specs.BuiltinRows.{unifying}
use Rattle.atom_parts.specs.Parts.{IsSpot, line_at, lines_before, part_wanted, parts_of}
use Rattle.atom_parts.proofs.parts.next_part.Given as goal

abbrev pub invariant-loop-spot : goal.invariant-loop-spot
invariant-loop-spot l =
    record {
      is : IsSpot l.parts.length l.spot;
      passed : (let ts = part_wanted l.text l.parts in
          let xs = parts_of (take l.parts.length l.text) in
          unifying ts (drop (line_at l.fn.from) xs) ≡ unifying ts (drop (line_at l.spot) xs));
    }

abbrev pub decreases-loop-spot : goal.decreases-loop-spot
decreases-loop-spot l = lines_before l.parts.length 0 (suc l.parts.length) - line_at l.spot
