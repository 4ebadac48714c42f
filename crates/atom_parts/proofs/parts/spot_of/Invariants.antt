use Rattle.std.proofs.Common.{◌≡◌, ◌≤◌, ◌-◌, suc}
use Rattle.atom_parts.specs.Parts.{lines_before}
use Rattle.atom_parts.proofs.parts.spot_of.Given as goal

abbrev pub invariant-loop-before : goal.invariant-loop-before
invariant-loop-before l =
    record {
      first : l.first ≡ lines_before l.length 0 l.before;
      below : l.first ≤ l.line;
      within : l.before ≤ suc l.length;
    }

abbrev pub decreases-loop-before : goal.decreases-loop-before
decreases-loop-before l = suc l.length - l.before
