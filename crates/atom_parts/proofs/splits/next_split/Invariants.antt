use Rattle.std.proofs.Common.{◌≡◌, ◌-◌, suc, take, drop}
use Rattle.pl_model.specs.BuiltinRows.{unifying}
use Rattle.atom_parts.specs.Splits.{split_wanted, splits_of}
use Rattle.atom_parts.proofs.splits.next_split.Given as goal

abbrev pub invariant-loop-at : goal.invariant-loop-at
invariant-loop-at l =
    let ts = split_wanted l.text l.splits in
    let xs = splits_of (take l.splits.length l.text) in
    unifying ts (drop l.fn.from xs) ≡ unifying ts (drop l.at xs)

abbrev pub decreases-loop-at : goal.decreases-loop-at
decreases-loop-at l = suc l.splits.length - l.at
