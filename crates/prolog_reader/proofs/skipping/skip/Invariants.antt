use Rattle.std.proofs.Common.{◌≡◌, ◌-◌, length}
use Rattle.pl_model.specs.Skipping.{skip}
use Rattle.prolog_reader.proofs.skipping.skip.Given as goal

abbrev pub invariant-loop-place : goal.invariant-loop-place
invariant-loop-place l = skip l.text l.at ≡ skip l.text l.place

abbrev pub decreases-loop-place : goal.decreases-loop-place
decreases-loop-place l = length l.text - l.place
