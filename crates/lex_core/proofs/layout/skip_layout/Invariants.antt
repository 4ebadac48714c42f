use Rattle.std.proofs.Common.{◌≡◌, ◌-◌, length, drop}
use Rattle.pl_model.specs.Tokens.{skip_layout}
use Rattle.lex_core.proofs.layout.skip_layout.Given as goal

abbrev pub invariant-loop-place : goal.invariant-loop-place
invariant-loop-place l = skip_layout l.at 0 (drop l.at l.text) ≡ skip_layout l.place 0 (drop l.place l.text)

abbrev pub decreases-loop-place : goal.decreases-loop-place
decreases-loop-place l = length l.text - l.place
