use Rattle.std.proofs.Common.{◌≡◌, ◌-◌, ◌≤◌, length}
use Rattle.pl_model.specs.Tokens.{run_end}
use Rattle.lex_core.specs.Views.{passes_run}
use Rattle.lex_core.proofs.characters.run_end.Given as goal

abbrev pub invariant-loop-end : goal.invariant-loop-end
invariant-loop-end l = (l.at ≤ l.end) × (l.end ≤ length l.text) × (run_end (passes_run l.run) l.text l.at ≡ run_end (passes_run l.run) l.text l.end)

abbrev pub decreases-loop-end : goal.decreases-loop-end
decreases-loop-end l = length l.text - l.end
