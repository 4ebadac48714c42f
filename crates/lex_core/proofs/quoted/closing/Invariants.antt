use Rattle.std.proofs.Common.{◌≡◌, ◌-◌, ◌≤◌, length}
use Rattle.pl_model.specs.LexicalQuoted.{closing}
use Rattle.lex_core.proofs.LexQuoted.{closing_from}
use Rattle.lex_core.proofs.quoted.closing.Given as goal

abbrev pub invariant-loop-at : goal.invariant-loop-at
invariant-loop-at l = (l.at ≤ length l.bytes) × (closing l.quote 0 l.bytes ≡ closing_from l.quote l.bytes l.at)

abbrev pub decreases-loop-at : goal.decreases-loop-at
decreases-loop-at l = length l.bytes - l.at
