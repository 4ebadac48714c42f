use Rattle.std.proofs.Common.{◌≡◌, ◌-◌, ◌≤◌, length, string_bytes}
use Rattle.std.specs.Str.{chars}
use Rattle.pl_model.specs.LexicalQuoted.{spelled}
use Rattle.lex_core.proofs.LexQuoted.{prefixed, spelled_from}
use Rattle.lex_core.proofs.quoted.spelled.Given as goal

abbrev pub invariant-loop-at : goal.invariant-loop-at
invariant-loop-at l =
    (l.at ≤ length l.bytes) × (spelled l.quote 1 0 l.bytes ≡ prefixed (chars (string_bytes l.text)) (spelled_from l.quote l.bytes l.at))

abbrev pub decreases-loop-at : goal.decreases-loop-at
decreases-loop-at l = length l.bytes - l.at
