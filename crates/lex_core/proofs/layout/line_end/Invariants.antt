use Rattle.std.proofs.Common.{◌≡◌, ◌+◌, drop}
use Rattle.pl_model.specs.Tokens.{line_length}
use Rattle.lex_core.proofs.layout.line_end.Given as goal

abbrev pub invariant-loop-place : goal.invariant-loop-place
invariant-loop-place l = l.at + line_length (drop l.at l.text) ≡ l.place + line_length (drop l.place l.text)
