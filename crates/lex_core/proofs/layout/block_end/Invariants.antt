use Rattle.std.proofs.Common.{◌≡◌, ◌+◌, drop, option_map}
use Rattle.pl_model.specs.Tokens.{block_length}
use Rattle.lex_core.proofs.layout.block_end.Given as goal

abbrev pub invariant-loop-place : goal.invariant-loop-place
invariant-loop-place l =
    option_map (λ n. l.at + n) (block_length (drop l.at l.text)) ≡ option_map (λ n. l.place + n) (block_length (drop l.place l.text))
