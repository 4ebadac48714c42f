use Rattle.std.proofs.Common.{◌≡◌, ◌++◌}
use Rattle.std.specs.List.{flat_map}
use Rattle.std.specs.Str.{encode_utf8_all}
use Rattle.pl_model.specs.Writing.{escaped}
use Rattle.term_writer.proofs.quotes.push_escaped_all.Given as goal

abbrev pub invariant-loop-c : goal.invariant-loop-c
invariant-loop-c l = l.bytes.items ≡ l.initial.bytes.items ++ encode_utf8_all (flat_map escaped l.yielded)
