use Rattle.std.proofs.Common.{◌≡◌, drop}
use Rattle.pl_model.specs.Grammar.{number_of}
use Rattle.prolog_reader.specs.Names.{pairs}
use Rattle.prolog_reader.proofs.named.number_among.Given as goal

abbrev pub invariant-loop-named : goal.invariant-loop-named
invariant-loop-named l = number_of (pairs l.names) l.name ≡ number_of (pairs (drop l.named-index l.names)) l.name
