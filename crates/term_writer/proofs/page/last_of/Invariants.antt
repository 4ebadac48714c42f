use Rattle.std.proofs.Common.{◌≡◌}
use Rattle.pl_model.specs.Writing.{last_character}
use Rattle.term_writer.proofs.page.last_of.Given as goal

abbrev pub invariant-loop-c : goal.invariant-loop-c
invariant-loop-c l = l.last ≡ last_character l.initial.last l.yielded
