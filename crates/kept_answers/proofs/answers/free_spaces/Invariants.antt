use Rattle.std.proofs.Common.{ℕ}
use Rattle.pl_model.specs.History.{History}
use Rattle.atom_api.specs.Names.{Names}
use Rattle.kept_answers.specs.Answered.{AreSound}
use Rattle.kept_answers.proofs.answers.free_spaces.Given as goal

abbrev pub invariant-loop : goal.invariant-loop
invariant-loop l = (goals : ℕ) (h : History) (n : Names) → AreSound goals h n l.initial.spaces.items → AreSound goals h n l.spaces.items
