use Rattle.std.proofs.Common.{ℕ, sym, subst}
use Rattle.std.specs.Prelude.{IfSome}
use Rattle.run_model.specs.AtomRecords.{IsTrue}
use Rattle.pl_sched.proofs.ends.end_or_wait.Goals as goal

pub new-requires-clause-home : goal.new-requires-clause-home
new-requires-clause-home g c = record { front = c.requires.own; marked = (c.requires.way, c.requires.going) }

pub end_without_atoms-requires-clause-found : goal.end_without_atoms-requires-clause-found
end_without_atoms-requires-clause-found g c =
    subst (λ (n : ℕ). IfSome c.record_of-found.result (IsTrue n)) (sym c.args.ground.now.terms_are.slots) c.record_of-found.ensures
