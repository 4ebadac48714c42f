use Rattle.std.proofs.Common.{◌≡◌, ℕ, false, take}
use Rattle.std.specs.List.{list_any}
use Rattle.pl_term.specs.Tree.{Tree}
use Rattle.pl_model.specs.Database.{Database, is_static}
use Rattle.pl_model.specs.History.{Clause}
use Rattle.pl_model.specs.laws.Shown.{proc_of}
use Rattle.clause_db.specs.Reading.{SaysFor}
use Rattle.hub_database.proofs.procedures.first_static.Given as goal

abbrev pub invariant-loop-i : goal.invariant-loop-i
invariant-loop-i l = (f : Tree → Clause) (d : ℕ → Database Clause) → SaysFor f l.db d → list_any (λ p. is_static (d l.g) (proc_of p)) (take l.i l.ps) ≡ false
