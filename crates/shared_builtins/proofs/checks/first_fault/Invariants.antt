use Rattle.std.proofs.Common.{◌≡◌, ℕ, ◌<◌, get_or, map, drop, true}
use Rattle.std.specs.List.{All}
use Rattle.pl_model.specs.Checks.{first_error}
use Rattle.atom_api.specs.Names.{Names}
use Rattle.builtin_rows.specs.Lists.{IsNaming}
use Rattle.world_builtins.specs.Spelling.{reads}
use Rattle.shared_builtins.specs.declared.checks.Check.{Check}
use Rattle.shared_builtins.specs.Checks.{IsCheckHeld, check_error, check_passes}
use Rattle.shared_builtins.proofs.checks.first_fault.Given as goal

abbrev pub invariant-loop-check : goal.invariant-loop-check
invariant-loop-check l =
    record {
      errors : (m : Names) → IsNaming m → All (IsCheckHeld m l.store) l.checks
          → first_error (map (check_error (reads m l.store)) l.checks) ≡ first_error (map (check_error (reads m l.store)) (drop l.check-index l.checks));
      passed : (k : ℕ) (d : Check) → k < l.check-index → check_passes l.store (get_or l.checks k d) ≡ true;
    }
