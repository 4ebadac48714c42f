use Rattle.std.proofs.Common.{◌≡◌, map, drop}
use Rattle.pl_model.specs.Checks.{first_error}
use Rattle.atom_api.specs.Names.{Names}
use Rattle.atom_parts.specs.Misfits.{error_by}
use Rattle.atom_parts.proofs.misfits.first_misfit.Given as goal

abbrev pub invariant-loop-check : goal.invariant-loop-check
invariant-loop-check l =
    (m : Names) → first_error (map (error_by m l.store) l.checks) ≡ first_error (map (error_by m l.store) (drop l.check-index l.checks))
