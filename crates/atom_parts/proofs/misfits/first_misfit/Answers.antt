use Rattle.std.proofs.Common.{map, sym, ◌∙◌}
use Rattle.std.proofs.lemmas.List.{at_drop_all}
use Rattle.pl_model.specs.Checks.{first_error}
use Rattle.atom_parts.specs.Misfits.{error_by}
use Rattle.atom_parts.proofs.MisfitLaws.{found_here, passed_here}
use Rattle.atom_parts.proofs.misfits.first_misfit.Goals as goal

pub returns-in-Some-clause-error : goal.returns-in-Some-clause-error
returns-in-Some-clause-error c m =
    sym
    (c.loop-check.invariant m
    ∙ found_here m c.args.store.now c.args.checks.now c.loop-check.check-index _ c.loop-check-test.true c.in-Some.found (c.in-Some.ensures.error m))

pub loop-check-preserved : goal.loop-check-preserved
loop-check-preserved c m =
    c.loop-check.invariant m
    ∙ passed_here m c.args.store.now c.args.checks.now c.loop-check.check-index _ c.loop-check-test.true (c.in-None.ensures.error m)

pub returns-clause-error : goal.returns-clause-error
returns-clause-error c m =
    sym
    (c.loop-check.invariant m
    ∙ at_drop_all (λ l. first_error (map (error_by m c.args.store.now) l)) c.args.checks.now c.loop-check.check-index c.loop-check-test.false)

pub returns-in-Some-clause-held : goal.returns-in-Some-clause-held
returns-in-Some-clause-held c m all = c.in-Some.ensures.held m (all c.loop-check.check-index _ c.loop-check-test.true)
