use Rattle.std.proofs.Common.{refl, arith}
use Rattle.iso_engine.specs.declared.write.goals.OutputGoal.TheVariants.{Canonical}
use Rattle.iso_engine.proofs.OutputSteps.{canonical_done, spent}
use Rattle.iso_engine.proofs.write.writing.write_alone.Goals as goal

pub returns-then-search-most-clause-wrote : goal.returns-then-search-most-clause-wrote
returns-then-search-most-clause-wrote g c =
    let e = c.args.search.now in (refl, refl, λ place is. spent e place c.args.rest (Canonical c.args.term) is (omega (arith, c.if-search-most.true)))

pub returns-clause-wrote : goal.returns-clause-wrote
returns-clause-wrote g c goal is =
    let e = c.args.search.now in
    canonical_done (g.A.Atoms.held c.args.atoms.now) e c.args.term goal c.args.rest c.args.out.now.items c.write_canonical.new.out.items c.requires.held
    (omega (arith, c.if-search-most.false)) c.in_ok-write_canonical.ensures.writes is
