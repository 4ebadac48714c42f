use Rattle.std.proofs.Common.{refl, arith}
use Rattle.iso_engine.specs.declared.write.goals.OutputGoal.TheVariants.{NewLine}
use Rattle.iso_engine.proofs.OutputSteps.{new_line_done, spent}
use Rattle.iso_engine.proofs.write.writing.new_line.Goals as goal

pub returns-then-search-most-clause-wrote : goal.returns-then-search-most-clause-wrote
returns-then-search-most-clause-wrote c m =
    let e = c.args.search.now in (refl, refl, λ place is. spent e place c.args.rest NewLine is (omega (arith, c.if-search-most.true)))

pub returns-clause-wrote : goal.returns-clause-wrote
returns-clause-wrote c m goal is =
    let e = c.args.search.now in
    new_line_done m e goal c.args.rest c.args.out.now.items c.nl.new.out.items (omega (arith, c.if-search-most.false)) c.in_ok-nl.ensures.writes is
