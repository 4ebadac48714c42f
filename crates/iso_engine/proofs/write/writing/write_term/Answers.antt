use Rattle.std.proofs.Common.{refl, arith}
use Rattle.iso_engine.specs.declared.write.goals.OutputGoal.TheVariants.{Term}
use Rattle.iso_engine.proofs.OutputSteps.{spent, under_operators}
use Rattle.iso_engine.proofs.write.writing.write_term.Goals as goal

pub returns-then-search-most-clause-wrote : goal.returns-then-search-most-clause-wrote
returns-then-search-most-clause-wrote g c place is =
    let e = c.args.search.now in
    (((λ k. refl), refl, refl, refl), spent e place c.args.rest (Term c.args.style c.args.term) is (omega (arith, c.if-search-most.true)))

pub returns-clause-wrote : goal.returns-clause-wrote
returns-clause-wrote g c place is =
    let e = c.args.search.now in
    let m = g.W.A.Atoms.held c.args.atoms.now in
    let t = g.W.World.told c.args.world.now in
    let u = g.W.World.told c.write.new.world in
    let a = c.args.out.now.items in
    let b = c.write.new.out.items in
    under_operators m (g.W.A.Atoms.held c.write.new.atoms) t u e c.args.style c.args.term place c.args.rest a b c.requires.held
    (omega (arith, c.if-search-most.false)) is
    c.in_ok-write.ensures.writes
