use Rattle.std.proofs.Common.{refl, subst}
use Rattle.iso_engine.specs.declared.write.goals.OutputGoal.TheVariants.{Canonical, Character, NewLine}
use Rattle.iso_engine.specs.OutputGoals.{IsGoalOf}
use Rattle.iso_engine.proofs.OutputSteps.{alone_wrote}
use Rattle.iso_engine.proofs.write.writing.write_output.Goals as goal

pub returns-in_ok-wrote-in-Canonical-clause-wrote : goal.returns-in_ok-wrote-in-Canonical-clause-wrote
returns-in_ok-wrote-in-Canonical-clause-wrote g c place is =
    let e = c.args.search.now in
    let k = c.in_ok-wrote-in-Canonical in
    alone_wrote (g.W.A.Atoms.held c.args.atoms.now) (g.W.A.Atoms.held c.write_alone.new.atoms) (g.W.World.told c.args.world.now) e
    (Canonical c.in-Canonical.term) place c.args.rest c.args.out.now.items c.write_alone.new.search c.write_alone.new.out.items k.wrote
    c.write_alone.ensures.same k.ensures.wrote (subst (λ x. IsGoalOf e.store x place) c.in-Canonical.is is)

pub returns-in_ok-wrote-in-NewLine-clause-wrote : goal.returns-in_ok-wrote-in-NewLine-clause-wrote
returns-in_ok-wrote-in-NewLine-clause-wrote g c place is =
    let e = c.args.search.now in
    let m = g.W.A.Atoms.held c.args.atoms.now in
    let k = c.in_ok-wrote-in-NewLine in
    alone_wrote m m (g.W.World.told c.args.world.now) e NewLine place c.args.rest c.args.out.now.items c.new_line.new.search c.new_line.new.out.items k.wrote
    refl (k.ensures.wrote m) (subst (λ x. IsGoalOf e.store x place) c.in-NewLine.is is)

pub returns-in_ok-wrote-in-Character-clause-wrote : goal.returns-in_ok-wrote-in-Character-clause-wrote
returns-in_ok-wrote-in-Character-clause-wrote g c place is =
    let e = c.args.search.now in
    let k = c.in_ok-wrote-in-Character in
    alone_wrote (g.W.A.Atoms.held c.args.atoms.now) (g.W.A.Atoms.held c.put_character.new.atoms) (g.W.World.told c.args.world.now) e
    (Character c.in-Character.term) place c.args.rest c.args.out.now.items c.put_character.new.search c.put_character.new.out.items k.wrote
    c.put_character.ensures.same k.ensures.wrote (subst (λ x. IsGoalOf e.store x place) c.in-Character.is is)
