use Rattle.std.proofs.Common.{refl, subst, arith}
use Rattle.world_builtins.specs.Characters.{IsPut}
use Rattle.world_builtins.specs.Spelling.{reads}
use Rattle.iso_engine.specs.declared.write.goals.OutputGoal.TheVariants.{Character}
use Rattle.iso_engine.proofs.Putting.{put_done, refused_done, refused_whole, unbound_done}
use Rattle.iso_engine.proofs.OutputSteps.{spent}
use Rattle.iso_engine.proofs.write.characters.put_character.Goals as goal

pub returns-then-search-most-clause-wrote : goal.returns-then-search-most-clause-wrote
returns-then-search-most-clause-wrote g c =
    let e = c.args.search.now in (refl, refl, λ place is. spent e place c.args.rest (Character c.args.term) is (omega (arith, c.if-search-most.true)))

pub returns-in-Put-clause-wrote : goal.returns-in-Put-clause-wrote
returns-in-Put-clause-wrote g c place is =
    let e = c.args.search.now in
    let m = g.A.Atoms.held c.args.atoms.now in
    let a = c.args.out.now.items in
    let b = c.put_char.new.out.items in
    put_done m e c.args.term place c.args.rest a b c.requires.held (omega (arith, c.if-search-most.false)) is
    (subst (λ x. IsPut (reads m e.store c.args.term) x a b) c.in-Put.is c.in_ok-character.ensures.puts)

pub returns-in-Unbound-clause-wrote : goal.returns-in-Unbound-clause-wrote
returns-in-Unbound-clause-wrote g c place is =
    let e = c.args.search.now in
    let m = g.A.Atoms.held c.args.atoms.now in
    let a = c.args.out.now.items in
    let b = c.put_char.new.out.items in
    unbound_done m e c.args.term place c.args.rest a b c.requires.held (omega (arith, c.if-search-most.false)) is
    (subst (λ x. IsPut (reads m e.store c.args.term) x a b) c.in-Unbound.is c.in_ok-character.ensures.puts)

pub returns-in_ok-ball-in-Refused-clause-whole : goal.returns-in_ok-ball-in-Refused-clause-whole
returns-in_ok-ball-in-Refused-clause-whole g c =
    refused_whole c.args.search.now c.no_character.new.store c.requires.whole c.in_ok-ball-in-Refused.ensures.grows

pub returns-in_ok-ball-in-Refused-clause-wrote : goal.returns-in_ok-ball-in-Refused-clause-wrote
returns-in_ok-ball-in-Refused-clause-wrote g c place is =
    let e = c.args.search.now in
    let m = g.A.Atoms.held c.args.atoms.now in
    let a = c.args.out.now.items in
    let b = c.put_char.new.out.items in
    let ball = c.in_ok-ball-in-Refused in
    refused_done m e c.args.term place c.args.rest a b c.requires.held (omega (arith, c.if-search-most.false)) is c.no_character.new.store ball.ball
    c.requires.whole ball.ensures.grows ball.ensures.inside ball.ensures.ball
    (subst (λ x. IsPut (reads m e.store c.args.term) x a b) c.in-Refused.is c.in_ok-character.ensures.puts)
