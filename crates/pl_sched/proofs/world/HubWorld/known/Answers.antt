use Rattle.std.proofs.Common.{ap, refl}
use Rattle.std.specs.Prelude.{Option}
use Rattle.pl_term.specs.Tree.{Tree}
use Rattle.world_api.specs.declared.reply.Found.{Found}
use Rattle.world_api.specs.declared.answer.Answer.TheVariants.{Served}
use Rattle.world_api.specs.declared.reply.Reply.TheVariants.{Clauses}
use Rattle.kept_answers.specs.Answered.{found_at}
use Rattle.atom_words.specs.Seats.{seen}
use Rattle.pl_sched.proofs.Again.{next_answered}
use Rattle.pl_sched.proofs.world.HubWorld.known.Goals as goal

pub returns-in-Some-clause-some : goal.returns-in-Some-clause-some
returns-in-Some-clause-some g c =
    let new = c.find.new.self in
    let f : Option (Found Tree) = found_at new.answers.spaces.items new.at new.nothing in
    next_answered
    g.K.Naming.history
    g.K.Naming.goals
    c.self.inside.engine
    (seen c.args.atoms.now.atoms.seat)
    (seen new.atoms.seat)
    c.self.inside.front
    c.args.self.now
    c.find.new.front
    c.args.asked.now
    c.in-Some.after
    f
    (Served (Clauses f) c.in-Some.after.generation)
    c.args.atoms.now.atoms.lawful
    c.self.invariant.1
    c.in-Some.is
    (c.find.ensures.kept c.if-not-find.false)
    c.self.view_is
    c.find.ensures.front
    (ap (λ a. seen a.seat) c.find.ensures.atoms)
    refl
