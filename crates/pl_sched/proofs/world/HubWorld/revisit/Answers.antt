use Rattle.std.proofs.Common.{refl, sym, subst}
use Rattle.std.specs.Prelude.{Option}
use Rattle.pl_term.specs.Tree.{Tree}
use Rattle.world_api.specs.declared.reply.Found.{Found}
use Rattle.world_api.specs.declared.answer.Answer.TheVariants.{Served}
use Rattle.world_api.specs.declared.reply.Reply.TheVariants.{Clauses}
use Rattle.kept_answers.specs.Answered.{found_at}
use Rattle.atom_words.specs.Seats.{seen}
use Rattle.pl_history.specs.Fronts.{FrontState}
use Rattle.pl_hub.specs.Fronts.{IsOwn}
use Rattle.pl_sched.specs.Ledger.{IsBegun}
use Rattle.pl_sched.proofs.Again.{call_answered, own_revisited}
use Rattle.pl_sched.proofs.world.HubWorld.revisit.Goals as goal

pub invariant_of-self-2 : goal.invariant_of-self-2
invariant_of-self-2 g c =
    let is = c.revisit.ensures.visits c.if-not-revisit.false in (
      c.self.invariant.0,
      subst (λ (f : FrontState). IsOwn g.K.Naming.history c.self.inside.engine f) (sym is) (own_revisited g.K.Naming.history c.self.inside.engine c.self.inside.front c.self.invariant.1),
      subst (λ (f : FrontState). IsBegun f.seen c.self.inside.engine) (sym is) c.self.invariant.2,
    )

pub returns-clause-some : goal.returns-clause-some
returns-clause-some g c =
    let f : Option (Found Tree) = found_at c.args.atoms.now.answers.spaces.items c.args.atoms.now.at c.args.atoms.now.nothing in
    call_answered
    g.K.Naming.history
    g.K.Naming.goals
    c.self.inside.engine
    (seen c.args.atoms.now.atoms.seat)
    c.self.inside.front
    c.args.self.now
    c.revisit.new.front
    c.args.asked.now
    f
    (Served (Clauses f) c.generation.result)
    c.generation.result
    c.args.atoms.now.atoms.lawful
    c.self.invariant.1
    c.requires.call
    c.requires.kept
    c.self.view_is
    (c.revisit.ensures.visits c.if-not-revisit.false)
    refl
    c.generation.ensures
