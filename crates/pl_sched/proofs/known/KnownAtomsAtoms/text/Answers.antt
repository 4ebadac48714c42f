use Rattle.std.proofs.Common.{sym, subst}
use Rattle.atom_api.specs.Names.{Names}
use Rattle.kept_answers.specs.Answered.{AreSound}
use Rattle.pl_sched.proofs.known.KnownAtomsAtoms.text.Goals as goal

pub invariant_of-self : goal.invariant_of-self
invariant_of-self g c =
    record {
      here = c.args.self.now.here;
      sound =
          subst (λ (n : Names). AreSound g.K.Naming.goals c.args.self.now.front.seen n c.args.self.now.answers.spaces.items) (sym c.text.ensures.same)
          c.args.self.now.sound;
    }
