use Rattle.atom_words.specs.Seats.{seen}
use Rattle.atom_table.specs.Naming.{names}
use Rattle.pl_sched.proofs.known.KnownAtoms.is_again.Goals as goal

pub invariant_of-self : goal.invariant_of-self
invariant_of-self g c =
    record {
      here = c.args.self.now.here;
      sound = c.is_again.ensures.sound g.K.Naming.goals c.args.self.now.front.seen (names (seen c.args.self.now.atoms.seat)) c.args.self.now.sound;
    }
