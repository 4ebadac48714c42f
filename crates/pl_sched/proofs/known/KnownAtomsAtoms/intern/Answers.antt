use Rattle.atom_words.specs.Seats.{seen}
use Rattle.atom_table.specs.Naming.{names}
use Rattle.kept_answers.proofs.Staying.{all_kept_on}
use Rattle.pl_sched.proofs.Again.{interned_holds}
use Rattle.pl_sched.proofs.known.KnownAtomsAtoms.intern.Goals as goal

pub invariant_of-self : goal.invariant_of-self
invariant_of-self g c =
    record {
      here = c.args.self.now.here;
      sound =
          all_kept_on g.K.Naming.goals c.args.self.now.front.seen (names (seen c.args.self.now.atoms.seat)) (names (seen c.intern.new.self.seat))
          (interned_holds (names (seen c.args.self.now.atoms.seat)) c.args.text.now c.intern.result (names (seen c.intern.new.self.seat)) c.intern.ensures.answer)
          c.args.self.now.answers.spaces.items
          c.args.self.now.sound;
    }
