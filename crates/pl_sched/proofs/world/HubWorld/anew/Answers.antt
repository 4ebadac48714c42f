use Rattle.atom_words.specs.Seats.{seen}
use Rattle.atom_table.specs.Naming.{names}
use Rattle.kept_answers.proofs.Staying.{all_kept_on}
use Rattle.pl_sched.proofs.world.HubWorld.anew.Goals as goal

pub invariant_of-atoms : goal.invariant_of-atoms
invariant_of-atoms g c =
    let a = c.is_again.new.self in
    record {
      here = a.here;
      sound = all_kept_on g.K.Naming.goals a.front.seen (names (seen a.atoms.seat)) (names (seen c.listed.new.atoms.seat)) c.listed.ensures.holds a.answers.spaces.items a.sound;
    }
