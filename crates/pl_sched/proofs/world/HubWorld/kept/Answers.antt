use Rattle.std.proofs.Common.{refl}
use Rattle.world_api.specs.Visits.{visit_for}
use Rattle.atom_words.specs.Seats.{seen}
use Rattle.atom_table.specs.Naming.{names}
use Rattle.kept_answers.proofs.Staying.{all_kept_on}
use Rattle.pl_sched.proofs.Again.{given_when}
use Rattle.pl_sched.proofs.world.HubWorld.kept.Goals as goal

pub invariant_of-atoms : goal.invariant_of-atoms
invariant_of-atoms g c =
    record {
      here = c.args.atoms.now.here;
      sound =
          all_kept_on g.K.Naming.goals c.args.atoms.now.front.seen (names (seen c.args.atoms.now.atoms.seat)) (names (seen c.listed-answer.new.atoms.seat))
          c.listed-answer.ensures.holds
          c.args.atoms.now.answers.spaces.items
          c.args.atoms.now.sound;
    }

pub keep-requires-clause-given : goal.keep-requires-clause-given
keep-requires-clause-given g c =
    let found = c.in-Some.ensures in
    given_when
    g.K.Naming.goals
    (seen c.args.atoms.now.atoms.seat)
    (seen c.listed-answer.new.atoms.seat)
    c.args.self.now
    c.listed-answer.new.self
    c.self.inside.front
    c.args.asked.now
    (visit_for c.args.asked.now)
    c.listed-answer.result
    c.in-Some.found.now
    found.0
    c.args.atoms.now.atoms.lawful
    c.requires.held
    refl
    c.listed-answer.ensures
    found.1
    c.self.view_is
