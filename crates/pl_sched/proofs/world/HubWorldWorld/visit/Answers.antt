use Rattle.std.proofs.Common.{subst}
use Rattle.std.specs.Prelude.{IsSome}
use Rattle.std.specs.List.{All}
use Rattle.pl_term.specs.Tree.{Tree}
use Rattle.term_store.specs.ArgumentKeys.{key_atoms}
use Rattle.term_store.specs.NumberedNames.{names_of}
use Rattle.term_store.specs.declared.argument_key.ArgumentKey.{ArgumentKey}
use Rattle.world_api.specs.Visits.{visit_names}
use Rattle.world_api.specs.declared.visit.Visit.{Visit}
use Rattle.atom_words.specs.Seats.{seen}
use Rattle.atom_table.specs.Naming.{names}
use Rattle.kept_answers.proofs.Staying.{all_kept_on}
use Rattle.pl_sched.proofs.world.HubWorldWorld.visit.Goals as goal

pub invariant_of-atoms : goal.invariant_of-atoms
invariant_of-atoms g c =
    record {
      here = c.args.atoms.now.here;
      sound =
          all_kept_on g.K.Naming.goals c.args.atoms.now.front.seen (names (seen c.args.atoms.now.atoms.seat)) (names (seen c.other.new.atoms.seat))
          c.other.ensures.holds
          c.args.atoms.now.answers.spaces.items
          c.args.atoms.now.sound;
    }

pub anew-requires-in-Next-clause-held : goal.anew-requires-in-Next-clause-held
anew-requires-in-Next-clause-held g c =
    subst (λ (x : Visit Tree ArgumentKey). All (λ a. IsSome (names (seen c.args.atoms.now.atoms.seat) a)) (visit_names names_of key_atoms x)) c.in-Next.is c.requires.held
