use Rattle.std.proofs.Common.{sym, ◌∙◌, subst}
use Rattle.atom_api.specs.Names.{Names, FixedStand}
use Rattle.atom_api.specs.Slots.{names_of}
use Rattle.atom_api.proofs.PlainFixed.{fixed_swept, swept-cut}
use Rattle.atom_api.proofs.plain.PlainAtomsAtoms.keep_only.Goals as goal

pub invariant_of-self : goal.invariant_of-self
invariant_of-self c =
    record {
      fixed_stand =
          subst (λ (m : Names). FixedStand m) (sym c.keep.ensures) (fixed_swept (names_of c.args.self.now.slots.texts.items) c.args.live.now c.args.self.now.fixed_stand);
    }

pub returns-clause-kept : goal.returns-clause-kept
returns-clause-kept c = c.keep.ensures ∙ swept-cut (names_of c.args.self.now.slots.texts.items) c.args.live.now
