use Rattle.atom_api.specs.Slots.{names_of}
use Rattle.std.proofs.Common.{length}
use Rattle.atom_api.proofs.PlainFixed.{fixed_put_if}
use Rattle.atom_api.proofs.plain.PlainAtomsAtoms.intern.Goals as goal

pub invariant_of-self : goal.invariant_of-self
invariant_of-self c =
    record {
      fixed_stand =
          fixed_put_if c.put.result (names_of c.args.self.now.slots.texts.items) (names_of c.put.new.self.texts.items) c.args.text.now (length c.args.self.now.slots.texts.items)
          c.args.self.now.fixed_stand c.put.ensures.free c.put.ensures.put c.put.ensures.err;
    }
