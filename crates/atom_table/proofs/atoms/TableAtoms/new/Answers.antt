use Rattle.atom_table.proofs.Naming.{lawful}
use Rattle.atom_table.proofs.atoms.TableAtoms.new.Goals as goal

pub invariant_of-result : goal.invariant_of-result
invariant_of-result g c = record { named = c.requires.named.0; sized = c.requires.named.1; sits = c.requires.sits; refused = c.requires.refused; engine = c.requires.engine; fixed = c.requires.fixed; lawful = lawful c.args.table.now.words c.args.seat c.requires.sits c.requires.fixed }
