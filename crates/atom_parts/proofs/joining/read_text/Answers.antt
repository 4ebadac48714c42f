use Rattle.atom_parts.proofs.joining.read_text.Goals as goal

pub returns-clause-scalars : goal.returns-clause-scalars
returns-clause-scalars g c = (g.met.A.Atoms.finite c.args.atoms.now c.in-Atom.name c.text.new.buf c.text.ensures.text).2
