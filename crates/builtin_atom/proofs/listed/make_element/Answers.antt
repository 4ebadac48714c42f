use Rattle.std.proofs.Common.{sym, ap, subst, ◌∙◌}
use Rattle.pl_term.specs.Tree.{atom}
use Rattle.builtin_atom.specs.Listed.{IsElementAt}
use Rattle.builtin_atom.specs.Making.{IsMade}
use Rattle.builtin_atom.proofs.Looks.{integer_held, standing_number}
use Rattle.builtin_atom.proofs.MadeLaws.{atom_held, atom_reads}
use Rattle.builtin_atom.proofs.listed.make_element.Goals as goal

pub returns-in-Codes-clause-element : goal.returns-in-Codes-clause-element
returns-in-Codes-clause-element g c s =
    let n = g.A.Atoms.held c.args.atoms.now in
    let p = c.code_of.result in
    subst (λ f. IsElementAt f n c.args.c p s) (sym c.in-Codes.is)
    (record {
      inside = (c.code_of.ensures s).0;
      held = integer_held n s p _ c.code_of.ensures;
      reads_as = standing_number n s p c.args.c c.code_of.ensures;
    })

pub returns-in-Is-clause-element : goal.returns-in-Is-clause-element
returns-in-Is-clause-element g c s =
    let n = g.A.Atoms.held c.make_atom.new.atoms in
    let p = c.atom.result in
    let t = c.in_ok-text-in-Characters.text in
    let made = subst (λ x. IsMade n t x) c.in-Is.is c.in_ok-made-in-Characters.ensures.made in
    subst (λ f. IsElementAt f n c.args.c p s) (sym c.in-Characters.is)
    (record {
      inside = (c.atom.ensures s).0;
      held = atom_held n s p c.in-Is.a t made (c.atom.ensures s).1;
      reads_as = atom_reads n s p c.in-Is.a t made (c.atom.ensures s).1 ∙ ap atom c.in_ok-text-in-Characters.ensures.text;
    })
