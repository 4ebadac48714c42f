use Rattle.std.proofs.Common.{zero, [], ◌∷◌, refl, sym, subst}
use Rattle.pl_term.specs.Tree.{atom}
use Rattle.pl_model.specs.TermBuiltins.{two}
use Rattle.world_builtins.specs.Spelling.{reads}
use Rattle.builtin_rows.specs.declared.row.Places.TheVariants.{Two}
use Rattle.builtin_rows.specs.declared.row.Row.TheVariants.{Answer}
use Rattle.builtin_rows.specs.Rows.{IsRow}
use Rattle.builtin_atom.specs.Making.{IsMade}
use Rattle.builtin_atom.proofs.Asking.{asks_atom}
use Rattle.builtin_atom.proofs.MadeLaws.{made_parts}
use Rattle.builtin_atom.proofs.Rows.{fits_is}
use Rattle.builtin_atom.proofs.making.answer_atom.Goals as goal

pub returns-in_err-made-in-None-clause-asked : goal.returns-in_err-made-in-None-clause-asked
returns-in_err-made-in-None-clause-asked g c p ts =
    let s = c.args.store.now in
    asks_atom s p ts c.args.text.now (reads (g.A.Atoms.held c.args.atoms.now) s c.args.second) (g.A.Atoms.asked c.args.atoms.now) (g.A.Atoms.asked c.make_atom.new.atoms)
    c.in-None.ensures.fits c.make_atom.ensures.asked

pub returns-in-Refused-clause-asked : goal.returns-in-Refused-clause-asked
returns-in-Refused-clause-asked g c p ts =
    let s = c.args.store.now in
    asks_atom s p ts c.args.text.now (reads (g.A.Atoms.held c.args.atoms.now) s c.args.second) (g.A.Atoms.asked c.args.atoms.now) (g.A.Atoms.asked c.make_atom.new.atoms)
    c.in-None.ensures.fits c.make_atom.ensures.asked

pub returns-in-Is-clause-asked : goal.returns-in-Is-clause-asked
returns-in-Is-clause-asked g c p ts =
    let s = c.args.store.now in
    asks_atom s p ts c.args.text.now (reads (g.A.Atoms.held c.args.atoms.now) s c.args.second) (g.A.Atoms.asked c.args.atoms.now) (g.A.Atoms.asked c.make_atom.new.atoms)
    c.in-None.ensures.fits c.make_atom.ensures.asked

pub returns-in-Is-clause-row : goal.returns-in-Is-clause-row
returns-in-Is-clause-row g c p ts next below =
    let s = c.args.store.now in
    let t = c.take_cells.new.store in
    let m = g.A.Atoms.held c.args.atoms.now in
    let n = g.A.Atoms.held c.make_atom.new.atoms in
    let us = two (atom c.args.text.now) (reads m s c.args.second) in
    subst (λ x. IsRow s next ts x n t (Answer (Two c.atom.result c.args.second) zero)) (sym (fits_is p ts us next s.used s.budget 0 below c.in-None.ensures.fits))
    (made_parts m n s t next c.in-Is.a c.args.text.now c.atom.result c.args.second (c.atom.result ∷ (c.args.second ∷ [])) c.make_atom.ensures.holds
    (subst (λ x. IsMade n c.args.text.now x) c.in-Is.is c.in_ok-made-in-None.ensures.made) c.in-None.ensures.taken refl
    c.atom.ensures c.requires.inside c.requires.held)
