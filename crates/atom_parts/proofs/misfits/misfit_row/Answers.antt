use Rattle.std.proofs.Common.{codes, sym}
use Rattle.atom_parts.specs.declared.misfits.Misfit.TheVariants.{NoAtom, NoInteger}
use Rattle.builtin_atom.proofs.Fixed.{atom_is, integer_is}
use Rattle.atom_parts.proofs.MisfitLaws.{MisfitRow, misfit_as}
use Rattle.builtin_atom.proofs.Rows.{with_ok}
use Rattle.atom_parts.proofs.misfits.misfit_row.Goals as goal

pub returns-in-NoAtom-clause-row : goal.returns-in-NoAtom-clause-row
returns-in-NoAtom-clause-row c =
    let s = c.args.store.now in
    let f = c.in-NoAtom in
    let t = c.wrong_type.new.store in
    misfit_as c.wrong_type.result s c.args.name c.args.arity t (NoAtom f.place) c.args.misfit (sym f.is)
    (with_ok _ (MisfitRow s c.args.name c.args.arity t (NoAtom f.place)) c.wrong_type.result
    (λ r h m p ts stand held known. h m (codes "atom") p ts stand held atom_is known) c.wrong_type.ensures.row)

pub returns-in-NoInteger-clause-row : goal.returns-in-NoInteger-clause-row
returns-in-NoInteger-clause-row c =
    let s = c.args.store.now in
    let f = c.in-NoInteger in
    let call = c.wrong_type-in-NoInteger in
    let t = call.new.store in
    misfit_as call.result s c.args.name c.args.arity t (NoInteger f.place) c.args.misfit (sym f.is)
    (with_ok _ (MisfitRow s c.args.name c.args.arity t (NoInteger f.place)) call.result
    (λ r h m p ts stand held known. h m (codes "integer") p ts stand held integer_is known) call.ensures.row)
