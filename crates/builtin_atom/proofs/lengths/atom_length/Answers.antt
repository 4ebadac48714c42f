use Rattle.std.proofs.Common.{codes}
use Rattle.pl_model.specs.Balls.{instantiation_error, type_error}
use Rattle.pl_model.specs.BuiltinRows.{error}
use Rattle.pl_model.specs.History.{proc}
use Rattle.pl_model.specs.AtomBuiltins.{measures}
use Rattle.world_builtins.specs.Spelling.{reads}
use Rattle.builtin_atom.specs.Answering.{pair_at}
use Rattle.builtin_atom.proofs.Fixed.{atom_is, atom_length_is}
use Rattle.builtin_atom.proofs.Looks.{read_compound, read_integer, read_variable}
use Rattle.builtin_atom.proofs.MeasureLaws.{of_compound, of_integer, of_variable}
use Rattle.builtin_atom.proofs.Rows.{ok_as}
use Rattle.builtin_atom.proofs.lengths.atom_length.Goals as goal

pub returns-in-Variable-clause-row : goal.returns-in-Variable-clause-row
returns-in-Variable-clause-row g c =
    let s = c.args.store.now in
    let m = g.A.Atoms.held c.args.atoms.now in
    let a = reads m s c.args.atom in
    let b = reads m s c.args.length in
    let p = proc (codes "atom_length") 2 in
    let ts = pair_at m s c.args.atom c.args.length in
    let stands = g.met.A.Atoms.fixed_held c.args.atoms.now in
    ok_as c.unbound.result s p ts (error instantiation_error) (measures a b) m c.unbound.new.store
    (of_variable a b c.in-Variable.field-0 (read_variable m s c.args.atom c.in-Variable.field-0 c.in-Variable.ensures)) _
    (λ r h. h m (codes "atom_length") ts stands atom_length_is) c.unbound.ensures.row

pub returns-in-Integer-clause-row : goal.returns-in-Integer-clause-row
returns-in-Integer-clause-row g c =
    let s = c.args.store.now in
    let m = g.A.Atoms.held c.args.atoms.now in
    let a = reads m s c.args.atom in
    let b = reads m s c.args.length in
    let p = proc (codes "atom_length") 2 in
    let ts = pair_at m s c.args.atom c.args.length in
    let stands = g.met.A.Atoms.fixed_held c.args.atoms.now in
    ok_as c.wrong_type.result s p ts (error (type_error (codes "atom") a)) (measures a b) m c.wrong_type.new.store
    (of_integer a b c.in-Integer.field-0 (read_integer m s c.args.atom c.in-Integer.field-0 c.in-Integer.ensures)) _
    (λ r h. h m (codes "atom") (codes "atom_length") ts stands c.requires.atom_held atom_is atom_length_is) c.wrong_type.ensures.row

pub returns-in-Compound-clause-row : goal.returns-in-Compound-clause-row
returns-in-Compound-clause-row g c =
    let s = c.args.store.now in
    let m = g.A.Atoms.held c.args.atoms.now in
    let a = reads m s c.args.atom in
    let b = reads m s c.args.length in
    let p = proc (codes "atom_length") 2 in
    let ts = pair_at m s c.args.atom c.args.length in
    let stands = g.met.A.Atoms.fixed_held c.args.atoms.now in
    let call = c.wrong_type-in-Compound in
    let seen = c.in-Compound in
    ok_as call.result s p ts (error (type_error (codes "atom") a)) (measures a b) m call.new.store
    (of_compound a b (read_compound m s c.args.atom seen.field-0 seen.field-1 seen.ensures.0 seen.ensures.1.0 seen.ensures.1.1)) _
    (λ r h. h m (codes "atom") (codes "atom_length") ts stands c.requires.atom_held atom_is atom_length_is) call.ensures.row
