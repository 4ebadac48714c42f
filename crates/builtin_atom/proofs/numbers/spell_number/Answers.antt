use Rattle.std.proofs.Common.{codes}
use Rattle.pl_model.specs.AtomBuiltins.{spells_number}
use Rattle.pl_model.specs.Balls.{type_error}
use Rattle.pl_model.specs.BuiltinRows.{error}
use Rattle.pl_model.specs.History.{proc}
use Rattle.term_store.specs.Heap.{atom_name}
use Rattle.world_builtins.specs.Spelling.{reads, text_of}
use Rattle.builtin_atom.specs.Answering.{pair_at}
use Rattle.builtin_atom.specs.Forms.{check_by, from_by, number_predicate, to_by}
use Rattle.builtin_atom.proofs.Fixed.{number_is}
use Rattle.builtin_atom.proofs.Looks.{read_atom, read_compound, read_variable}
use Rattle.builtin_atom.proofs.NumberLaws.{numbers_atom, numbers_compound}
use Rattle.builtin_atom.proofs.Rows.{ok_as}
use Rattle.builtin_atom.proofs.numbers.spell_number.Goals as goal

pub read_number-requires-clause-unbound : goal.read_number-requires-clause-unbound
read_number-requires-clause-unbound g c =
    let m = g.A.Atoms.held c.args.atoms.now in
    (c.in-Variable.field-0, read_variable m c.args.store.now c.args.integer c.in-Variable.field-0 c.in-Variable.ensures)

pub returns-in-Atom-clause-row : goal.returns-in-Atom-clause-row
returns-in-Atom-clause-row g c =
    let s = c.args.store.now in
    let m = g.A.Atoms.held c.args.atoms.now in
    let f = c.args.form in
    let a = reads m s c.args.integer in
    let l = reads m s c.args.list in
    let p = proc (number_predicate f) 2 in
    let ts = pair_at m s c.args.integer c.args.list in
    let row = spells_number (check_by f) (from_by f) (to_by f) a l in
    let seen = c.in-Atom in
    ok_as c.wrong_type.result s p ts (error (type_error (codes "number") a)) row m c.wrong_type.new.store
    (numbers_atom (check_by f) (from_by f) (to_by f) a l (text_of m (atom_name seen.field-0)) (read_atom m s c.args.integer seen.field-0 seen.ensures)) _
    (λ r h. h m (codes "number") (number_predicate f) ts (g.met.A.Atoms.fixed_held c.args.atoms.now) c.requires.integer_held number_is c.number_name.ensures)
    c.wrong_type.ensures.row

pub returns-in-Compound-clause-row : goal.returns-in-Compound-clause-row
returns-in-Compound-clause-row g c =
    let s = c.args.store.now in
    let m = g.A.Atoms.held c.args.atoms.now in
    let f = c.args.form in
    let a = reads m s c.args.integer in
    let l = reads m s c.args.list in
    let p = proc (number_predicate f) 2 in
    let ts = pair_at m s c.args.integer c.args.list in
    let row = spells_number (check_by f) (from_by f) (to_by f) a l in
    let seen = c.in-Compound in
    ok_as c.wrong_type-in-Compound.result s p ts (error (type_error (codes "number") a)) row m c.wrong_type-in-Compound.new.store
    (numbers_compound (check_by f) (from_by f) (to_by f) a l
    (read_compound m s c.args.integer seen.field-0 seen.field-1 seen.ensures.0 seen.ensures.1.0 seen.ensures.1.1)) _
    (λ r h. h m (codes "number") (number_predicate f) ts (g.met.A.Atoms.fixed_held c.args.atoms.now) c.requires.integer_held number_is c.number_name-in-Compound.ensures)
    c.wrong_type-in-Compound.ensures.row
