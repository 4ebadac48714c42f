use Rattle.std.proofs.Common.{codes}
use Rattle.pl_model.specs.AtomBuiltins.{spells}
use Rattle.pl_model.specs.Balls.{type_error}
use Rattle.pl_model.specs.BuiltinRows.{error}
use Rattle.pl_model.specs.History.{proc}
use Rattle.world_builtins.specs.Spelling.{reads}
use Rattle.builtin_atom.specs.Answering.{pair_at}
use Rattle.builtin_atom.specs.Forms.{atom_predicate, check_by, from_by, to_by}
use Rattle.builtin_atom.proofs.Fixed.{atomic_is}
use Rattle.builtin_atom.proofs.Looks.{read_compound, read_variable}
use Rattle.builtin_atom.proofs.Rows.{ok_as}
use Rattle.builtin_atom.proofs.SpellLaws.{spells_compound}
use Rattle.builtin_atom.proofs.spelling.spell.Goals as goal

pub spell_list-requires-clause-unbound : goal.spell_list-requires-clause-unbound
spell_list-requires-clause-unbound g c =
    let m = g.A.Atoms.held c.args.atoms.now in
    (c.in-Variable.field-0, read_variable m c.args.store.now c.args.atom c.in-Variable.field-0 c.in-Variable.ensures)

pub returns-in-Compound-clause-row : goal.returns-in-Compound-clause-row
returns-in-Compound-clause-row g c =
    let s = c.args.store.now in
    let m = g.A.Atoms.held c.args.atoms.now in
    let f = c.args.form in
    let a = reads m s c.args.atom in
    let l = reads m s c.args.list in
    let p = proc (atom_predicate f) 2 in
    let ts = pair_at m s c.args.atom c.args.list in
    let row = spells (check_by f) (from_by f) (to_by f) a l in
    let seen = c.in-Compound in
    ok_as c.wrong_type.result s p ts (error (type_error (codes "atomic") a)) row m c.wrong_type.new.store
    (spells_compound (check_by f) (from_by f) (to_by f) a l
    (read_compound m s c.args.atom seen.field-0 seen.field-1 seen.ensures.0 seen.ensures.1.0 seen.ensures.1.1)) _
    (λ r h. h m (codes "atomic") (atom_predicate f) ts (g.met.A.Atoms.fixed_held c.args.atoms.now) c.requires.atom_held atomic_is c.name_of.ensures)
    c.wrong_type.ensures.row
