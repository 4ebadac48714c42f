use Rattle.std.proofs.Common.{◌≡◌, None, codes, sym}
use Rattle.pl_model.specs.AtomBuiltins.{sub_atoms}
use Rattle.pl_model.specs.BuiltinRows.{error, table}
use Rattle.pl_model.specs.Checks.{text_of_atom}
use Rattle.world_builtins.specs.Spelling.{reads}
use Rattle.builtin_atom.proofs.Asking.{asks_as}
use Rattle.builtin_atom.proofs.Rows.{ok_as}
use Rattle.atom_parts.specs.Lined.{five_at, sub_atom_proc}
use Rattle.atom_parts.specs.Misfits.{error_with, sub_atoms_error}
use Rattle.atom_parts.specs.Parts.{parts_of}
use Rattle.atom_parts.proofs.ArgumentLaws.{sub_faulty, sub_table}
use Rattle.atom_parts.proofs.LineLaws.{table_asks, table_row}
use Rattle.atom_parts.proofs.Names.{sub_atom_is}
use Rattle.atom_parts.proofs.sub_atoms.sub_atom.Goals as goal

pub returns-in-Some-clause-row : goal.returns-in-Some-clause-row
returns-in-Some-clause-row g c =
    let s = c.args.store.now in
    let m = g.A.Atoms.held c.args.atoms.now in
    let a = reads m s c.args.whole in
    let b = reads m s c.args.before in
    let l = reads m s c.args.count in
    let f = reads m s c.args.after in
    let t = reads m s c.args.part in
    let ts = five_at m s c.args.whole c.args.before c.args.count c.args.after c.args.part in
    let q = c.requires in
    let e = error_with m s c.in-Some.misfit in
    ok_as c.misfit_row.result s sub_atom_proc ts (error e) (sub_atoms a b l f t) m c.misfit_row.new.store
    (sub_faulty a b l f t e (sym (c.in-Some.ensures.error m))) _
    (λ r h. h m (codes "sub_atom") ts (g.met.A.Atoms.fixed_held c.args.atoms.now)
    (c.in-Some.ensures.held m q.whole_held q.before_held q.count_held q.after_held q.part_held) sub_atom_is) c.misfit_row.ensures.row

pub returns-in-None-clause-row : goal.returns-in-None-clause-row
returns-in-None-clause-row g c =
    let s = c.args.store.now in
    let m = g.A.Atoms.held c.args.atoms.now in
    let a = reads m s c.args.whole in
    let b = reads m s c.args.before in
    let l = reads m s c.args.count in
    let f = reads m s c.args.after in
    let t = reads m s c.args.part in
    let ts = five_at m s c.args.whole c.args.before c.args.count c.args.after c.args.part in
    let none : sub_atoms_error a b l f t ≡ None = sym (c.in-None.ensures.error m) in
    ok_as c.part_row.result s sub_atom_proc ts (table (parts_of (text_of_atom a))) (sub_atoms a b l f t) (g.A.Atoms.held c.part_row.new.atoms) s
    (sub_table a b l f t none) _
    (λ r h. table_row s sub_atom_proc ts (parts_of (text_of_atom a)) (g.A.Atoms.held c.part_row.new.atoms) r h) c.part_row.ensures.row

pub returns-in-None-clause-asked : goal.returns-in-None-clause-asked
returns-in-None-clause-asked g c =
    let s = c.args.store.now in
    let m = g.A.Atoms.held c.args.atoms.now in
    let a = reads m s c.args.whole in
    let b = reads m s c.args.before in
    let l = reads m s c.args.count in
    let f = reads m s c.args.after in
    let t = reads m s c.args.part in
    let ts = five_at m s c.args.whole c.args.before c.args.count c.args.after c.args.part in
    let none : sub_atoms_error a b l f t ≡ None = sym (c.in-None.ensures.error m) in
    asks_as s sub_atom_proc ts (table (parts_of (text_of_atom a))) (sub_atoms a b l f t) _ _ (sub_table a b l f t none)
    (table_asks s sub_atom_proc ts (parts_of (text_of_atom a)) _ _ c.part_row.ensures.asked)
