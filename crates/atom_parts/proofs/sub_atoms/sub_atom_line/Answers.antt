use Rattle.std.proofs.Common.{◌≡◌, None, List, sym, ap, subst}
use Rattle.std.specs.Prelude.{IfOk}
use Rattle.pl_model.specs.AtomBuiltins.{sub_atoms}
use Rattle.pl_model.specs.BuiltinRows.{Answer}
use Rattle.world_builtins.specs.Spelling.{reads}
use Rattle.atom_parts.specs.Lined.{AsksFromLine, IsFromLine, five_at, lines_in}
use Rattle.atom_parts.specs.Misfits.{error_with, sub_atoms_error}
use Rattle.atom_parts.proofs.ArgumentLaws.{lines_of_error, sub_faulty, sub_table}
use Rattle.atom_parts.proofs.LineLaws.{no_lines}
use Rattle.atom_parts.proofs.sub_atoms.sub_atom_line.Goals as goal

pub returns-in-Some-clause-row : goal.returns-in-Some-clause-row
returns-in-Some-clause-row g c =
    let s = c.args.store.now in
    let m = g.A.Atoms.held c.args.atoms.now in
    let a = reads m s c.args.whole in
    let b = reads m s c.args.before in
    let l = reads m s c.args.count in
    let f = reads m s c.args.after in
    let t = reads m s c.args.part in
    let ts = five_at m s c.args.whole c.args.before c.args.count c.args.after c.args.part in
    let e = error_with m s c.in-Some.field-0 in
    no_lines s ts (lines_in (sub_atoms a b l f t)) c.args.line m
    (lines_of_error e (sub_atoms a b l f t) (sub_faulty a b l f t e (sym (c.in-Some.ensures.error m))))

pub returns-in-None-clause-row : goal.returns-in-None-clause-row
returns-in-None-clause-row g c =
    let s = c.args.store.now in
    let m = g.A.Atoms.held c.args.atoms.now in
    let a = reads m s c.args.whole in
    let b = reads m s c.args.before in
    let l = reads m s c.args.count in
    let f = reads m s c.args.after in
    let t = reads m s c.args.part in
    let ts = five_at m s c.args.whole c.args.before c.args.count c.args.after c.args.part in
    let none : sub_atoms_error a b l f t ≡ None = sym (c.in-None.ensures.error m) in
    subst (λ (xs : List Answer). IfOk c.part_row.result (IsFromLine s ts xs c.args.line (g.A.Atoms.held c.part_row.new.atoms)))
    (ap lines_in (sub_table a b l f t none)) c.part_row.ensures.row

pub returns-in-None-clause-asked : goal.returns-in-None-clause-asked
returns-in-None-clause-asked g c =
    let s = c.args.store.now in
    let m = g.A.Atoms.held c.args.atoms.now in
    let a = reads m s c.args.whole in
    let b = reads m s c.args.before in
    let l = reads m s c.args.count in
    let f = reads m s c.args.after in
    let t = reads m s c.args.part in
    let ts = five_at m s c.args.whole c.args.before c.args.count c.args.after c.args.part in
    let none : sub_atoms_error a b l f t ≡ None = sym (c.in-None.ensures.error m) in
    subst (λ (xs : List Answer). AsksFromLine ts xs c.args.line (g.A.Atoms.asked c.args.atoms.now) (g.A.Atoms.asked c.part_row.new.atoms))
    (ap lines_in (sub_table a b l f t none)) c.part_row.ensures.asked
