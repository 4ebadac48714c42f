use Rattle.std.proofs.Common.{List, sym, subst}
use Rattle.std.specs.List.{All}
use Rattle.builtin_atom.proofs.Rows.{with_ok}
use Rattle.atom_parts.specs.declared.columns.Column.{Column}
use Rattle.atom_parts.specs.Tables.{IsShort}
use Rattle.atom_parts.proofs.PartRows.{part_asks, part_stands, parts_short}
use Rattle.atom_parts.proofs.sub_atoms.part_answer.Goals as goal

pub line_row-requires-clause-short : goal.line_row-requires-clause-short
line_row-requires-clause-short g c =
    let m = g.A.Atoms.held c.args.atoms.now in
    let a = c.args in
    let at = c.in-Some.ensures.part in
    subst (λ (l : List Column). All (IsShort a.text.now) l) (sym c.part_columns-columns.ensures)
    (parts_short m a.store.now a.whole a.before a.count a.after a.part a.text.now a.parts c.in-Some.found c.requires.read (at.0.within at.1.0))

pub returns-clause-row : goal.returns-clause-row
returns-clause-row g c =
    let m = g.A.Atoms.held c.args.atoms.now in
    let n = g.A.Atoms.held c.line_row.new.atoms in
    let a = c.args in
    let q = c.requires in
    with_ok _ _ c.line_row.result
    (λ r h. part_stands m a.store.now a.whole a.before a.count a.after a.part a.text.now a.parts a.line q.read n c.in-Some.found c.following_part-following.result
    c.part_columns-columns.result r q.whole_inside q.before_inside q.count_inside q.after_inside q.part_inside
    q.whole_held q.before_held q.count_held q.after_held q.part_held c.in-Some.ensures.next c.in-Some.ensures.part c.following_part-following.ensures
    c.part_columns-columns.ensures h) c.line_row.ensures.lined

pub returns-clause-asked : goal.returns-clause-asked
returns-clause-asked g c =
    let m = g.A.Atoms.held c.args.atoms.now in
    let a = c.args in
    part_asks m a.store.now a.whole a.before a.count a.after a.part a.text.now a.parts a.line c.requires.read c.in-Some.found c.following_part-following.result
    c.part_columns-columns.result _ _ c.in-Some.ensures.next c.in-Some.ensures.part c.following_part-following.ensures c.part_columns-columns.ensures c.line_row.ensures.asked
