use Rattle.std.proofs.Common.{◌≡◌, ◌+◌, List, suc, sym, subst, arith}
use Rattle.std.specs.List.{All}
use Rattle.builtin_atom.proofs.Rows.{with_ok}
use Rattle.atom_parts.specs.declared.columns.Column.{Column}
use Rattle.atom_parts.specs.Tables.{IsShort}
use Rattle.atom_parts.proofs.SplitRows.{split_asks, split_short, split_stands}
use Rattle.atom_parts.proofs.concatenation.split_answer.Goals as goal

pub line_row-requires-clause-short : goal.line_row-requires-clause-short
line_row-requires-clause-short g c =
    let m = g.A.Atoms.held c.args.atoms.now in
    let a = c.args in
    subst (λ (l : List Column). All (IsShort a.text.now) l) (sym c.split_columns-columns.ensures)
    (split_short m a.store.now a.first a.second a.whole a.text.now a.splits c.in-Some.at c.requires.read c.in-Some.ensures.splits.0)

pub returns-clause-row : goal.returns-clause-row
returns-clause-row g c =
    let m = g.A.Atoms.held c.args.atoms.now in
    let n = g.A.Atoms.held c.line_row.new.atoms in
    let a = c.args in
    let q = c.requires in
    let k = c.in-Some.at in
    let next : k + 1 ≡ suc k = omega arith in
    with_ok _ _ c.line_row.result
    (λ r h. split_stands m a.store.now a.first a.second a.whole a.text.now a.splits a.line q.read n k (k + 1) c.next_split-following.result c.split_columns-columns.result r
    q.first_inside q.second_inside q.whole_inside q.first_held q.second_held q.whole_held c.in-Some.ensures next c.next_split-following.ensures
    c.split_columns-columns.ensures h) c.line_row.ensures.lined

pub returns-clause-asked : goal.returns-clause-asked
returns-clause-asked g c =
    let m = g.A.Atoms.held c.args.atoms.now in
    let a = c.args in
    let k = c.in-Some.at in
    let next : k + 1 ≡ suc k = omega arith in
    split_asks m a.store.now a.first a.second a.whole a.text.now a.splits a.line c.requires.read k (k + 1) c.next_split-following.result c.split_columns-columns.result _ _
    c.in-Some.ensures next c.next_split-following.ensures c.split_columns-columns.ensures c.line_row.ensures.asked
