use Rattle.std.proofs.Common.{◌≡◌, ◌&&◌, true, false, None, List, sym, ap, subst, ◌∙◌}
use Rattle.std.specs.Prelude.{IfOk}
use Rattle.pl_model.specs.AtomBuiltins.{concatenates}
use Rattle.pl_model.specs.BuiltinRows.{Answer}
use Rattle.pl_model.specs.Terms.{is_atom}
use Rattle.world_builtins.specs.Spelling.{reads}
use Rattle.atom_parts.specs.Lined.{AsksFromLine, IsFromLine, lines_in, three_at}
use Rattle.atom_parts.specs.Misfits.{concatenation_error, error_with}
use Rattle.atom_parts.proofs.ArgumentLaws.{concat_faulty, concat_first, concat_no_lines, concat_second, concat_table, concat_whole, lines_of_error}
use Rattle.atom_parts.proofs.LineLaws.{no_lines}
use Rattle.atom_parts.proofs.concatenation.atom_concat_line.Goals as goal

pub returns-in-Some-clause-row : goal.returns-in-Some-clause-row
returns-in-Some-clause-row g c =
    let s = c.args.store.now in
    let m = g.A.Atoms.held c.args.atoms.now in
    let ta = reads m s c.args.first in
    let tb = reads m s c.args.second in
    let tc = reads m s c.args.whole in
    no_lines s (three_at m s c.args.first c.args.second c.args.whole) (lines_in (concatenates ta tb tc)) c.args.line m
    (lines_of_error (error_with m s c.in-Some.field-0) (concatenates ta tb tc)
    (concat_faulty ta tb tc (error_with m s c.in-Some.field-0) (sym (c.in-Some.ensures.error m))))

pub returns-then-are_atoms-clause-row : goal.returns-then-are_atoms-clause-row
returns-then-are_atoms-clause-row g c =
    let s = c.args.store.now in
    let m = g.A.Atoms.held c.args.atoms.now in
    let ta = reads m s c.args.first in
    let tb = reads m s c.args.second in
    let tc = reads m s c.args.whole in
    let none : concatenation_error ta tb tc ≡ None = sym (c.in_default.ensures.error m) in
    let both : (is_atom ta && is_atom tb) ≡ true = c.are_atoms.ensures m ∙ c.if-are_atoms.true in
    no_lines s (three_at m s c.args.first c.args.second c.args.whole) (lines_in (concatenates ta tb tc)) c.args.line m (concat_no_lines ta tb tc none both)

pub split_row-requires-clause-whole : goal.split_row-requires-clause-whole
split_row-requires-clause-whole g c =
    let s = c.args.store.now in
    let m = g.A.Atoms.held c.args.atoms.now in
    let ta = reads m s c.args.first in
    let tb = reads m s c.args.second in
    let tc = reads m s c.args.whole in
    let none : concatenation_error ta tb tc ≡ None = sym (c.in_default.ensures.error m) in
    let neither : (is_atom ta && is_atom tb) ≡ false = c.are_atoms.ensures m ∙ c.if-are_atoms.false in
    concat_whole ta tb tc none neither

pub split_row-requires-clause-first : goal.split_row-requires-clause-first
split_row-requires-clause-first g c =
    let s = c.args.store.now in
    let m = g.A.Atoms.held c.args.atoms.now in
    let ta = reads m s c.args.first in
    let tb = reads m s c.args.second in
    let tc = reads m s c.args.whole in
    let none : concatenation_error ta tb tc ≡ None = sym (c.in_default.ensures.error m) in
    concat_first ta tb tc none

pub split_row-requires-clause-second : goal.split_row-requires-clause-second
split_row-requires-clause-second g c =
    let s = c.args.store.now in
    let m = g.A.Atoms.held c.args.atoms.now in
    let ta = reads m s c.args.first in
    let tb = reads m s c.args.second in
    let tc = reads m s c.args.whole in
    let none : concatenation_error ta tb tc ≡ None = sym (c.in_default.ensures.error m) in
    concat_second ta tb tc none

pub returns-clause-row : goal.returns-clause-row
returns-clause-row g c =
    let s = c.args.store.now in
    let m = g.A.Atoms.held c.args.atoms.now in
    let ta = reads m s c.args.first in
    let tb = reads m s c.args.second in
    let tc = reads m s c.args.whole in
    let none : concatenation_error ta tb tc ≡ None = sym (c.in_default.ensures.error m) in
    let neither : (is_atom ta && is_atom tb) ≡ false = c.are_atoms.ensures m ∙ c.if-are_atoms.false in
    subst (λ (xs : List Answer). IfOk c.split_row.result (IsFromLine s (three_at m s c.args.first c.args.second c.args.whole) xs c.args.line (g.A.Atoms.held c.split_row.new.atoms)))
    (ap lines_in (concat_table ta tb tc none neither)) c.split_row.ensures.row

pub returns-clause-asked : goal.returns-clause-asked
returns-clause-asked g c =
    let s = c.args.store.now in
    let m = g.A.Atoms.held c.args.atoms.now in
    let ta = reads m s c.args.first in
    let tb = reads m s c.args.second in
    let tc = reads m s c.args.whole in
    let none : concatenation_error ta tb tc ≡ None = sym (c.in_default.ensures.error m) in
    let neither : (is_atom ta && is_atom tb) ≡ false = c.are_atoms.ensures m ∙ c.if-are_atoms.false in
    subst (λ (xs : List Answer). AsksFromLine (three_at m s c.args.first c.args.second c.args.whole) xs c.args.line (g.A.Atoms.asked c.args.atoms.now) (g.A.Atoms.asked c.split_row.new.atoms))
    (ap lines_in (concat_table ta tb tc none neither)) c.split_row.ensures.asked
