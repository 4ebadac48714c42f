use Rattle.std.proofs.Common.{◌≡◌, ◌&&◌, true, false, None, codes, sym, ◌∙◌}
use Rattle.pl_model.specs.AtomBuiltins.{concatenates}
use Rattle.pl_model.specs.BuiltinRows.{error, table}
use Rattle.pl_model.specs.Checks.{text_of_atom}
use Rattle.pl_model.specs.Terms.{is_atom}
use Rattle.world_builtins.specs.Spelling.{reads}
use Rattle.builtin_atom.proofs.Asking.{asks_as}
use Rattle.builtin_atom.proofs.Rows.{ok_as}
use Rattle.atom_parts.specs.Joining.{joined_row}
use Rattle.atom_parts.specs.Lined.{atom_concat_proc, three_at}
use Rattle.atom_parts.specs.Misfits.{concatenation_error, error_with}
use Rattle.atom_parts.specs.Splits.{splits_of}
use Rattle.atom_parts.proofs.ArgumentLaws.{concat_both, concat_faulty, concat_first, concat_joined, concat_second, concat_table, concat_whole}
use Rattle.atom_parts.proofs.LineLaws.{table_asks, table_row}
use Rattle.atom_parts.proofs.Names.{atom_concat_is}
use Rattle.atom_parts.proofs.concatenation.atom_concat.Goals as goal

pub returns-in-Some-clause-row : goal.returns-in-Some-clause-row
returns-in-Some-clause-row g c =
    let s = c.args.store.now in
    let m = g.A.Atoms.held c.args.atoms.now in
    let ta = reads m s c.args.first in
    let tb = reads m s c.args.second in
    let tc = reads m s c.args.whole in
    let q = c.requires in
    let f = c.in-Some.misfit in
    ok_as c.misfit_row.result s atom_concat_proc (three_at m s c.args.first c.args.second c.args.whole) (error (error_with m s f)) (concatenates ta tb tc) m c.misfit_row.new.store
    (concat_faulty ta tb tc (error_with m s f) (sym (c.in-Some.ensures.error m))) _
    (λ r h. h m (codes "atom_concat") (three_at m s c.args.first c.args.second c.args.whole) (g.met.A.Atoms.fixed_held c.args.atoms.now)
    (c.in-Some.ensures.held m q.first_held q.second_held q.whole_held) atom_concat_is) c.misfit_row.ensures.row

pub join-requires-clause-first : goal.join-requires-clause-first
join-requires-clause-first g c =
    let s = c.args.store.now in
    let m = g.A.Atoms.held c.args.atoms.now in
    let ta = reads m s c.args.first in
    let tb = reads m s c.args.second in
    let tc = reads m s c.args.whole in
    let none : concatenation_error ta tb tc ≡ None = sym (c.in_default.ensures.error m) in
    let both : (is_atom ta && is_atom tb) ≡ true = c.are_atoms.ensures m ∙ c.if-are_atoms.true in
    (concat_both ta tb tc none both).0

pub join-requires-clause-second : goal.join-requires-clause-second
join-requires-clause-second g c =
    let s = c.args.store.now in
    let m = g.A.Atoms.held c.args.atoms.now in
    let ta = reads m s c.args.first in
    let tb = reads m s c.args.second in
    let tc = reads m s c.args.whole in
    let none : concatenation_error ta tb tc ≡ None = sym (c.in_default.ensures.error m) in
    let both : (is_atom ta && is_atom tb) ≡ true = c.are_atoms.ensures m ∙ c.if-are_atoms.true in
    (concat_both ta tb tc none both).1

pub split_row-requires-clause-whole : goal.split_row-requires-clause-whole
split_row-requires-clause-whole g c =
    let s = c.args.store.now in
    let m = g.A.Atoms.held c.args.atoms.now in
    let ta = reads m s c.args.first in
    let tb = reads m s c.args.second in
    let tc = reads m s c.args.whole in
    let none : concatenation_error ta tb tc ≡ None = sym (c.in_default.ensures.error m) in
    let neither : (is_atom ta && is_atom tb) ≡ false = c.are_atoms.ensures m ∙ c.if-are_atoms.false in
    concat_whole ta tb tc none neither

pub split_row-requires-clause-first : goal.split_row-requires-clause-first
split_row-requires-clause-first g c =
    let s = c.args.store.now in
    let m = g.A.Atoms.held c.args.atoms.now in
    let ta = reads m s c.args.first in
    let tb = reads m s c.args.second in
    let tc = reads m s c.args.whole in
    let none : concatenation_error ta tb tc ≡ None = sym (c.in_default.ensures.error m) in
    concat_first ta tb tc none

pub split_row-requires-clause-second : goal.split_row-requires-clause-second
split_row-requires-clause-second g c =
    let s = c.args.store.now in
    let m = g.A.Atoms.held c.args.atoms.now in
    let ta = reads m s c.args.first in
    let tb = reads m s c.args.second in
    let tc = reads m s c.args.whole in
    let none : concatenation_error ta tb tc ≡ None = sym (c.in_default.ensures.error m) in
    concat_second ta tb tc none

pub returns-then-are_atoms-clause-row : goal.returns-then-are_atoms-clause-row
returns-then-are_atoms-clause-row g c =
    let s = c.args.store.now in
    let m = g.A.Atoms.held c.args.atoms.now in
    let ta = reads m s c.args.first in
    let tb = reads m s c.args.second in
    let tc = reads m s c.args.whole in
    let none : concatenation_error ta tb tc ≡ None = sym (c.in_default.ensures.error m) in
    let both : (is_atom ta && is_atom tb) ≡ true = c.are_atoms.ensures m ∙ c.if-are_atoms.true in
    ok_as c.join.result s atom_concat_proc (three_at m s c.args.first c.args.second c.args.whole) (joined_row ta tb) (concatenates ta tb tc) (g.A.Atoms.held c.join.new.atoms) c.join.new.store
    (concat_joined ta tb tc none both) _ (λ r h. h (three_at m s c.args.first c.args.second c.args.whole)) c.join.ensures.row

pub returns-then-are_atoms-clause-asked : goal.returns-then-are_atoms-clause-asked
returns-then-are_atoms-clause-asked g c =
    let s = c.args.store.now in
    let m = g.A.Atoms.held c.args.atoms.now in
    let ta = reads m s c.args.first in
    let tb = reads m s c.args.second in
    let tc = reads m s c.args.whole in
    let none : concatenation_error ta tb tc ≡ None = sym (c.in_default.ensures.error m) in
    let both : (is_atom ta && is_atom tb) ≡ true = c.are_atoms.ensures m ∙ c.if-are_atoms.true in
    asks_as s atom_concat_proc (three_at m s c.args.first c.args.second c.args.whole) (joined_row ta tb) (concatenates ta tb tc) _ _ (concat_joined ta tb tc none both) (c.join.ensures.asked (three_at m s c.args.first c.args.second c.args.whole))

pub returns-clause-row : goal.returns-clause-row
returns-clause-row g c =
    let s = c.args.store.now in
    let m = g.A.Atoms.held c.args.atoms.now in
    let ta = reads m s c.args.first in
    let tb = reads m s c.args.second in
    let tc = reads m s c.args.whole in
    let none : concatenation_error ta tb tc ≡ None = sym (c.in_default.ensures.error m) in
    let neither : (is_atom ta && is_atom tb) ≡ false = c.are_atoms.ensures m ∙ c.if-are_atoms.false in
    ok_as c.split_row.result s atom_concat_proc (three_at m s c.args.first c.args.second c.args.whole) (table (splits_of (text_of_atom tc))) (concatenates ta tb tc) (g.A.Atoms.held c.split_row.new.atoms) s
    (concat_table ta tb tc none neither) _
    (λ r h. table_row s atom_concat_proc (three_at m s c.args.first c.args.second c.args.whole) (splits_of (text_of_atom tc)) (g.A.Atoms.held c.split_row.new.atoms) r h) c.split_row.ensures.row

pub returns-clause-asked : goal.returns-clause-asked
returns-clause-asked g c =
    let s = c.args.store.now in
    let m = g.A.Atoms.held c.args.atoms.now in
    let ta = reads m s c.args.first in
    let tb = reads m s c.args.second in
    let tc = reads m s c.args.whole in
    let none : concatenation_error ta tb tc ≡ None = sym (c.in_default.ensures.error m) in
    let neither : (is_atom ta && is_atom tb) ≡ false = c.are_atoms.ensures m ∙ c.if-are_atoms.false in
    asks_as s atom_concat_proc (three_at m s c.args.first c.args.second c.args.whole) (table (splits_of (text_of_atom tc))) (concatenates ta tb tc) _ _ (concat_table ta tb tc none neither)
    (table_asks s atom_concat_proc (three_at m s c.args.first c.args.second c.args.whole) (splits_of (text_of_atom tc)) _ _ c.split_row.ensures.asked)
