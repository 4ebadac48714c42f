use Rattle.std.proofs.Common.{length, sym, ap, subst, ◌∙◌, refl}
use Rattle.std.proofs.lemmas.Option.{slice_get_read}
use Rattle.gen_core.specs.NumberMaps.{AreRows, IsAscending, flat}
use Rattle.gen_core.proofs.NumberLaws.{sorted_out}
use Rattle.gen_core.proofs.NumberRows.{empty_is, rows_out, without}
use Rattle.gen_core.proofs.number_map.drop_empty.Goals as goal

pub returns-then-is_empty-clause-ascending : goal.returns-then-is_empty-clause-ascending
returns-then-is_empty-clause-ascending g c = subst IsAscending (sym c.remove.ensures.items) (sorted_out c.args.rows.now.items c.args.i c.requires.ascending)

pub returns-then-is_empty-clause-rows : goal.returns-then-is_empty-clause-rows
returns-then-is_empty-clause-rows g c = subst AreRows (sym c.remove.ensures.items) (rows_out c.args.rows.now.items c.args.i c.requires.rows)

pub returns-then-is_empty-clause-pairs : goal.returns-then-is_empty-clause-pairs
returns-then-is_empty-clause-pairs g c =
    let here = slice_get_read c.args.rows.now.items (length c.args.rows.now.items) c.args.i c.index.result.now refl c.requires.there c.index.ensures in
    ap flat c.remove.ensures.items
    ∙ without c.args.rows.now.items c.args.i c.index.result.now here (sym c.as_slice.ensures.value ∙ empty_is c.as_slice.result.now (sym c.is_empty.ensures ∙ c.if-is_empty.true))
