use Rattle.std.proofs.Common.{subst}
use Rattle.gen_core.specs.declared.clause_index.Entry.{Entry}
use Rattle.gen_core.specs.NumberMaps.{ByNumber, flat}
use Rattle.gen_core.specs.ClauseIndex.{Marks}
use Rattle.gen_core.proofs.NumberRows.{flat_sorted}
use Rattle.gen_core.proofs.NumberGets.{marks_is}
use Rattle.gen_core.proofs.number_map.NumberMap+Entry+C+K.mark.Goals as goal

pub returns : goal.returns
returns g c =
    let old : ByNumber (Entry g.row.C.Denot g.row.K.Denot) = record { entries = flat c.self.inside.rows.items } in
    let new : ByNumber (Entry g.row.C.Denot g.row.K.Denot) = record { entries = flat c.mark_in.new.rows.items } in
    subst (λ m. Marks m new c.args.number c.args.place) c.self.view_is
    (marks_is old new c.args.number c.args.place (flat_sorted c.mark_in.new.rows.items c.mark_in.ensures.ascending c.mark_in.ensures.rows) c.mark_in.ensures.pairs)
