use Rattle.std.proofs.Common.{Some, subst}
use Rattle.gen_core.specs.NumberMaps.{ByNumber, flat}
use Rattle.gen_core.specs.NumberMaps as numbers
use Rattle.gen_core.proofs.NumberRows.{flat_sorted}
use Rattle.gen_core.proofs.NumberGets.{updates_put}
use Rattle.gen_core.proofs.number_map.NumberMap.insert.Goals as goal

pub returns-in_err-insert_in-clause-ordered : goal.returns-in_err-insert_in-clause-ordered
returns-in_err-insert_in-clause-ordered g c =
    flat_sorted c.insert_in.new.rows.items c.insert_in.ensures.ascending c.insert_in.ensures.rows

pub returns-clause-ordered : goal.returns-clause-ordered
returns-clause-ordered g c =
    flat_sorted c.insert_in.new.rows.items c.insert_in.ensures.ascending c.insert_in.ensures.rows

pub returns-clause-updates : goal.returns-clause-updates
returns-clause-updates g c =
    let old : ByNumber g.row.V.Denot = record { entries = flat c.self.inside.rows.items } in
    let new : ByNumber g.row.V.Denot = record { entries = flat c.insert_in.new.rows.items } in
    subst (λ m. numbers.Updates m new c.args.number (Some c.args.value)) c.self.view_is (updates_put old new c.args.number c.args.value c.in_ok-insert_in.ensures.ok)
