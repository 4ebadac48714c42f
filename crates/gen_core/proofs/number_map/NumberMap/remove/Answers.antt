use Rattle.std.proofs.Common.{None, subst}
use Rattle.gen_core.specs.NumberMaps.{ByNumber, flat}
use Rattle.gen_core.specs.NumberMaps as numbers
use Rattle.gen_core.proofs.NumberRows.{flat_sorted}
use Rattle.gen_core.proofs.NumberGets.{updates_out}
use Rattle.gen_core.proofs.number_map.NumberMap.remove.Goals as goal

pub returns-clause-ordered : goal.returns-clause-ordered
returns-clause-ordered g c =
    flat_sorted c.take_in-taken.new.rows.items c.take_in-taken.ensures.ascending c.take_in-taken.ensures.rows

pub returns-clause-updates : goal.returns-clause-updates
returns-clause-updates g c =
    let old : ByNumber g.row.V.Denot = record { entries = flat c.self.inside.rows.items } in
    let new : ByNumber g.row.V.Denot = record { entries = flat c.take_in-taken.new.rows.items } in
    subst (λ m. numbers.Updates m new c.args.number None) c.self.view_is
    (updates_out old new c.args.number (flat_sorted c.self.inside.rows.items c.self.invariant.0 c.self.invariant.1) c.take_in-taken.ensures.pairs)
