use Rattle.gen_core.proofs.NumberRows.{flat_sorted}
use Rattle.gen_core.proofs.number_map.NumberMap+Entry+C+K.mark_all.Goals as goal

pub returns-clause-ordered : goal.returns-clause-ordered
returns-clause-ordered g c =
    flat_sorted c.mark_rows.new.rows.items c.mark_rows.ensures.ascending c.mark_rows.ensures.rows
