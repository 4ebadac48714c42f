use Rattle.gen_core.proofs.NumberRows.{none_before_gap, none_before_place}
use Rattle.gen_core.proofs.number_map.first_row.Goals as goal

pub returns-in-Ok : goal.returns-in-Ok
returns-in-Ok g c =
    none_before_place c.args.from c.args.rows.now c.in-Ok.i c.requires.ascending c.requires.rows c.in-Ok.ensures

pub returns-in-Err : goal.returns-in-Err
returns-in-Err g c =
    none_before_gap c.args.from c.args.rows.now c.in-Err.i c.requires.ascending c.requires.rows c.in-Err.ensures
