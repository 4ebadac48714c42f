use Rattle.std.proofs.Common.{sym}
use Rattle.gen_core.proofs.NumberLaws.{lookup_gap, value_place}
use Rattle.gen_core.proofs.number_map.value_of.Goals as goal

pub returns-in-Ok : goal.returns-in-Ok
returns-in-Ok g c = value_place c.args.number c.args.items.now c.in-Ok.i c.index-items-i.result c.requires c.in-Ok.ensures

pub returns-in-Err : goal.returns-in-Err
returns-in-Err g c = sym (lookup_gap c.args.number c.args.items.now c.in-Err.field-0 c.requires c.in-Err.ensures)
