use Rattle.std.proofs.Common.{length, refl}
use Rattle.std.proofs.lemmas.Option.{slice_get_read}
use Rattle.gen_core.proofs.NumberLaws.{place_within}
use Rattle.gen_core.proofs.NumberRows.{first_at, first_read, none_read}
use Rattle.gen_core.proofs.number_map.first_of.Goals as goal

pub returns-in-Ok-clause-some : goal.returns-in-Ok-clause-some
returns-in-Ok-clause-some g c =
    let xs = c.args.items.now in
    first_at xs c.in-Ok.i c.args.from c.index-items-i.result c.requires c.in-Ok.ensures (slice_get_read xs (length xs) c.in-Ok.i c.index-items-i.result refl (place_within xs c.in-Ok.i c.args.from c.in-Ok.ensures) c.index-items-i.is)

pub returns-in-Err-clause-some : goal.returns-in-Err-clause-some
returns-in-Err-clause-some g c =
    first_read c.args.items.now c.in-Err.i c.args.from c.get.result c.requires c.in-Err.ensures c.get.ensures.lookup

pub returns-in-Err-clause-none : goal.returns-in-Err-clause-none
returns-in-Err-clause-none g c =
    none_read c.args.items.now c.in-Err.i c.args.from c.get.result c.requires c.in-Err.ensures c.get.ensures.lookup
