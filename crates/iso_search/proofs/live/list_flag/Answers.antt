use Rattle.std.proofs.Common.{[], ◌∷◌, flat_map}
use Rattle.iso_search.specs.Live.{constant_atoms}
use Rattle.term_store.proofs.Gathering.{gathers_both}
use Rattle.iso_search.proofs.live.list_flag.Goals as goal

pub returns : goal.returns
returns c =
    gathers_both (c.args.flag ∷ []) (constant_atoms c.args.value) c.args.live.now c.insert.new.self c.list_constant.new.live c.in_ok-insert.ensures c.in_ok-list_constant.ensures
