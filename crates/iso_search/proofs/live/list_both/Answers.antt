use Rattle.std.proofs.Common.{[], ◌∷◌, flat_map}
use Rattle.term_store.specs.Live.{place_atoms}
use Rattle.term_store.proofs.Gathering.{gathers_both}
use Rattle.iso_search.proofs.live.list_both.Goals as goal

pub returns : goal.returns
returns c =
    gathers_both (place_atoms c.args.first) (place_atoms c.args.second) c.args.live.now c.live_in.new.live c.live_in-2.new.live c.in_ok-live_in.ensures
    c.in_ok-live_in-2.ensures
