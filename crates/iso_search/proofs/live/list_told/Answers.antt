use Rattle.std.proofs.Common.{[], ◌∷◌, flat_map}
use Rattle.term_store.specs.Live.{place_atoms}
use Rattle.iso_search.specs.Live.{line_atoms}
use Rattle.term_store.proofs.Gathering.{gathers_both}
use Rattle.iso_search.proofs.live.list_told.Goals as goal

pub returns : goal.returns
returns c =
    gathers_both (place_atoms c.args.goal) (flat_map line_atoms c.args.lines.now) c.args.live.now c.live_in.new.live c.list_lines.new.live c.in_ok-live_in.ensures
    c.in_ok-list_lines.ensures
