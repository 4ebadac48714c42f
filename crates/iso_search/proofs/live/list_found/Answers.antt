use Rattle.std.proofs.Common.{[], ◌∷◌, flat_map}
use Rattle.term_store.specs.Live.{place_atoms}
use Rattle.term_store.specs.NumberedNames.{atoms_in}
use Rattle.term_store.proofs.Gathering.{gathers_both}
use Rattle.iso_search.proofs.live.list_found.Goals as goal

pub returns : goal.returns
returns c =
    gathers_both (place_atoms c.args.list) (flat_map (λ x. atoms_in x.term) c.args.copies.now) c.args.live.now c.live_in.new.live c.list_copies.new.live c.in_ok-live_in.ensures
    c.in_ok-list_copies.ensures
