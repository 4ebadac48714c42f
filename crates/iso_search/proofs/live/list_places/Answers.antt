use Rattle.term_store.specs.Live.{place_atoms}
use Rattle.term_store.proofs.Gathering.{gathers_last, gathers_next, gathers_none}
use Rattle.iso_search.proofs.live.list_places.Goals as goal

pub loop-place-init : goal.loop-place-init
loop-place-init c = gathers_none c.args.live.now

pub loop-place-preserved : goal.loop-place-preserved
loop-place-preserved c =
    gathers_next place_atoms c.args.places.now c.loop-place.place-index _ c.args.live.now c.loop-place.live c.live_in.new.live c.loop-place-test.true c.loop-place.invariant
    c.in_ok-live_in.ensures

pub returns : goal.returns
returns c = gathers_last place_atoms c.args.places.now c.loop-place.place-index c.args.live.now c.loop-place.live c.loop-place-test.false c.loop-place.invariant
