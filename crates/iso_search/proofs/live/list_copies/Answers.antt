use Rattle.std.proofs.Common.{subst}
use Rattle.term_store.specs.Live.{Gathers}
use Rattle.term_store.specs.NumberedNames.{atoms_in}
use Rattle.term_store.proofs.Gathering.{gathers_last, gathers_next, gathers_none}
use Rattle.iso_search.proofs.live.list_copies.Goals as goal

pub loop-copy-init : goal.loop-copy-init
loop-copy-init c = gathers_none c.args.live.now

pub loop-copy-preserved : goal.loop-copy-preserved
loop-copy-preserved c =
    gathers_next (λ c. atoms_in c.term) c.args.copies.now c.loop-copy.copy-index c.copy-item.result c.args.live.now c.loop-copy.live c.live_in.new.live c.loop-copy-test.true c.loop-copy.invariant
    (subst (λ x. Gathers (atoms_in x.term) c.loop-copy.live c.live_in.new.live) c.copy-item.is c.in_ok-live_in.ensures)

pub returns : goal.returns
returns c = gathers_last (λ c. atoms_in c.term) c.args.copies.now c.loop-copy.copy-index c.args.live.now c.loop-copy.live c.loop-copy-test.false c.loop-copy.invariant
