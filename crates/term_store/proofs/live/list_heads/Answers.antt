use Rattle.std.proofs.Common.{[], ◌∷◌, subst}
use Rattle.term_store.specs.Live.{Gathers, head_atoms}
use Rattle.term_store.proofs.Gathering.{gathers_last, gathers_next, gathers_none}
use Rattle.term_store.proofs.live.list_heads.Goals as goal

pub loop-head-init : goal.loop-head-init
loop-head-init c = gathers_none c.args.live.now

pub loop-head-preserved : goal.loop-head-preserved
loop-head-preserved c =
    gathers_next head_atoms c.args.heads.now c.loop-head.head-index _ c.args.live.now c.loop-head.live c.insert.new.self c.loop-head-test.true c.loop-head.invariant
    (subst (λ a. Gathers (a ∷ []) c.loop-head.live c.insert.new.self) c.at.ensures c.in_ok-insert.ensures)

pub returns : goal.returns
returns c = gathers_last head_atoms c.args.heads.now c.loop-head.head-index c.args.live.now c.loop-head.live c.loop-head-test.false c.loop-head.invariant
