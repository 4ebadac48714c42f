use Rattle.std.proofs.Common.{subst}
use Rattle.term_store.specs.Live.{Gathers}
use Rattle.iso_search.specs.Live.{line_atoms}
use Rattle.term_store.proofs.Gathering.{gathers_last, gathers_next, gathers_none}
use Rattle.iso_search.proofs.live.list_lines.Goals as goal

pub loop-line-init : goal.loop-line-init
loop-line-init c = gathers_none c.args.live.now

pub loop-line-preserved : goal.loop-line-preserved
loop-line-preserved c =
    gathers_next line_atoms c.args.lines.now c.loop-line.line-index c.line-item.result c.args.live.now c.loop-line.live c.list_line.new.live c.loop-line-test.true c.loop-line.invariant
    (subst (λ x. Gathers (line_atoms x) c.loop-line.live c.list_line.new.live) c.line-item.is c.in_ok-list_line.ensures)

pub returns : goal.returns
returns c = gathers_last line_atoms c.args.lines.now c.loop-line.line-index c.args.live.now c.loop-line.live c.loop-line-test.false c.loop-line.invariant
