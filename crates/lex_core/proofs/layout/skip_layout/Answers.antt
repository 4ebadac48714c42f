use Rattle.std.proofs.Common.{◌<◌, ◌≤◌, ◌∙◌, Ok, length, sym, ap}
use Rattle.lex_core.proofs.LexRuns.{layout-passes}
use Rattle.lex_core.proofs.layout.skip_layout.Goals as goal

pub loop-place-preserved : goal.loop-place-preserved
loop-place-preserved c =
    let forward : (c.loop-place.place < c.in-Some.end) × (c.in-Some.end ≤ length c.args.text.now)
    = rw c.in-Some.is at c.in_ok-end.ensures.forward in
    c.loop-place.invariant
    ∙ layout-passes c.args.text.now c.loop-place.place c.in-Some.end c.loop-place-test.true forward.0 forward.1
    (ap (λ found. Ok found) (sym c.in-Some.is) ∙ c.in_ok-end.ensures.value)
