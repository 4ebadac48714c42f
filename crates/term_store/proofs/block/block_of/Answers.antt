use Rattle.std.proofs.Common.{◌≡◌, ◌++◌, zero, length, refl, ap, ◌∙◌}
use Rattle.term_store.specs.Cells.{heap_of}
use Rattle.term_store.specs.Contents.{upwards}
use Rattle.term_store.proofs.Loading.{length-upwards}
use Rattle.term_store.proofs.Ranging.{heads_given}
use Rattle.term_store.proofs.block.block_of.Goals as goal

pub ranges_of-requires : goal.ranges_of-requires
ranges_of-requires c =
    let h = heap_of c.load.new.cells in
    let n = c.args.variables in
    let long : length h.numbers ≡ n =
    ap length (c.in_ok-root.ensures.numbers ∙ ap (λ g. g.numbers ++ upwards zero n) c.new-cells.ensures.blank) ∙ length-upwards zero n in
    heads_given h n c.deref.result.now c.load.new.cells.args.items c.load.ensures.fit.fit long c.deref.ensures.value refl
