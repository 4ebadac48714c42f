use Rattle.std.proofs.Common.{refl, arith}
use Rattle.term_store.specs.Cells.{heap_of}
use Rattle.term_store.proofs.Knowing.{longer_same, meets_none}
use Rattle.term_store.proofs.known.make_rest.Goals as goal

pub loop-cells-init : goal.loop-cells-init
loop-cells-init c =
    let h = heap_of c.args.cells.now in
    record {
      fit = c.requires.fit;
      longer = longer_same h h refl;
      known = c.requires.known;
      meets = meets_none h c.args.from c.args.known.now.items;
      more = omega arith;
      few = λ n a b. b;
    }
