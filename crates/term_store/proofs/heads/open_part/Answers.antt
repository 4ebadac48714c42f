use Rattle.std.proofs.lemmas.Result.{IfOk-weaker}
use Rattle.term_store.specs.Cells.{heap_of}
use Rattle.term_store.proofs.Resting.{opens_steps}
use Rattle.term_store.proofs.heads.open_part.Goals as goal

pub returns : goal.returns
returns c =
    IfOk-weaker c.open_heads.result _ _
    (λ r opens from known known_is few.
    opens_steps r c.args.block.now c.requires.block (heap_of c.args.cells.now) c.requires.fit.fit from known c.args.l c.args.k c.requires.left c.requires.right
    c.head_at-left.result c.block_head-right.result c.head_at-left.ensures c.block_head-right.ensures c.args.rests.now.items c.args.next c.open_heads.new.rests.items
    known_is few opens)
    c.open_heads.ensures
