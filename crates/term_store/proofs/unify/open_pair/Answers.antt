use Rattle.std.proofs.Common.{[]}
use Rattle.term_store.specs.declared.words.Word.TheVariants.{Comp}
use Rattle.term_store.specs.Cells.{heap_of}
use Rattle.term_store.specs.Waiting.{waiting}
use Rattle.term_store.proofs.Handing.{parted_pair}
use Rattle.term_store.proofs.Turning.{never_clash, pair_names, pair_counts}
use Rattle.term_store.proofs.unify.open_pair.Goals as goal

pub returns-then-left-right : goal.returns-then-left-right
returns-then-left-right c =
    let h = heap_of c.args.cells.now in
    never_clash h (waiting h c.args.rests.now.items c.args.next) (Comp c.args.k) (Comp c.args.l) h []
    (pair_names h c.args.k c.args.l c.requires.fit.fit c.requires.left c.requires.right c.head_at-left.result c.head_at-right.result c.head_at-left.ensures
    c.head_at-right.ensures c.if-left-right.true)

pub returns-then-left-right-2 : goal.returns-then-left-right-2
returns-then-left-right-2 c =
    let h = heap_of c.args.cells.now in
    never_clash h (waiting h c.args.rests.now.items c.args.next) (Comp c.args.k) (Comp c.args.l) h []
    (pair_counts h c.args.k c.args.l c.requires.fit.fit c.requires.left c.requires.right c.head_at-left.result c.head_at-right.result c.head_at-left.ensures
    c.head_at-right.ensures c.if-left-right-2.true)

pub returns : goal.returns
returns c =
    parted_pair (heap_of c.args.cells.now) c.args.k c.args.l c.requires.fit.fit c.requires.left c.requires.right c.head_at-left.result c.head_at-right.result
    c.head_at-left.ensures c.head_at-right.ensures c.if-left-right.false c.if-left-right-2.false c.args.rests.now.items c.args.next c.put_off.new.rests.items
    c.in_ok-put_off.ensures
