use Rattle.std.proofs.Common.{length, take, refl, ◌∙◌}
use Rattle.term_store.specs.Cells.{heap_of}
use Rattle.term_store.specs.Making.{with_args}
use Rattle.term_store.proofs.Closing.{closed_longer}
use Rattle.term_store.proofs.Growing.{finished}
use Rattle.term_store.proofs.Marked.{marks_made}
use Rattle.term_store.proofs.Settling.{settled_longer}
use Rattle.term_store.proofs.make.finish_marked.Goals as goal

pub returns-in-Ok-clause-fit : goal.returns-in-Ok-clause-fit
returns-in-Ok-clause-fit c =
    let h = heap_of c.args.cells.now in
    let r = c.requires in
    record {
      fit =
          (finished h c.args.name c.args.start c.args.count (length h.heads) c.push_head.new.heads.items r.unused r.full r.within r.inside c.in-Ok.ensures.heads refl).0;
      cache = record { long = r.cache.long; found = r.cache.found };
      marks =
          marks_made c.args.cells.now.grounds.items c.push_head.new.grounds.items h c.args.name c.args.start c.args.count c.args.marked
          c.push_head.new.heads.items r.unused r.within r.marks r.ground c.in-Ok.ensures.marks c.in-Ok.ensures.heads;
      settled =
          settled_longer c.args.cells.now.settled.list.items (with_args h (take c.args.start h.args)) (record h { heads = c.push_head.new.heads.items }) r.unused
          (finished h c.args.name c.args.start c.args.count (length h.heads) c.push_head.new.heads.items r.unused r.full r.within r.inside c.in-Ok.ensures.heads refl).1.longer
          r.settled;
      closed =
          closed_longer c.args.cells.now.frontier (with_args h (take c.args.start h.args)) (record h { heads = c.push_head.new.heads.items }) r.unused
          (finished h c.args.name c.args.start c.args.count (length h.heads) c.push_head.new.heads.items r.unused r.full r.within r.inside c.in-Ok.ensures.heads refl).1.longer
          r.closed;
    }

pub returns-in-Ok-clause-made : goal.returns-in-Ok-clause-made
returns-in-Ok-clause-made c =
    let h = heap_of c.args.cells.now in
    let r = c.requires in
    (finished h c.args.name c.args.start c.args.count c.len-k.result c.push_head.new.heads.items r.unused r.full r.within r.inside c.in-Ok.ensures.heads
    (c.len-k.ensures ∙ c.args.cells.now.heads.ok.0)).1
