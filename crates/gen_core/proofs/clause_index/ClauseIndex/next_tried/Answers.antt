use Rattle.std.proofs.Common.{false, arith}
use Rattle.gen_core.specs.Visible.{is_choice}
use Rattle.gen_core.proofs.RowReads.{tried_by_key, tried_past}
use Rattle.gen_core.proofs.clause_index.ClauseIndex.next_tried.Goals as goal

pub loop-item-preserved : goal.loop-item-preserved
loop-item-preserved g c =
    let first = c.in-Some.ensures.some in
    let fails = tried_by_key g.C.Key.Ord.cmp g.C.Kept.any g.C.Kept.key_of c.args.self.now c.requires c.args.g c.args.first.now c.loop-item.from c.in-Some.item.now false first c.if-is_tried.ensures in (
      (let a = c.loop-item.invariant.0 in let b = first.later in omega (arith, a, b)),
      tried_past c.args.self.now.clauses (is_choice g.C.Key.Ord.cmp g.C.Kept.any g.C.Kept.key_of c.args.g c.args.first.now) c.args.from c.loop-item.from c.in-Some.item.now c.loop-item.invariant.0 c.loop-item.invariant.1 first fails,
    )
