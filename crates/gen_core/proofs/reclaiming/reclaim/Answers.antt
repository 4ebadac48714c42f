use Rattle.std.proofs.Common.{ap, sym, subst, ◌∙◌}
use Rattle.std.specs.Prelude.{filter, vec_capacity}
use Rattle.gen_core.specs.Visible.{is_visible, Reclaims}
use Rattle.gen_core.proofs.Dropping.{Dropping, dropping_more, dropping_room, dropping_end, views_stay}
use Rattle.gen_core.proofs.reclaiming.reclaim.Goals as goal

pub loop-dated-preserved : goal.loop-dated-preserved
loop-dated-preserved g c =
    subst (λ xs. Dropping c.args.floor xs c.args.d.now c.drop_erased.new.self (vec_capacity c.push.new.self)) (sym c.in-Ok.ensures.items)
    (dropping_room c.args.floor _ c.args.d.now c.drop_erased.new.self (vec_capacity c.loop-dated.dropped) (vec_capacity c.push.new.self) c.push.ensures.capacity
    (dropping_more c.args.floor c.loop-dated.dropped.items c.args.d.now c.loop-dated.d c.drop_erased.new.self (vec_capacity c.loop-dated.dropped) c.in-Some.dated c.loop-dated.invariant c.in-Some.ensures.some))

pub returns-clause-reclaimed : goal.returns-clause-reclaimed
returns-clause-reclaimed g c =
    subst (λ ds. Reclaims c.args.floor c.loop-dated.dropped.items c.args.d.now ds) (sym c.in_default.ensures.none.1)
    (dropping_end c.args.floor c.loop-dated.dropped.items c.args.d.now c.loop-dated.d (vec_capacity c.loop-dated.dropped) c.loop-dated.invariant c.in_default.ensures.none.0)

pub returns-clause-views : goal.returns-clause-views
returns-clause-views g c = λ q l.
    ap (filter (is_visible q)) (returns-clause-reclaimed g c).kept ∙ views_stay c.args.floor q c.args.d.now l
