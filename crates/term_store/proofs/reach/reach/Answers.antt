use Rattle.std.proofs.Common.{[], ◌∷◌, ◌++◌, sym, ap, subst, ◌∙◌}
use Rattle.term_store.specs.Cells.{heap_of}
use Rattle.term_store.specs.Fit.{IsIn}
use Rattle.term_store.specs.Reaches.{IsGathering}
use Rattle.term_store.proofs.Occurring.{empty_list, popped}
use Rattle.term_store.proofs.Reaching.{gathering_begins, gathering_ends}
use Rattle.term_store.proofs.reach.reach.Goals as goal

pub loop-init : goal.loop-init
loop-init c =
    gathering_begins (heap_of c.args.cells.now) c.args.root c.args.live.now c.push.new.self.items c.clear.new.self.list.items c.requires.inside
    (c.in_ok-push.ensures.items ∙ ap (λ ws. ws ++ c.args.root ∷ []) c.new-walk.ensures.items) c.clear.ensures

pub returns-in_default : goal.returns-in_default
returns-in_default c =
    gathering_ends (heap_of c.args.cells.now) c.args.root c.args.live.now c.loop.walk.items c.loop.seen.list.items c.loop.live c.requires.fit.fit
    (empty_list c.loop.walk.items (sym c.loop.walk.ok.0 ∙ c.in_default.ensures.cases.0)) c.loop.invariant

pub deref-at-requires-clause-inside : goal.deref-at-requires-clause-inside
deref-at-requires-clause-inside c =
    (popped (IsIn (heap_of c.args.cells.now)) c.loop.walk.items c.pop.new.self.items c.in-Some.next c.in-Some.ensures.items c.loop.invariant.words).1

pub loop-preserved : goal.loop-preserved
loop-preserved c =
    let h = heap_of c.args.cells.now in
    c.in_ok-come_to.ensures c.args.root c.in-Some.next c.args.live.now c.deref-at.ensures.means
    (subst (λ ws. IsGathering h c.args.root c.args.live.now ws c.loop.seen.list.items c.loop.live) c.in-Some.ensures.items c.loop.invariant)
