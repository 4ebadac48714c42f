use Rattle.std.proofs.Common.{◌≡◌, length, sym, subst, rules}
use Rattle.term_store.specs.Apart.{IsApart}
use Rattle.term_store.specs.Cells.{heap_of}
use Rattle.term_store.specs.Contents.{Contents, IsMark}
use Rattle.term_store.proofs.Apartness.{apart_none, apart_cut}
use Rattle.term_store.proofs.store.Store.older_than.Goals as goal

pub returns-then-mark-len : goal.returns-then-mark-len
returns-then-mark-len c =
    let m = c.args.mark in
    let s : Contents = record { heap = heap_of c.self.inside.cells; used = c.self.inside.used; budget = c.self.inside.budget } in
    let is : IsMark m s = subst (IsMark m) (sym c.self.view_is) c.requires in
    let trail : m.trail ≡ length s.heap.trail = search rules in
    subst (λ (t : Contents). IsApart t.heap c.at.result) c.self.view_is
    (subst (IsApart s.heap) (sym c.at.ensures) (apart_cut m s.heap is.within c.self.invariant.0.fit is.fit trail))

pub returns-else-mark-len : goal.returns-else-mark-len
returns-else-mark-len c = subst (IsApart c.args.self.now.heap) (sym c.none.ensures) (apart_none c.args.self.now.heap)
