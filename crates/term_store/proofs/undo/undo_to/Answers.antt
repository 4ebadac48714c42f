use Rattle.std.proofs.Common.{◌≡◌, ◌<◌, ℕ, List, length, take, sym, ap₂, subst, ◌∙◌, arith, length-take}
use Rattle.std.specs.List.{All}
use Rattle.std.proofs.lemmas.List.Elements.{All-weaker}
use Rattle.term_store.specs.declared.words.Word.{Word}
use Rattle.term_store.specs.declared.words.Head.{Head}
use Rattle.term_store.specs.declared.words.Bond.{Bond}
use Rattle.term_store.specs.Cells.{heap_of}
use Rattle.term_store.specs.Fit.{IsBond}
use Rattle.term_store.specs.Frontiers.{IsClosed}
use Rattle.term_store.specs.GroundMarks.{AreMarks}
use Rattle.term_store.specs.GroundTerms.{AreGroundTerms}
use Rattle.term_store.specs.Heap.{Heap}
use Rattle.term_store.specs.Marks.{cut}
use Rattle.term_store.proofs.Closing.{closed_cut}
use Rattle.term_store.proofs.Marked.{marks_cut}
use Rattle.term_store.proofs.Settling.{settled_cut, settled_taken}
use Rattle.term_store.proofs.undo.undo_to.Goals as goal

abbrev heap : List Head → List Word → List ℕ → List Bond → Heap
heap hs ws ns bs = record { heads = hs; args = ws; numbers = ns; trail = bs }

pub keep_first-requires : goal.keep_first-requires
keep_first-requires c =
    let h = heap_of c.args.cells.now in
    let m = c.args.mark in
    subst (All (λ b. b.slot < m.numbers)) (sym c.unbind.ensures.trail)
    (All-weaker (IsBond (length (take m.numbers h.numbers)) (length (take m.heads h.heads))) (λ b. b.slot < m.numbers)
    (λ b fits. omega (arith, fits.slot, length-take m.numbers h.numbers)) (take m.trail h.trail) c.requires.before.bonds)

pub forget_later-requires : goal.forget_later-requires
forget_later-requires c = c.requires.fit.settled.rise

pub returns-clause-settled : goal.returns-clause-settled
returns-clause-settled c =
    let h = heap_of c.args.cells.now in
    let m = c.args.mark in
    let ns = c.truncate-3.new.self.items in
    let bs = c.keep_first.new.self.items in
    let gs = c.forget_later.new.list.items in
    let same : heap c.truncate.new.self.items c.truncate-2.new.self.items ns bs ≡ cut m h =
    ap₂ (λ hs ws. heap hs ws ns bs) c.truncate.ensures.items c.truncate-2.ensures.items
    ∙ ap₂ (heap (take m.heads h.heads) (take m.args h.args)) c.truncate-3.ensures.items (c.keep_first.ensures.items ∙ c.unbind.ensures.trail) in
    subst (AreGroundTerms gs) (sym same)
    (settled_cut m gs h c.requires.before (settled_taken c.args.cells.now.settled.list.items gs h c.forget_later.ensures.taken c.requires.fit.settled)
    c.forget_later.ensures.early)

pub returns-clause-marks : goal.returns-clause-marks
returns-clause-marks c =
    let h = heap_of c.args.cells.now in
    let m = c.args.mark in
    let ns = c.truncate-3.new.self.items in
    let bs = c.keep_first.new.self.items in
    let same : heap c.truncate.new.self.items c.truncate-2.new.self.items ns bs ≡ cut m h =
    ap₂ (λ hs ws. heap hs ws ns bs) c.truncate.ensures.items c.truncate-2.ensures.items
    ∙ ap₂ (heap (take m.heads h.heads) (take m.args h.args)) c.truncate-3.ensures.items (c.keep_first.ensures.items ∙ c.unbind.ensures.trail) in
    subst (AreMarks c.truncate-4.new.self.items) (sym same)
    (subst (λ gs. AreMarks gs (cut m h)) (sym c.truncate-4.ensures.items) (marks_cut m c.args.cells.now.grounds.items h c.requires.fit.fit c.requires.fit.marks))

pub returns-clause-closed : goal.returns-clause-closed
returns-clause-closed c =
    let h = heap_of c.args.cells.now in
    let m = c.args.mark in
    let ns = c.truncate-3.new.self.items in
    let bs = c.keep_first.new.self.items in
    let same : heap c.truncate.new.self.items c.truncate-2.new.self.items ns bs ≡ cut m h =
    ap₂ (λ hs ws. heap hs ws ns bs) c.truncate.ensures.items c.truncate-2.ensures.items
    ∙ ap₂ (heap (take m.heads h.heads) (take m.args h.args)) c.truncate-3.ensures.items (c.keep_first.ensures.items ∙ c.unbind.ensures.trail) in
    subst (IsClosed c.cut.new.self) (sym same)
    (closed_cut m c.args.cells.now.frontier c.cut.new.self h c.requires.within c.requires.before c.cut.ensures c.requires.fit.closed)
