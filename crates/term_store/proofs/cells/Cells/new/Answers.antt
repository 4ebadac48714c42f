use Rattle.std.proofs.Common.{ℕ, List, [], ap₂, ◌∙◌}
use Rattle.term_store.specs.declared.words.Head.{Head}
use Rattle.term_store.specs.declared.words.Word.{Word}
use Rattle.term_store.specs.declared.words.Bond.{Bond}
use Rattle.term_store.specs.Heap.{Heap}
use Rattle.term_store.proofs.Closing.{closed_blank}
use Rattle.term_store.proofs.Growing.{fit_blank}
use Rattle.term_store.proofs.Marked.{marks_blank}
use Rattle.term_store.proofs.Settling.{settled_blank}
use Rattle.term_store.proofs.cells.Cells.new.Goals as goal

abbrev heap : List Head → List Word → List ℕ → List Bond → Heap
heap hs ws ns bs = record { heads = hs; args = ws; numbers = ns; trail = bs }

pub returns : goal.returns
returns c =
    let h : Heap = heap c.new.result.items c.new-2.result.items c.new-3.result.items c.new-4.result.items in
    let f = fit_blank c.new-4.result.values h c.new.ensures.items c.new-3.ensures.items c.new-4.ensures.items c.new-4.ensures.values in
    record {
      fit = record { fit = f.0; cache = f.1; marks = marks_blank c.new-5.result.items h c.new-5.ensures.items c.new.ensures.items; settled = settled_blank c.new-6.result.list.items h c.new-6.ensures; closed = closed_blank c.none.result h c.none.ensures c.new-4.ensures.items };
      blank =
          ap₂ (λ hs ws. heap hs ws c.new-3.result.items c.new-4.result.items) c.new.ensures.items c.new-2.ensures.items
          ∙ ap₂ (heap [] []) c.new-3.ensures.items c.new-4.ensures.items;
    }
