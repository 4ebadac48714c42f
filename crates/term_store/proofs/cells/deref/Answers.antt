use Rattle.std.proofs.Common.{◌≡◌, ℕ, ◌<◌, length, Some, sym, ap, subst, ◌∙◌}
use Rattle.term_store.specs.declared.words.Word.{Word}
use Rattle.term_store.specs.declared.words.Word.TheVariants.{Var}
use Rattle.term_store.specs.Heap.{Heap, meaning, find}
use Rattle.term_store.specs.Fit.{IsIn, Fit}
use Rattle.term_store.specs.Cells.{heap_of}
use Rattle.term_store.proofs.Binding.{read_value}
use Rattle.term_store.proofs.Following.{rank, rank-below, through, found_bond}
use Rattle.term_store.proofs.cells.deref.Goals as goal

next_found : (h : Heap) (at next : Word) (i : ℕ) → Fit h → IsIn h at → at ≡ Var i → find i h.trail ≡ Some next
    → (meaning h next ≡ meaning h at) × IsIn h next × (rank next < rank at)
next_found h at next i fit inside is f =
    let b = found_bond h i next fit f in
    (through h i next fit (subst (IsIn h) is inside) f ∙ ap (meaning h) (sym is), b.0, subst (λ w. rank next < rank w) (sym is) (rank-below i next b.1))

pub loop-at-smaller : goal.loop-at-smaller
loop-at-smaller c =
    let h = heap_of c.args.cells.now in
    let inside : c.in-Var.slot < length h.numbers = subst (IsIn h) c.in-Var.is c.loop-at.invariant.inside in
    (next_found h c.loop-at.at c.in-Some.next c.in-Var.slot c.requires.fit.fit c.loop-at.invariant.inside c.in-Var.is
    (sym (read_value c.args.cells.now.bonds.values h c.in-Var.slot c.value.result c.requires.fit.cache inside c.value.ensures) ∙ c.in-Some.is)).2

pub loop-at-preserved : goal.loop-at-preserved
loop-at-preserved c =
    let h = heap_of c.args.cells.now in
    let inside : c.in-Var.slot < length h.numbers = subst (IsIn h) c.in-Var.is c.loop-at.invariant.inside in
    let n =
    next_found h c.loop-at.at c.in-Some.next c.in-Var.slot c.requires.fit.fit c.loop-at.invariant.inside c.in-Var.is
    (sym (read_value c.args.cells.now.bonds.values h c.in-Var.slot c.value.result c.requires.fit.cache inside c.value.ensures) ∙ c.in-Some.is) in
    record { means = n.0 ∙ c.loop-at.invariant.means; inside = n.1 }
