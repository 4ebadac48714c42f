use Rattle.std.proofs.Common.{◌≡◌, ◌<◌, suc, [], length, refl, sym, ap, subst, ◌∙◌}
use Rattle.term_store.specs.declared.words.Word.TheVariants.{Var}
use Rattle.term_store.specs.declared.shorts.Short.TheVariants.{Slot}
use Rattle.term_store.specs.Cells.{heap_of}
use Rattle.term_store.specs.Fit.{IsIn}
use Rattle.term_store.specs.Heap.{meaning}
use Rattle.term_store.specs.Shorts.{long_word}
use Rattle.term_store.proofs.Following.{rank, rank_short, word_followed}
use Rattle.term_store.proofs.Shorting.{some_word, word_is}
use Rattle.term_store.proofs.cells.follow.Goals as goal

pub loop-short-smaller : goal.loop-short-smaller
loop-short-smaller c =
    let h = heap_of c.args.cells.now in
    let inv = c.loop-short.invariant in
    let i = c.in-Slot.slot in
    let next = c.short.result in
    let bs = c.short.ensures.beyond in
    let is : inv.word ≡ Var i = word_is c.loop-short.short (Slot i) inv.word tt c.in-Slot.is inv.kept in
    let inside : i < length h.numbers = subst (IsIn h) is inv.inside in
    let f =
    word_followed h c.args.cells.now.bonds.values i (long_word bs next) c.requires.fit.fit c.requires.fit.cache inside
    (sym (some_word bs next c.in_default-short.not-Free) ∙ c.short.ensures.is) in
    subst (λ s. rank (long_word [] next) < rank (long_word [] s)) (sym c.in-Slot.is) (subst (λ m. m < suc i) (rank_short bs [] next) f.2)

pub loop-short-preserved : goal.loop-short-preserved
loop-short-preserved c =
    let h = heap_of c.args.cells.now in
    let inv = c.loop-short.invariant in
    let i = c.in-Slot.slot in
    let next = c.short.result in
    let bs = c.short.ensures.beyond in
    let is : inv.word ≡ Var i = word_is c.loop-short.short (Slot i) inv.word tt c.in-Slot.is inv.kept in
    let inside : i < length h.numbers = subst (IsIn h) is inv.inside in
    let f =
    word_followed h c.args.cells.now.bonds.values i (long_word bs next) c.requires.fit.fit c.requires.fit.cache inside
    (sym (some_word bs next c.in_default-short.not-Free) ∙ c.short.ensures.is) in
    record {
      word = long_word bs next;
      kept = record { beyond = bs; is = refl };
      means = f.0 ∙ ap (meaning h) (sym is) ∙ inv.means;
      inside = f.1;
    }
