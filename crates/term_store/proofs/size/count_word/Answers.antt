use Rattle.std.proofs.Common.{refl, subst}
use Rattle.pl_term.specs.Cells.{compound_cells}
use Rattle.term_store.specs.Cells.{heap_of}
use Rattle.term_store.specs.Fit.{IsIn}
use Rattle.term_store.specs.Heap.{meaning}
use Rattle.term_store.proofs.Sizing.{opened_within}
use Rattle.term_store.proofs.size.count_word.Goals as goal

pub returns-in_ok-push_words-in-Unknown-clause-parts : goal.returns-in_ok-push_words-in-Unknown-clause-parts
returns-in_ok-push_words-in-Unknown-clause-parts c =
    let h = heap_of c.args.cells.now in
    opened_within h c.in-Comp.k c.requires.fit.fit (subst (IsIn h) c.in-Comp.is c.requires.inside) (compound_cells (meaning h c.args.at)) c.args.at
    c.args.walk.now.words.items c.push.new.self.items c.push_words.new.walk.items c.in-Comp.is refl c.in_ok-push-in-Unknown.ensures.items
    c.in_ok-push_words-in-Unknown.ensures
