use Rattle.std.proofs.Common.{sym, subst}
use Rattle.term_store.specs.Contents.{Contents}
use Rattle.term_store.specs.Fit.{Fit}
use Rattle.term_store.specs.Marks.{cut}
use Rattle.term_store.proofs.store.Store.undo_to.Goals as goal

pub undo_to-requires-clause-before : goal.undo_to-requires-clause-before
undo_to-requires-clause-before c = subst (λ (s : Contents). Fit (cut c.args.mark s.heap)) (sym c.self.view_is) c.requires.fit
