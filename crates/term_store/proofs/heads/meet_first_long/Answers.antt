use Rattle.std.proofs.Common.{◌∙◌, ap, sym, subst}
use Rattle.term_store.specs.Cells.{heap_of}
use Rattle.term_store.specs.Fit.{IsIn}
use Rattle.term_store.specs.Heap.{meaning}
use Rattle.term_store.proofs.heads.meet_first_long.Goals as goal

pub deref-word-requires-clause-inside : goal.deref-word-requires-clause-inside
deref-word-requires-clause-inside c = subst (IsIn (heap_of c.args.cells.now)) (sym c.word_at-first.ensures) c.requires.word

pub returns : goal.returns
returns c =
    record {
      first = record {
        word = c.deref-word.result;
        known_after = c.in_ok-push.ensures.items;
        means = c.deref-word.ensures.means ∙ ap (meaning (heap_of c.args.cells.now)) c.word_at-first.ensures;
        inside = c.deref-word.ensures.inside;
      };
    }
