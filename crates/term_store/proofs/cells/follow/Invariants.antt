use Rattle.std.proofs.Common.{◌≡◌, [], get_or, pos}
use Rattle.term_store.specs.declared.words.Word.{Word}
use Rattle.term_store.specs.declared.words.Word.TheVariants.{Int}
use Rattle.term_store.specs.Cells.{heap_of}
use Rattle.term_store.specs.Fit.{IsIn}
use Rattle.term_store.specs.Heap.{meaning}
use Rattle.term_store.specs.Shorts.{IsShort, long_word}
use Rattle.term_store.proofs.Following.{rank}
use Rattle.term_store.proofs.cells.follow.Given as goal

abbrev pub invariant-loop-short : goal.invariant-loop-short
invariant-loop-short l =
    record {
      word : Word;
      kept : IsShort l.short word;
      means : meaning (heap_of l.cells) word ≡ meaning (heap_of l.cells) (get_or l.cells.args.items l.at (Int (pos 0)));
      inside : IsIn (heap_of l.cells) word;
    }

abbrev pub decreases-loop-short : goal.decreases-loop-short
decreases-loop-short l = rank (long_word [] l.short)
