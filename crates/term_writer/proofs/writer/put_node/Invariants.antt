use Rattle.std.proofs.Common.{◌≡◌, reverse, vec_len}
use Rattle.pl_term.specs.Tree.{Trees}
use Rattle.term_writer.specs.Pages.{Grows, behind_page, shown}
use Rattle.term_writer.specs.Styles.{lookup_of, manner_of}
use Rattle.term_writer.specs.Work.{coming, reads}
use Rattle.term_writer.proofs.writer.put_node.Given as goal

abbrev pub invariant-loop-work : goal.invariant-loop-work
invariant-loop-work l =
    record {
      same : reads (reverse l.stack.items) ≡ reads (reverse l.initial.stack.items);
      shows : (ts : Trees) → shown l.page.bytes.items (behind_page l.page) (coming (manner_of l.style) (lookup_of l.style.operators) (reverse l.stack.items) ts)
          ≡ shown l.initial.page.bytes.items (behind_page l.initial.page) (coming (manner_of l.style) (lookup_of l.style.operators) (reverse l.initial.stack.items) ts);
      grows : Grows l.initial.page.bytes.items l.page.bytes.items;
    }

abbrev pub decreases-loop-work : goal.decreases-loop-work
decreases-loop-work l = vec_len l.stack
