use Rattle.std.proofs.Common.{◌≡◌, reverse}
use Rattle.pl_term.specs.Nodes.{tree}
use Rattle.pl_model.specs.TermWriting.{pieces}
use Rattle.pl_model.specs.Writing.{alone}
use Rattle.term_writer.specs.Pages.{Grows, behind_page, shown}
use Rattle.term_writer.specs.Styles.{lookup_of, manner_of}
use Rattle.term_writer.specs.Work.{Ahead, left}
use Rattle.term_writer.proofs.writer.write_nodes.Given as goal

abbrev pub invariant-loop-i : goal.invariant-loop-i
invariant-loop-i l =
    record {
      ahead : Ahead l.all l.i (reverse l.stack.items);
      shows : shown l.page.bytes.items (behind_page l.page) (left (manner_of l.style) (lookup_of l.style.operators) l.all l.i (reverse l.stack.items)) ≡ shown l.initial.page.bytes.items (behind_page l.initial.page) (pieces (manner_of l.style) (lookup_of l.style.operators) l.max alone (tree l.all));
      grows : Grows l.initial.page.bytes.items l.page.bytes.items;
    }
