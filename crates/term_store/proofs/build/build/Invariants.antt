use Rattle.std.proofs.Common.{◌≡◌, ◌≤◌, ◌+◌, length, drop}
use Rattle.std.specs.List.{All}
use Rattle.pl_term.specs.Nodes.{forest}
use Rattle.pl_term.specs.Variables.{rename_all_by}
use Rattle.term_store.specs.Cells.{IsFit, heap_of}
use Rattle.term_store.specs.Fit.{IsIn}
use Rattle.term_store.specs.Heap.{numbered}
use Rattle.term_store.specs.Nodes.{Gains, node_views, standing}
use Rattle.term_store.proofs.build.build.Given as goal

abbrev pub invariant-loop-i : goal.invariant-loop-i
invariant-loop-i l =
    record {
      within : l.i ≤ length l.nodes;
      fit : IsFit l.cells;
      gains : Gains (heap_of l.fn.cells) (heap_of l.cells);
      words : All (IsIn (heap_of l.cells)) l.stack.items;
      stands :
          standing (heap_of l.cells) l.stack.items
          ≡ rename_all_by (λ x. numbered (heap_of l.fn.cells) (l.fn.base + x)) (forest (drop l.i (node_views l.nodes)));
    }

abbrev pub decreases-loop-i : goal.decreases-loop-i
decreases-loop-i l = l.i
