use Rattle.std.proofs.Common.{◌≡◌, ◌++◌}
use Rattle.std.specs.List.{All}
use Rattle.pl_term.specs.Nodes.{nodes, nodes_all}
use Rattle.term_store.specs.Cells.{heap_of}
use Rattle.term_store.specs.Fit.{IsIn}
use Rattle.term_store.specs.Heap.{meaning}
use Rattle.term_store.specs.Nodes.{node_views, standing}
use Rattle.term_store.proofs.save.nodes_of.Given as goal

abbrev pub invariant-loop : goal.invariant-loop
invariant-loop l =
    record {
      words : All (IsIn (heap_of l.cells)) l.walk.items;
      pushed :
          node_views l.all.items ++ nodes_all (standing (heap_of l.cells) l.walk.items) ≡ nodes (meaning (heap_of l.cells) l.fn.word);
    }
