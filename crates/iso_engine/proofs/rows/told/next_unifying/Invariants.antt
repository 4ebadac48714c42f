use Rattle.std.proofs.Common.{◌≡◌, drop, map}
use Rattle.pl_model.specs.BuiltinRows.{unifying}
use Rattle.pl_model.specs.Terms.{arguments}
use Rattle.iso_search.specs.Reading.{IsView, View, reads}
use Rattle.iso_search.specs.Told.{line_answer}
use Rattle.iso_engine.proofs.rows.told.next_unifying.Given as goal

abbrev pub invariant-loop-i : goal.invariant-loop-i
invariant-loop-i l =
    record {
      same : l.store ≡ l.fn.store;
      passed :
          (v : View)
          → IsView v
          → unifying (arguments (reads v l.fn.store l.fn.goal)) (drop l.from (map (line_answer v.names) l.lines))
          ≡ unifying (arguments (reads v l.fn.store l.fn.goal)) (drop l.i (map (line_answer v.names) l.lines));
    }
