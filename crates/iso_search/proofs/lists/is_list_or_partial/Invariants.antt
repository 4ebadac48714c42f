use Rattle.std.proofs.Common.{◌≡◌}
use Rattle.pl_model.specs.Terms.{is_list_or_partial}
use Rattle.term_store.specs.Contents.{Holds}
use Rattle.iso_search.specs.Reading.{View, IsView, reads}
use Rattle.iso_search.proofs.lists.is_list_or_partial.Given as goal

abbrev pub invariant-loop : goal.invariant-loop
invariant-loop l =
    record {
      inside : Holds l.store l.at;
      same : (v : View) → IsView v → is_list_or_partial (reads v l.store l.at) ≡ is_list_or_partial (reads v l.store l.fn.place);
    }
