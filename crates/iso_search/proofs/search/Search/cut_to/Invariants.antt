use Rattle.std.proofs.Common.{◌≡◌, ◌<◌, ◌≤◌, length, take}
use Rattle.iso_search.specs.declared.search.Search.{Search}
use Rattle.iso_search.specs.Searching.{IsWhole}
use Rattle.iso_search.proofs.search.Search.cut_to.Given as goal

abbrev pub invariant-loop-self : goal.invariant-loop-self
invariant-loop-self l =
    record {
      whole : IsWhole l.self;
      oldest : l.self.choices.items ≡ take (length l.self.choices.items) l.fn.self.choices.items;
      below : length l.self.choices.items ≤ length l.fn.self.choices.items;
      above : length l.self.choices.items < length l.fn.self.choices.items → l.height ≤ length l.self.choices.items;
      kept :
          (let x : Search = record l.fn.self { store = record l.fn.self.store { budget = l.self.store.budget }; choices = l.self.choices }
          in l.self ≡ x);
    }

abbrev pub decreases-loop-self : goal.decreases-loop-self
decreases-loop-self l = length l.self.choices.items
