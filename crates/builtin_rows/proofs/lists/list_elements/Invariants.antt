use Rattle.std.proofs.Common.{◌≡◌, map}
use Rattle.std.specs.List.{All}
use Rattle.pl_term.specs.Tree.{Tree}
use Rattle.pl_model.specs.Checks.{elements_within}
use Rattle.atom_api.specs.Names.{Names}
use Rattle.term_store.specs.Contents.{Holds}
use Rattle.world_builtins.specs.Naming.{IsHeldAt}
use Rattle.world_builtins.specs.Spelling.{reads}
use Rattle.builtin_rows.specs.Lists.{IsNaming, with_elements}
use Rattle.builtin_rows.proofs.lists.list_elements.Given as goal

abbrev pub invariant-loop : goal.invariant-loop
invariant-loop l =
    record {
      inside : Holds l.store l.rest;
      places : All (Holds l.store) l.all.items;
      rest_held : (m : Names) → IsHeldAt m l.store l.fn.list → IsHeldAt m l.store l.rest;
      held : (m : Names) → IsHeldAt m l.store l.fn.list → All (IsHeldAt m l.store) l.all.items;
      walked : (m : Names) (whole : Tree) → IsNaming m → IsHeldAt m l.store l.fn.list
          → elements_within whole (reads m l.store l.fn.list)
          ≡ with_elements (map (reads m l.store) l.all.items) (elements_within whole (reads m l.store l.rest));
    }
