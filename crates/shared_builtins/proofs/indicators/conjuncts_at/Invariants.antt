use Rattle.std.proofs.Common.{◌≡◌}
use Rattle.std.specs.List.{All}
use Rattle.pl_model.specs.SharedBuiltins.{conjuncts}
use Rattle.atom_api.specs.Names.{Names}
use Rattle.builtin_rows.specs.Lists.{IsNaming}
use Rattle.term_store.specs.Contents.{Holds}
use Rattle.world_builtins.specs.Naming.{IsHeldAt}
use Rattle.world_builtins.specs.Spelling.{reads}
use Rattle.shared_builtins.specs.Indicators.{joined}
use Rattle.shared_builtins.proofs.indicators.conjuncts_at.Given as goal

abbrev pub invariant-loop : goal.invariant-loop
invariant-loop l =
    record {
      all : All (Holds l.store) l.all.items;
      left : All (Holds l.store) l.left.items;
      read : (m : Names) → IsNaming m → IsHeldAt m l.store l.fn.term
          → (conjuncts (reads m l.store l.fn.term) ≡ joined (reads m l.store) l.all.items l.left.items)
          × (All (IsHeldAt m l.store) l.all.items × All (IsHeldAt m l.store) l.left.items);
    }
