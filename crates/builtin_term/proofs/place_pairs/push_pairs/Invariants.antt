use Rattle.std.proofs.Common.{◌≤◌, drop}
use Rattle.std.specs.List.{All}
use Rattle.atom_api.specs.Names.{Names}
use Rattle.term_store.specs.Contents.{arguments_at}
use Rattle.world_builtins.specs.Spelling.{text_of}
use Rattle.builtin_rows.specs.Lists.{AreHeld}
use Rattle.builtin_term.specs.Heads.{list_order}
use Rattle.builtin_term.specs.Pending.{Gains, IsPairAt}
use Rattle.builtin_term.proofs.place_pairs.push_pairs.Given as goal

abbrev pub invariant-loop-i : goal.invariant-loop-i
invariant-loop-i l =
    record {
      within : l.i ≤ l.fn.left.count;
      gains : Gains l.store
          (λ m. list_order (text_of m) (drop l.i (arguments_at l.store l.fn.left)) (drop l.i (arguments_at l.store l.fn.right)))
          l.initial.pending.items l.pending.items;
      pairs : (m : Names) → AreHeld m (arguments_at l.store l.fn.left) → AreHeld m (arguments_at l.store l.fn.right)
          → All (IsPairAt m l.store) l.initial.pending.items → All (IsPairAt m l.store) l.pending.items;
    }

abbrev pub decreases-loop-i : goal.decreases-loop-i
decreases-loop-i l = l.i
