use Rattle.std.proofs.Common.{◌≡◌, ◌≤◌, ◌++◌, drop, map, reverse, IsSome}
use Rattle.std.specs.List.{All}
use Rattle.atom_api.specs.Names.{Names}
use Rattle.term_store.specs.Contents.{Holds, arguments_at, term_at}
use Rattle.world_builtins.specs.Naming.{IsHeldAt, atoms_in}
use Rattle.world_builtins.proofs.following.push_arguments.Given as goal

abbrev pub invariant-loop-i : goal.invariant-loop-i
invariant-loop-i l =
    record {
      within : l.i ≤ l.fn.arguments.count;
      stand :
          map (term_at l.store) (reverse l.places.items)
          ≡ drop l.i (arguments_at l.store l.fn.arguments) ++ map (term_at l.store) (reverse l.initial.places.items);
      inside : All (Holds l.store) l.initial.places.items → All (Holds l.store) l.places.items;
      held : (m : Names) → All (λ t. All (λ a. IsSome (m a)) (atoms_in t)) (arguments_at l.store l.fn.arguments)
          → All (IsHeldAt m l.store) l.initial.places.items → All (IsHeldAt m l.store) l.places.items;
    }

abbrev pub decreases-loop-i : goal.decreases-loop-i
decreases-loop-i l = l.i
