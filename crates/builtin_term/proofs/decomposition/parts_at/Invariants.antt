use Rattle.std.proofs.Common.{◌≡◌, ◌∷◌, ◌++◌, map, drop}
use Rattle.std.specs.List.{All}
use Rattle.pl_term.specs.Tree.{atom}
use Rattle.term_store.specs.Heap.{atom_name}
use Rattle.term_store.specs.Contents.{Holds, arguments_at, term_at}
use Rattle.builtin_term.proofs.decomposition.parts_at.Given as goal

abbrev pub invariant-loop-i : goal.invariant-loop-i
invariant-loop-i l =
    record {
      inside : All (Holds l.store) l.parts.items;
      terms : map (term_at l.store) l.parts.items ++ drop l.i (arguments_at l.store l.arguments) ≡ atom (atom_name l.fn.name) ∷ arguments_at l.store l.arguments;
    }
