use Rattle.std.proofs.Common.{◌≡◌, ◌++◌, map, drop, IsSome}
use Rattle.std.specs.List.{All}
use Rattle.pl_model.specs.Checks.{atoms_error, text_of_atom}
use Rattle.atom_api.specs.Names.{Names}
use Rattle.builtin_rows.specs.Lists.{IsNaming}
use Rattle.world_api.specs.Texts.{text_of}
use Rattle.world_builtins.specs.Naming.{IsHeldAt}
use Rattle.world_builtins.specs.Spelling.{reads}
use Rattle.shared_builtins.proofs.names.atoms_of.Given as goal

abbrev pub invariant-loop-place : goal.invariant-loop-place
invariant-loop-place l =
    (m : Names) → IsNaming m → All (IsHeldAt m l.store) l.terms
    → (atoms_error (map (reads m l.store) l.terms) ≡ atoms_error (map (reads m l.store) (drop l.place-index l.terms)))
    × ((map text_of_atom (map (reads m l.store) l.terms)
    ≡ map (text_of m) l.names.items ++ map text_of_atom (map (reads m l.store) (drop l.place-index l.terms)))
    × All (λ a. IsSome (m a)) l.names.items)
