use Rattle.std.proofs.Common.{◌≡◌, map, drop, IsSome}
use Rattle.std.specs.List.{All}
use Rattle.pl_model.specs.SharedBuiltins.{options_of}
use Rattle.atom_api.specs.Names.{Names}
use Rattle.builtin_rows.specs.Lists.{IsNaming}
use Rattle.world_api.specs.Texts.{text_of}
use Rattle.world_builtins.specs.Naming.{IsHeldAt}
use Rattle.world_builtins.specs.Spelling.{reads}
use Rattle.shared_builtins.specs.Options.{with_aliases}
use Rattle.shared_builtins.proofs.options.options_at.Given as goal

abbrev pub invariant-loop-place : goal.invariant-loop-place
invariant-loop-place l =
    (m : Names) → IsNaming m → All (IsHeldAt m l.store) l.terms
    → (options_of (map (reads m l.store) l.terms)
    ≡ with_aliases (map (text_of m) l.aliases.items) (options_of (map (reads m l.store) (drop l.place-index l.terms))))
    × All (λ a. IsSome (m a)) l.aliases.items
