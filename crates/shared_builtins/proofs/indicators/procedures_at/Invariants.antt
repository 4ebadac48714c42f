use Rattle.std.proofs.Common.{◌≡◌, map, drop, IsSome}
use Rattle.std.specs.List.{All}
use Rattle.pl_model.specs.Checks.{all_indicated}
use Rattle.atom_api.specs.Names.{Names}
use Rattle.builtin_rows.specs.Lists.{IsNaming}
use Rattle.world_api.specs.declared.visit.Procedure.{Procedure}
use Rattle.world_api.specs.Texts.{text_of}
use Rattle.world_api.specs.Visits.{proc_named}
use Rattle.world_builtins.specs.Naming.{IsHeldAt}
use Rattle.world_builtins.specs.Spelling.{reads}
use Rattle.shared_builtins.specs.Indicators.{with_procs}
use Rattle.shared_builtins.proofs.indicators.procedures_at.Given as goal

abbrev pub invariant-loop-place : goal.invariant-loop-place
invariant-loop-place l =
    (m : Names) → IsNaming m → All (IsHeldAt m l.store) l.terms
    → (all_indicated (map (reads m l.store) l.terms)
    ≡ with_procs (map (proc_named (text_of m)) l.all.items) (all_indicated (map (reads m l.store) (drop l.place-index l.terms))))
    × All (λ (q : Procedure). IsSome (m q.name)) l.all.items
