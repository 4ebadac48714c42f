use Rattle.std.proofs.Common.{◌≡◌, ℕ, None, false, true, take}
use Rattle.std.specs.Prelude.{◌==◌}
use Rattle.std.specs.List.{list_any}
use Rattle.std.specs.Ordering.{nat_cmp}
use Rattle.std.specs.BTreeMap as tree
use Rattle.clause_db.proofs.db.unsettle_all.Given as goal

abbrev pub invariant-loop-i : goal.invariant-loop-i
invariant-loop-i l =
    ((k : ℕ) → list_any (λ q. q == k) (take l.i l.places) ≡ false → tree.get nat_cmp l.homes k ≡ tree.get nat_cmp l.initial.homes k)
    × ((k : ℕ) → list_any (λ q. q == k) (take l.i l.places) ≡ true → tree.get nat_cmp l.homes k ≡ None)
