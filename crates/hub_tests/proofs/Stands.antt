-- Rows that change a database by itself leave the keeper counting the atoms of its clauses.
use Rattle.std.proofs.Common.{◌≡◌, ◌≤◌, ℕ, Option, arith}
use Rattle.std.specs.Prelude.{IsSome}
use Rattle.pl_term.specs.Tree.{Tree}
use Rattle.atomic_table.specs.Seated.{TableId}
use Rattle.atom_api.specs.Names.{Names}
use Rattle.atom_words.specs.declared.size.Size.{Size}
use Rattle.atom_table.specs.declared.seats.Keeper.{Keeper}
use Rattle.clause_db.specs.Parts.{Held}
use Rattle.counted_terms.specs.Keeping.{HoldsOn, KeeperAt, keeper_view, tally}
use Rattle.counted_terms.specs.Sharing.{Restored}
use Rattle.counted_terms.proofs.Sharing.{counts_then}
use Rattle.hub_database.specs.Database.{IsUpTo, clause_counts}
use Rattle.hub_database.specs.Rows.{IsSteady}
use Rattle.hub_tests.specs.Stands.{IsStand}
use Rattle.hub_tests.proofs.OpenLists.{still_held}

module _ (atoms : TableId) (size : Size) (db new_db : Held Tree) (keeper new_keeper : Option Keeper) (own : ℕ) (m n : Names) (g z : ℕ) where
  pub changed : IsStand atoms size db keeper g own m → KeeperAt atoms size new_keeper → Restored (clause_counts db) (clause_counts new_db) (keeper_view keeper) (keeper_view new_keeper) g z → IsUpTo z new_db → HoldsOn m n → IsStand atoms size new_db new_keeper z own n
  changed is at restored upto holds = record {
    keeper_is = at;
    counts = counts_then (clause_counts db) (clause_counts new_db) (keeper_view keeper) (keeper_view new_keeper) g z is.counts restored;
    upto = upto;
    holds = still_held m n holds own is.holds;
  }

  pub steady_changed : IsStand atoms size db keeper g own m → KeeperAt atoms size new_keeper → IsSteady (keeper_view keeper) (keeper_view new_keeper) → ((a : ℕ) → clause_counts new_db a ≡ clause_counts db a) → g ≤ z → IsUpTo z new_db → HoldsOn m n → IsStand atoms size new_db new_keeper z own n
  steady_changed is at steady weighs le upto holds = record {
    keeper_is = at;
    counts = record {
      rest = is.counts.rest;
      exact = λ a. let e = is.counts.exact a in let s = steady.counts a in let w = weighs a in omega arith;
      few = λ a. let f = is.counts.few a in let s = steady.counts a in omega arith;
    };
    upto = upto;
    holds = still_held m n holds own is.holds;
  }

-- at the start
pub opened : (atoms : TableId) (size : Size) (db : Held Tree) (keeper : Option Keeper) (own : ℕ) (m : Names)
    → KeeperAt atoms size keeper → ((a : ℕ) → tally (keeper_view keeper) a ≡ 0) → ((a : ℕ) → clause_counts db a ≡ 0) → db.next ≡ 0 → db.floor ≡ 0 → IsSome (m own) → IsStand atoms size db keeper 0 own m
opened atoms size db keeper own m at none weighs next floor held = record {
  keeper_is = at;
  counts = record { rest = λ a. 0; exact = λ a. let t = none a in let w = weighs a in omega arith; few = λ a. let t = none a in omega arith };
  upto = record { next = omega (arith, next); floor = omega (arith, floor) };
  holds = held;
}
