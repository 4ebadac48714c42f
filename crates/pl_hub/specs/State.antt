-- When the parts of the shared state, with the counts of their atoms, are the state after the history.
use Rattle.std.specs.Prelude.{◌≡◌, ℕ, List, map, Option, length}
use Rattle.pl_term.specs.Tree.{Tree}
use Rattle.atomic_table.specs.Seated.{TableId}
use Rattle.atom_words.specs.declared.size.Size.{Size}
use Rattle.atom_table.specs.declared.seats.Keeper.{Keeper}
use Rattle.clause_db.specs.Parts.{Held as HeldClauses}
use Rattle.hub_threads.specs.Held.{Held as HeldThreads, goal_numbers}
use Rattle.hub_threads.specs.Weights.{IsBelow}
use Rattle.pl_history.specs.Fronts.{FrontState}
use Rattle.counted_terms.specs.Keeping.{KeeperAt, keeper_view}
use Rattle.counted_terms.specs.Sharing.{IsFew, Sums}
use Rattle.hub_database.specs.Database.{IsDatabase, IsUpTo, clause_counts}
use Rattle.hub_threads.specs.Threads.{IsThreads, thread_counts}
use Rattle.pl_hub.specs.Called.{Called, called_in}
use Rattle.pl_hub.specs.Fronts.{idle}
use Rattle.pl_hub.specs.Order.{IsInOrder}

-- WHAT IS SHARED IS THE STATE AFTER ALL ENTRIES that the hub's front has seen. The keeper, which is in its place at the table of atoms, counts each atom exactly as often as stored clauses, messages, goals and statuses count it. All engines that have begun are listed with their aliases. The hub's front carries the engines that have begun and that no other front was given, which are those whose goals are kept, and have done nothing yet
pub record IsShared (atoms : TableId) (size : Size) (history : TableId) (goals : ℕ) (f : FrontState) (keeper : Option Keeper) (db : HeldClauses Tree) (queues : HeldThreads Tree) (count : ℕ) (begun : List Called) : Type 0 where
  pub table : f.table ≡ history
  pub keeper_is : KeeperAt atoms size keeper
  pub exact : Sums (clause_counts db) (thread_counts queues) (keeper_view keeper)
  pub few : IsFew (length f.seen) (keeper_view keeper)
  pub database : IsDatabase (keeper_view keeper) db goals f.seen
  pub upto : IsUpTo (length f.seen) db
  pub floor : db.floor ≡ 0
  pub threads : IsThreads (keeper_view keeper) queues count goals f.seen
  pub below : IsBelow count (length f.seen) queues
  pub order : IsInOrder goals f.seen
  pub called : begun ≡ called_in f.seen
  pub waiting : f.lives ≡ map idle (goal_numbers queues.goals)
