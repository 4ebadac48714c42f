-- An engine that has begun is handed to a front.
use Rattle.std.proofs.Common.{◌≡◌, ◌<◌, ◌==◌, ℕ, ◌+◌, List, [], ◌∷◌, map, length, Bool, true, false, Option, Some, refl, sym, ap, subst, ◌∙◌, arith, eq-eqb}
use Rattle.std.specs.Prelude.{IsSome, if◌then◌else◌}
use Rattle.std.specs.List.{All}
use Rattle.atomic_table.specs.Seated.{TableId}
use Rattle.pl_term.specs.Tree.{Tree}
use Rattle.pl_history.specs.Fronts.{AllTold, FrontState, Life, picked, times, without}
use Rattle.atom_api.specs.Names.{Names}
use Rattle.atom_words.specs.declared.size.Size.{Size}
use Rattle.atom_table.specs.declared.seats.Keeper.{Keeper}
use Rattle.clause_db.specs.Parts.{Held as HeldClauses}
use Rattle.term_store.specs.NumberedNames.{names_of}
use Rattle.hub_threads.specs.Held.{Held as HeldThreads, goal_numbers}
use Rattle.hub_threads.specs.Weights.{IsBelow}
use Rattle.hub_threads.specs.Threads.{IsThreads, started_goal, thread_counts}
use Rattle.counted_terms.specs.CountedTerms.{said}
use Rattle.counted_terms.specs.Keeping.{KeeperAt, keeper_view}
use Rattle.counted_terms.specs.Sharing.{Restored, Sums}
use Rattle.counted_terms.proofs.Sharing.{swapped}
use Rattle.hub_database.specs.Database.{clause_counts}
use Rattle.pl_hub.specs.Beginning.{HasBegun}
use Rattle.pl_hub.specs.declared.beginning.Begun.{Begun}
use Rattle.pl_hub.specs.Called.{Called}
use Rattle.pl_hub.specs.Fronts.{idle}
use Rattle.pl_hub.specs.State.{IsShared}
use Rattle.pl_hub.proofs.Opening.{none_within}
use Rattle.pl_hub.proofs.States.{database_carried}

-- THE FIRST of the engines
same_number : (n : ℕ) → (n == n) ≡ true
same_number n = eq-eqb n n refl

one_more : (b : Bool) (k : ℕ) → b ≡ true → 0 < (if b then 1 else 0) + k
one_more true k is = omega arith
one_more false k is = absurd (cc)

pub carries_first : (n : ℕ) (hub ls : List Life) → hub ≡ idle n ∷ ls → 0 < times n hub
carries_first n hub ls is = subst (λ (k : List Life). 0 < times n k) (sym is) (one_more (n == n) (times n ls) (same_number n))

pub picked_first : (n : ℕ) (hub ls : List Life) → hub ≡ idle n ∷ ls → picked n hub ≡ idle n ∷ []
picked_first n hub ls is = ap (picked n) is ∙ ap (λ (b : Bool). if b then idle n ∷ [] else picked n ls) (same_number n)

pub without_first : (n : ℕ) (hub ls : List Life) → hub ≡ idle n ∷ ls → without n hub ≡ ls
without_first n hub ls is = ap (without n) is ∙ ap (λ (b : Bool). if b then ls else idle n ∷ without n ls) (same_number n)

-- WHAT IS SHARED after it
pub handed_shared : {atoms : TableId} {size : Size} {table : TableId} {goals : ℕ} {f : FrontState} {keeper new_keeper : Option Keeper} {db : HeldClauses Tree} {q r : HeldThreads Tree} {c : ℕ} {b : List Called}
    → IsShared atoms size table goals f keeper db q c b → KeeperAt atoms size new_keeper
    → Restored (thread_counts q) (thread_counts r) (keeper_view keeper) (keeper_view new_keeper) (length f.seen) (length f.seen)
    → IsBelow c (length f.seen) r
    → IsThreads (keeper_view new_keeper) r c goals f.seen
    → (new : FrontState) → new ≡ record f { lives = map idle (goal_numbers r.goals) }
    → IsShared atoms size table goals new new_keeper db r c b
handed_shared {atoms} {size} {table} {goals} {f} {keeper} {new_keeper} {db} {q} {r} {c} {b} was at restored below threads new new_is =
    let sums : Sums (thread_counts q) (clause_counts db) (keeper_view keeper) = swapped (clause_counts db) (thread_counts q) (keeper_view keeper) was.exact in
    subst (λ (x : FrontState). IsShared atoms size table goals x new_keeper db r c b) (sym new_is) (record {
      table = was.table;
      keeper_is = at;
      exact = swapped (thread_counts r) (clause_counts db) (keeper_view new_keeper) (restored.exact (clause_counts db) sums);
      few = restored.few was.few;
      database = database_carried (keeper_view keeper) (keeper_view new_keeper) db goals f.seen (restored.says (clause_counts db) sums) was.database;
      upto = was.upto;
      floor = was.floor;
      threads = threads;
      below = below;
      order = was.order;
      called = was.called;
      waiting = refl;
    })

-- THE ENGINE HAS BEGUN in the front
pub begins_in : (table : TableId) (b : Begun) (m : Names) (f hub : FrontState) (ls : List Life) → f.table ≡ table → hub.lives ≡ idle b.number ∷ ls → AllTold hub.seen (idle b.number ∷ f.lives)
    → started_goal b.number hub.seen ≡ Some (said m b.goal)
    → All (λ a. IsSome (m a)) (names_of b.goal)
    → (g new : FrontState) → g ≡ record f { seen = hub.seen; lives = idle b.number ∷ f.lives } → new ≡ record hub { lives = ls }
    → HasBegun table b m f g hub new
begins_in table b m f hub ls here was told goal named g new g_is new_is =
    subst (λ (x : FrontState). HasBegun table b m f x hub new) (sym g_is)
    (subst (λ (x : FrontState). HasBegun table b m f (record f { seen = hub.seen; lives = idle b.number ∷ f.lives }) hub x) (sym new_is) (record {
      own = record { table = here; engine = refl; runs = refl; updates = told.0.updates; within = none_within (length hub.seen) [] refl };
      front = refl;
      hub_was = was;
      same = refl;
      goal = goal;
      named = named;
    }))
