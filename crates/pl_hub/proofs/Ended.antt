-- What is shared, and what an engine is told, after the engine's end.
use Rattle.std.proofs.Common.{◌≡◌, ◌==◌, ℕ, ◌+◌, List, [], ◌∷◌, ◌++◌, Bool, true, false, length, map, Option, refl, sym, ap, subst, ◌∙◌, arith, eq-eqb}
use Rattle.std.specs.Prelude.{if◌then◌else◌, ◌||◌}
use Rattle.std.proofs.lemmas.List.{length-append}
use Rattle.atomic_table.specs.Seated.{TableId}
use Rattle.pl_term.specs.Tree.{Tree}
use Rattle.pl_model.specs.History.{Entry, History, Kind, is_end, mine}
use Rattle.pl_history.specs.Fronts.{FrontState, Life, begun_by, gains, has_end, own_engine, own_generations, own_runs, own_updates, with_generation}
use Rattle.pl_history.proofs.Lives.{mine_own, own_engine-gains, own_updates-gains, told_own}
use Rattle.atom_words.specs.declared.size.Size.{Size}
use Rattle.atom_table.specs.declared.seats.Keeper.{Keeper}
use Rattle.clause_db.specs.Parts.{Held as HeldClauses}
use Rattle.hub_threads.specs.Held.{Held as HeldThreads, goal_numbers}
use Rattle.hub_threads.specs.Weights.{IsBelow}
use Rattle.hub_threads.specs.Threads.{IsThreads, thread_counts}
use Rattle.world_api.specs.Told.{Follows, Told}
use Rattle.counted_terms.specs.Keeping.{KeeperAt, keeper_view}
use Rattle.counted_terms.specs.Sharing.{IsFew, Restored, Sums}
use Rattle.counted_terms.proofs.Sharing.{swapped}
use Rattle.hub_database.specs.Database.{IsElsewhere, clause_counts}
use Rattle.hub_database.proofs.Elsewhere.{database_elsewhere}
use Rattle.pl_hub.specs.Called.{Called}
use Rattle.pl_hub.specs.Ending.{IsEnded, front_closed, hub_closed}
use Rattle.pl_hub.specs.Fronts.{IsOwn, idle}
use Rattle.pl_hub.specs.Settling.{IsBehind, entry}
use Rattle.pl_hub.specs.State.{IsShared}
use Rattle.pl_hub.proofs.Calling.{nobody_then}
use Rattle.pl_hub.proofs.Order.{nobody_order}
use Rattle.pl_hub.proofs.Own.{follows}
use Rattle.pl_hub.proofs.States.{database_carried}

-- THE LISTS of the engine
ends_by : (b c : Bool) (x : Entry) (g : ℕ) (l : Life) → (l.engine == x.engine) ≡ b → b ≡ true → is_end x.kind ≡ c → c ≡ true
    → (if b then record { engine = l.engine; updates = l.updates ++ x.kind ∷ []; generations = with_generation x.kind g l.generations } else l).generations ≡ l.generations
ends_by true c x g l is hit kind end = ap (λ (d : Bool). if d then l.generations else l.generations ++ g ∷ []) (kind ∙ end)
ends_by false c x g l is hit kind end = absurd (cc)

ends_generations : (x : Entry) (g : ℕ) (ls : List Life) → own_engine ls ≡ x.engine → is_end x.kind ≡ true → own_runs ls ≡ true → own_generations (gains x g ls) ≡ own_generations ls
ends_generations x g [] same end runs = absurd (cc)
ends_generations x g (l ∷ ls) same end runs = ends_by (l.engine == x.engine) (is_end x.kind) x g l refl (eq-eqb l.engine x.engine same) refl end

end_more : (ks : List Kind) (k : Kind) → is_end k ≡ true → has_end (ks ++ k ∷ []) ≡ true
end_more [] k e = ap (λ b. b || false) e
end_more (j ∷ ks) k e = ap (λ b. is_end j || b) (end_more ks k e) ∙ or_true (is_end j)
  where
    or_true : (b : Bool) → (b || true) ≡ true
    or_true true = refl
    or_true false = refl

over_by : (b : Bool) (x : Entry) (g : ℕ) (l : Life) → (l.engine == x.engine) ≡ b → b ≡ true → is_end x.kind ≡ true
    → has_end (if b then record { engine = l.engine; updates = l.updates ++ x.kind ∷ []; generations = with_generation x.kind g l.generations } else l).updates ≡ true
over_by true x g l is hit end = end_more l.updates x.kind end
over_by false x g l is hit end = absurd (cc)

ends_updates : (x : Entry) (g : ℕ) (ls : List Life) → own_engine ls ≡ x.engine → is_end x.kind ≡ true → own_runs ls ≡ true → has_end (own_updates (gains x g ls)) ≡ true
ends_updates x g [] same end runs = absurd (cc)
ends_updates x g (l ∷ ls) same end runs = over_by (l.engine == x.engine) x g l refl (eq-eqb l.engine x.engine same) end

told_same : (goals : ℕ) (d e : ℕ) (h : History) (gs ks : List ℕ) → d ≡ e → gs ≡ ks
    → ◌≡◌ {A = Told} (record { engine = d; goals = goals; history = h; gens = gs }) (record { engine = e; goals = goals; history = h; gens = ks })
told_same goals d e h gs ks a b = (λ j. record { engine = a j; goals = goals; history = h; gens = b j })

-- THE END
pub ended : (t : TableId) (goals e : ℕ) (k : Kind) (f g hub new : FrontState) → IsOwn t e f → is_end k ≡ true → IsBehind hub.seen f
    → g ≡ front_closed e k hub.seen f → new ≡ hub_closed e k hub
    → IsEnded goals e k f g hub new
ended t goals e k f g hub new own end behind g_is new_is =
    subst (λ (x : FrontState). IsEnded goals e k f x hub new) (sym g_is)
    (subst (λ (x : FrontState). IsEnded goals e k f (front_closed e k hub.seen f) hub x) (sym new_is) (record {
      follows = subst (λ (n : ℕ). Follows n f.seen hub.seen) own.engine (follows f hub.seen own.runs (own.updates ∙ ap (mine f.seen) (sym own.engine)) behind);
      told = told_same goals _ _ (hub.seen ++ entry e k ∷ []) _ _ (own_engine-gains (entry e k) (length hub.seen) f.lives) (ends_generations (entry e k) (length hub.seen) f.lives own.engine end own.runs);
      history = refl;
      carried = refl;
      over = record {
        table = refl;
        engine = own_engine-gains (entry e k) (length hub.seen) f.lives ∙ own.engine;
        ended = ends_updates (entry e k) (length hub.seen) f.lives own.engine end own.runs;
        updates = own_updates-gains (entry e k) (length hub.seen) f.lives own.engine own.runs
            ∙ ap (λ (ks : List Kind). ks ++ k ∷ []) (told_own hub.seen f.lives behind.told own.runs ∙ ap (mine hub.seen) own.engine)
            ∙ sym (mine_own hub.seen (entry e k) e refl);
      };
    }))

module _ (atoms : TableId) (size : Size) (table : TableId) (goals : ℕ) (f : FrontState) (keeper new_keeper : Option Keeper) (db : HeldClauses Tree) (q r : HeldThreads Tree) (c : ℕ) (b : List Called)
    (was : IsShared atoms size table goals f keeper db q c b) (at : KeeperAt atoms size new_keeper) where
  -- WHAT IS SHARED after it
  pub ended_shared : (e : ℕ) (k : Kind) → IsElsewhere k → (n : ℕ) → n ≡ length f.seen
      → Restored (thread_counts q) (thread_counts r) (keeper_view keeper) (keeper_view new_keeper) n (n + 1)
      → IsBelow c (n + 1) r
      → IsThreads (keeper_view new_keeper) r c goals (f.seen ++ entry e k ∷ [])
      → r.goals ≡ q.goals
      → begun_by k ≡ []
      → (new : FrontState) → new ≡ hub_closed e k f
      → IsShared atoms size table goals new new_keeper db r c b
  ended_shared e k other n is restored below threads kept begins new new_is =
      let sums : Sums (thread_counts q) (clause_counts db) (keeper_view keeper) = swapped (clause_counts db) (thread_counts q) (keeper_view keeper) was.exact in
      let more : length (f.seen ++ entry e k ∷ []) ≡ length f.seen + 1 = length-append f.seen (entry e k ∷ []) in
      let g : n + 1 ≡ length (f.seen ++ entry e k ∷ []) = omega (arith, more, is) in
      subst (λ (x : FrontState). IsShared atoms size table goals x new_keeper db r c b) (sym new_is) (record {
        table = was.table;
        keeper_is = at;
        exact = swapped (thread_counts r) (clause_counts db) (keeper_view new_keeper) (restored.exact (clause_counts db) sums);
        few = subst (λ (m : ℕ). IsFew m (keeper_view new_keeper)) g (restored.few (subst (λ (m : ℕ). IsFew m (keeper_view keeper)) (sym is) was.few));
        database = database_elsewhere (keeper_view new_keeper) db goals e f.seen k other (database_carried (keeper_view keeper) (keeper_view new_keeper) db goals f.seen (restored.says (clause_counts db) sums) was.database);
        upto = record { next = let a = was.upto.next in omega (arith, a, more); floor = let a = was.upto.floor in omega (arith, a, more) };
        floor = was.floor;
        threads = threads;
        below = subst (λ (m : ℕ). IsBelow c m r) g below;
        order = nobody_order goals e k f.seen was.order begins;
        called = was.called ∙ sym (nobody_then e k f.seen begins);
        waiting = was.waiting ∙ ap (λ (gs : List (ℕ × Tree)). map idle (goal_numbers gs)) (sym kept);
      })

  -- where memory ran out
  pub undone_shared : (n : ℕ) → n ≡ length f.seen → r ≡ q
      → Restored (thread_counts q) (thread_counts r) (keeper_view keeper) (keeper_view new_keeper) n n
      → IsThreads (keeper_view new_keeper) r c goals f.seen
      → IsShared atoms size table goals f new_keeper db r c b
  undone_shared n is same restored threads =
      let sums : Sums (thread_counts q) (clause_counts db) (keeper_view keeper) = swapped (clause_counts db) (thread_counts q) (keeper_view keeper) was.exact in
      record {
        table = was.table;
        keeper_is = at;
        exact = swapped (thread_counts r) (clause_counts db) (keeper_view new_keeper) (restored.exact (clause_counts db) sums);
        few = subst (λ (m : ℕ). IsFew m (keeper_view new_keeper)) is (restored.few (subst (λ (m : ℕ). IsFew m (keeper_view keeper)) (sym is) was.few));
        database = database_carried (keeper_view keeper) (keeper_view new_keeper) db goals f.seen (restored.says (clause_counts db) sums) was.database;
        upto = was.upto;
        floor = was.floor;
        threads = threads;
        below = subst (λ (x : HeldThreads Tree). IsBelow c (length f.seen) x) (sym same) was.below;
        order = was.order;
        called = was.called;
        waiting = was.waiting ∙ ap (λ (x : HeldThreads Tree). map idle (goal_numbers x.goals)) (sym same);
      }
