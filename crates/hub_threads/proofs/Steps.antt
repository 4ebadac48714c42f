-- What is held stays the state after the history, where nothing was changed and where an update was made.
use Rattle.std.proofs.Common.{◌≡◌, ℕ, [], ◌∷◌, ◌++◌, length, Option, Some, None, Bool, true, false, refl, sym, ap, ◌∙◌, arith}
use Rattle.std.specs.Prelude.{◌==◌, ◌||◌}
use Rattle.pl_term.specs.Tree.{Tree}
use Rattle.pl_term.specs.Variables.{is_in}
use Rattle.pl_model.specs.History.{Entry, History, Kind, begins, has_begun}
use Rattle.pl_model.specs.SharedState.{SharedState, change, state_at}
use Rattle.pl_model.specs.Threads.{Threads}
use Rattle.atom_words.specs.declared.view.View.{View}
use Rattle.hub_threads.specs.Distinct.{has_number}
use Rattle.hub_threads.specs.Held.{Held, IsSound, goal_of, thread_numbers}
use Rattle.hub_threads.specs.Serving.{threads_as}
use Rattle.hub_threads.proofs.Weighing.{keeps_all}
use Rattle.counted_terms.specs.CountedTerms.{said}
use Rattle.counted_terms.specs.Keeping.{kept}
use Rattle.counted_terms.proofs.StateAfter.{newest_after}
use Rattle.hub_threads.specs.Threads.{IsStored, IsThreads, first_some, goal_in, started_goal}
use Rattle.hub_threads.proofs.Same.{threads_same}

-- A goal that was not handed out is stored.
pub goal_stored : (q : Held Tree) → IsSound q → (n : ℕ) (t : Tree) → goal_of n q ≡ Some t → IsStored t q
goal_stored q sound n t e w = let k = (keeps_all w q sound).goal n t e in omega (arith, k)

-- Goals of engines that were started before.
first_then : (a b c d : Option Tree) (t : Tree) → first_some a b ≡ Some t → (b ≡ Some t → c ≡ Some t) → first_some a c ≡ Some t
first_then None b c d t e next = next e
first_then (Some s) b c d t e next = e

pub started_later : (n : ℕ) (t : Tree) (h : History) (x : Entry) → started_goal n h ≡ Some t → started_goal n (h ++ x ∷ []) ≡ Some t
started_later n t [] x e = absurd (cc)
started_later n t (y ∷ h) x e = first_then (goal_in n y.kind) (started_goal n h) (started_goal n (h ++ x ∷ [])) None t e (started_later n t h x)

or_turned : (a b c : Bool) → (a || (b || c)) ≡ ((a || b) || c)
or_turned true b c = refl
or_turned false b c = refl

or_back : (a b : Bool) → (a || b) ≡ (b || a)
or_back true true = refl
or_back true false = refl
or_back false true = refl
or_back false false = refl

pub begun_later : (e : ℕ) (h : History) (x : Entry) → has_begun (h ++ x ∷ []) e ≡ (has_begun h e || begins e x.kind)
begun_later e [] x = or_back (begins e x.kind) (e == 1)
begun_later e (y ∷ h) x = ap (λ b. begins e y.kind || b) (begun_later e h x) ∙ or_turned (begins e y.kind) (has_begun h e) (begins e x.kind)

module _ (k l : View) (q : Held Tree) (c goals : ℕ) (h : History) (sound : IsSound q) (same : (t : Tree) → IsStored t q → said (kept l) t ≡ said (kept k) t) (stands : IsThreads k q c goals h) where
  alike : threads_as (said (kept k)) q.state ≡ threads_as (said (kept l)) q.state
  alike = sym (threads_same (said (kept l)) (said (kept k)) q same)

  -- NOTHING HAS CHANGED
  pub stays : IsThreads l q c goals h
  stays = record {
    threads = stands.threads ∙ alike;
    number = stands.number;
    begun = stands.begun;
    waiting = λ n t e. stands.waiting n t e ∙ ap Some (sym (same t (goal_stored q sound n t e)));
  }

  -- AN UPDATE THAT NEITHER STARTS NOR JOINS ANYTHING
  module _ (e : ℕ) (u : Kind) (f : Threads Tree → Threads Tree) (p : ℕ → ℕ) (r : Held Tree) where
    pub moves_on :
        ((s : SharedState) → (change (length h) e u s).threads ≡ f s.threads)
        → ((s : SharedState) → (change (length h) e u s).count ≡ p s.count)
        → f (threads_as (said (kept l)) q.state) ≡ threads_as (said (kept l)) r.state
        → ((b : ℕ) → ((has_number b (thread_numbers q.state.threads) || is_in b q.state.joined) || begins b u) ≡ (has_number b (thread_numbers r.state.threads) || is_in b r.state.joined))
        → ((n : ℕ) (t : Tree) → goal_of n r ≡ Some t → started_goal n (h ++ record { engine = e; kind = u } ∷ []) ≡ Some (said (kept l) t))
        → IsThreads l r (p c) goals (h ++ record { engine = e; kind = u } ∷ [])
    moves_on does counts law begins_so goals_so =
        let x : Entry = record { engine = e; kind = u } in
        let s = state_at goals h (length h) in
        record {
          threads = ap (λ (y : SharedState). y.threads) (newest_after goals h x) ∙ does s ∙ ap f (stands.threads ∙ alike) ∙ law;
          number = ap (λ (y : SharedState). y.count) (newest_after goals h x) ∙ counts s ∙ ap p stands.number;
          begun = λ b. begun_later b h x ∙ ap (λ d. d || begins b u) (stands.begun b) ∙ begins_so b;
          waiting = goals_so;
        }

    -- goals as before
    pub goals_stay : (x : Entry) → ((n : ℕ) → goal_of n r ≡ goal_of n q) → (n : ℕ) (t : Tree) → goal_of n r ≡ Some t → started_goal n (h ++ x ∷ []) ≡ Some (said (kept l) t)
    goals_stay x goal n t at =
        let before = sym (goal n) ∙ at in
        started_later n (said (kept l) t) h x (stands.waiting n t before ∙ ap Some (sym (same t (goal_stored q sound n t before))))
