-- A thread begins.
use Rattle.std.proofs.Common.{◌≡◌, ◌<◌, ◌≤◌, ℕ, zero, suc, ◌+◌, List, [], ◌∷◌, ◌++◌, find, length, Option, Some, None, Bool, true, false, refl, sym, ap, subst, ◌∙◌, arith, codes, eqb-true, inl, inr}
use Rattle.std.specs.Prelude.{◌^◌, ◌||◌, ◌==◌, IfNone, cond, option_map, if◌then◌else◌}
use Rattle.std.proofs.lemmas.Bool.{cases_eq, ne_eqb}
use Rattle.std.proofs.lemmas.List.{map-append}
use Rattle.std.proofs.lemmas.Option.{same_Some}
use Rattle.pl_term.specs.Tree.{Chars, Tree}
use Rattle.pl_term.specs.Variables.{is_in, rename}
use Rattle.pl_model.specs.declared.threads.Thread.{Thread}
use Rattle.pl_model.specs.ErrorTerms.{resource_error}
use Rattle.pl_model.specs.History.{Entry, History, Kind, abolish, add_first, add_last, begins, drop_queue, erase, finish, has_begun, join, make_queue, send, set_dynamic, set_flag, set_op, start}
use Rattle.pl_model.specs.History as entries
use Rattle.pl_model.specs.Requests.{Request, Reply}
use Rattle.pl_model.specs.Service.{Served, answers, refuses, served_now, started as starts, updates}
use Rattle.pl_model.specs.SharedState.{state_at}
use Rattle.pl_model.specs.Threads.{Threads, counted, has_engine, running_thread, thread_started}
use Rattle.atom_api.specs.Names.{Names}
use Rattle.atom_words.specs.declared.view.View.{View}
use Rattle.term_store.specs.NumberedNames.{term_by}
use Rattle.world_api.specs.Replies.{Says}
use Rattle.world_api.specs.Texts.{text_of}
use Rattle.world_api.specs.declared.reply.Reply.{Reply as Answer}
use Rattle.counted_terms.specs.CountedTerms.{IsCounted, naming, said}
use Rattle.counted_terms.specs.Keeping.{kept, tally}
use Rattle.counted_terms.specs.Sharing.{Counts, Restored}
use Rattle.counted_terms.proofs.Sharing.{restored_as, restored_wider, store_restores}
use Rattle.hub_threads.specs.Distinct.{has_number}
use Rattle.hub_threads.specs.Held.{Held, IsNew, IsSound, goal_numbers, goal_of, is_goal_of, started, thread_numbers}
use Rattle.hub_threads.specs.Refusals.{is_taken, start_refusal}
use Rattle.hub_threads.specs.Rows.{Changed}
use Rattle.hub_threads.specs.Threads.{IsStored, IsThreads, first_some, goal_in, started_goal, thread_counts}
use Rattle.hub_threads.specs.Weights.{IsBelow, weigh}
use Rattle.hub_threads.proofs.Answered.{starts as unrefused}
use Rattle.hub_threads.proofs.Below.{stays_below}
use Rattle.hub_threads.proofs.EndedThreads.{at_none}
use Rattle.hub_threads.proofs.Numbers.{eq_same, or_both, or_left, or_right}
use Rattle.hub_threads.proofs.RefusedRows.{updates_made, updates_refused}
use Rattle.hub_threads.proofs.Sending.{stored_counted}
use Rattle.hub_threads.proofs.Served.{all_changes, engines_as}
use Rattle.hub_threads.proofs.Steps.{goal_stored, moves_on, started_later}
use Rattle.hub_threads.proofs.Weighing.{keeps_all}

-- WHAT THE STATE ANSWERS
module _ (k : View) (q : Held Tree) (count goals : ℕ) (h : History) (stands : IsThreads k q count goals h) (n : ℕ) (t : Tree) (a : Option Chars) (r : Reply) where
  abbrev begun_by : Served
  begun_by = updates (length h) r (start n (rename zero t) a)

  by_engines : (b : Bool) → has_engine q.state ≡ b → starts (state_at goals h (length h)) (length h) n t a r ≡ (if b then begun_by else refuses (resource_error (codes "threads")))
  by_engines b is = ap (λ c. if c then begun_by else refuses (resource_error (codes "threads"))) (engines_as (said (kept k)) q.state (state_at goals h (length h)).threads stands.threads ∙ is)

  pub starts_full : has_engine q.state ≡ false → starts (state_at goals h (length h)) (length h) n t a r ≡ refuses (resource_error (codes "threads"))
  starts_full is = by_engines false is

  pub starts_worn : has_engine q.state ≡ true → 2 ^ 47 ≤ length h → starts (state_at goals h (length h)) (length h) n t a r ≡ refuses (resource_error (codes "generations"))
  starts_worn is high = by_engines true is ∙ updates_refused (length h) r (start n (rename zero t) a) high

  pub starts_made : has_engine q.state ≡ true → length h < 2 ^ 47 → rename zero t ≡ t → starts (state_at goals h (length h)) (length h) n t a r ≡ answers r (Some (start n t a))
  starts_made is low canonical = by_engines true is ∙ updates_made (length h) r (start n (rename zero t) a) low ∙ ap (λ d. answers r (Some (start n d a))) canonical

-- The call was not refused.
pub begun_so : (P : Type 0) (t : Threads Tree) (a : Option Chars) → is_taken t a ≡ false → has_engine t ≡ true → IfNone (start_refusal t a) P → P
begun_so P t a free engine h = at_none (start_refusal t a) (unrefused t a free engine) h

-- THE NUMBERS OF THE THREADS, with one more
or_false : (d : Bool) → (d || false) ≡ d
or_false true = refl
or_false false = refl

last_number : (n b : ℕ) (ns : List ℕ) → has_number b (ns ++ n ∷ []) ≡ (has_number b ns || (n == b))
last_number n b [] = or_false (n == b)
last_number n b (m ∷ ns) = ap (λ d. (m == b) || d) (last_number n b ns) ∙ or_turned (m == b) (has_number b ns) (n == b)
  where
    or_turned : (x y z : Bool) → (x || (y || z)) ≡ ((x || y) || z)
    or_turned true y z = refl
    or_turned false y z = refl

or_moved : (x y z : Bool) → ((x || y) || z) ≡ ((x || z) || y)
or_moved true y z = refl
or_moved false true true = refl
or_moved false true false = refl
or_moved false false true = refl
or_moved false false false = refl

begun_with : (n b : ℕ) (q : Held Tree) (t : Tree) (a : Option Chars)
    → ((has_number b (thread_numbers q.state.threads) || is_in b q.state.joined) || (n == b)) ≡ (has_number b (thread_numbers (started n t a q).state.threads) || is_in b q.state.joined)
begun_with n b q t a =
    or_moved (has_number b (thread_numbers q.state.threads)) (is_in b q.state.joined) (n == b)
    ∙ ap (λ d. d || is_in b q.state.joined) (sym (last_number n b (thread_numbers q.state.threads)))
    ∙ ap (λ ns. has_number b ns || is_in b q.state.joined) (sym (map-append (λ (x : Thread Tree). x.number) q.state.threads (running_thread n ∷ [])))

-- THE GOALS, with one more
other_last : (n m : ℕ) (t : Tree) → (n == m) ≡ false → (gs : List (ℕ × Tree)) → find (is_goal_of m) (gs ++ (n, t) ∷ []) ≡ find (is_goal_of m) gs
other_last n m t other [] = ap (λ d. cond d (Some (n, t)) None) other
other_last n m t other (g ∷ gs) = ap (λ (o : Option (ℕ × Tree)). cond (g.0 == m) (Some g) o) (other_last n m t other gs)

own_last : (n : ℕ) (t : Tree) (gs : List (ℕ × Tree)) → has_number n (goal_numbers gs) ≡ false → find (is_goal_of n) (gs ++ (n, t) ∷ []) ≡ Some (n, t)
own_last n t [] e = ap (λ d. cond d (Some (n, t)) None) (eq_same n)
own_last n t (g ∷ gs) e =
    ap (λ d. cond d (Some g) (find (is_goal_of n) (gs ++ (n, t) ∷ []))) (or_left (g.0 == n) (has_number n (goal_numbers gs)) e)
    ∙ own_last n t gs (or_right (g.0 == n) (has_number n (goal_numbers gs)) e)

-- an engine that has not begun was started with no goal
none_in : (n : ℕ) (u : Kind) → begins n u ≡ false → goal_in n u ≡ None
none_in n (start b t a) e = ap (λ d. if d then Some t else None) e
none_in n (add_first p c o) e = refl
none_in n (add_last p c o) e = refl
none_in n (erase j) e = refl
none_in n (abolish p) e = refl
none_in n (set_dynamic ps) e = refl
none_in n (set_flag f v) e = refl
none_in n (set_op os) e = refl
none_in n (make_queue m a) e = refl
none_in n (drop_queue m) e = refl
none_in n (send m t) e = refl
none_in n (entries.take j) e = refl
none_in n (finish how m) e = refl
none_in n (join m) e = refl

first_begun : (n : ℕ) (h : History) (x : Entry) → has_begun h n ≡ false → started_goal n (h ++ x ∷ []) ≡ first_some (goal_in n x.kind) None
first_begun n [] x e = refl
first_begun n (y ∷ h) x e =
    ap (λ o. first_some o (started_goal n (h ++ x ∷ []))) (none_in n y.kind (or_left (begins n y.kind) (has_begun h n) e))
    ∙ first_begun n h x (or_right (begins n y.kind) (has_begun h n) e)

-- THE THREAD HAS BEGUN
module _ (q r : Held Tree) (n : ℕ) (t : Tree) (a : Option Chars) (sound : IsSound q) (new : IsNew n q) (unjoined : is_in n q.state.joined ≡ false) (began : r ≡ started n t a q) where
  abbrev after : Held Tree
  after = started n t a q

  started_weighs : (w : Tree → ℕ) → weigh w r ≡ w t + weigh w q
  started_weighs w = ap (weigh w) began ∙ (keeps_all w q sound).started n t a

  pub started_below : (count g : ℕ) → IsBelow count g q → IsBelow (counted n count) (g + 1) r
  started_below count g below = subst (IsBelow (counted n count) (g + 1)) (sym began)
      ((stays_below (counted n count) g after ((stays_below count g q below).started n t a)).later (counted n count) (g + 1) (omega arith) (omega arith))

  module _ (k l : View) (g : ℕ) (stored : (u : Tree) → IsCounted u k → said (kept l) u ≡ said (kept k) u) (counts : (b : ℕ) → tally l b ≡ naming b t + tally k b) where
    pub started_restores : Restored (thread_counts q) (thread_counts r) k l g (g + 1)
    started_restores =
        restored_wider (thread_counts q) (thread_counts r) k l g (suc g) (g + 1)
        (restored_as (thread_counts q) (λ b. naming b t + thread_counts q b) (thread_counts r) k l g (suc g) (store_restores (thread_counts q) k l g t stored counts) (λ b. started_weighs (naming b)))
        (omega arith)

    module _ (exact : Counts (thread_counts q) k g) (count goals : ℕ) (h : History) (stands : IsThreads k q count goals h) (e : ℕ) where
      same : (u : Tree) → IsStored u q → said (kept l) u ≡ said (kept k) u
      same u inside = stored u (stored_counted k q g exact u inside)

      pub not_begun : has_begun h n ≡ false
      not_begun = stands.begun n ∙ or_both (has_number n (thread_numbers q.state.threads)) (is_in n q.state.joined) new.no_thread unjoined

      waits : (s : Tree) → said (kept l) t ≡ s → (m : ℕ) (u : Tree) → goal_of m after ≡ Some u → started_goal m (h ++ record { engine = e; kind = start n s a } ∷ []) ≡ Some (said (kept l) u)
      waits s is m u at = elim (cases_eq n m) [
        | inl own ↦
            let x : Entry = record { engine = e; kind = start n s a } in
            let here : Some u ≡ Some t = sym at ∙ ap (λ (j : ℕ). option_map (λ (g₁ : ℕ × Tree). g₁.1) (find (is_goal_of j) (q.goals ++ (n, t) ∷ []))) (sym own) ∙ ap (option_map (λ (g₁ : ℕ × Tree). g₁.1)) (own_last n t q.goals new.no_goal) in
            ap (λ (j : ℕ). started_goal j (h ++ x ∷ [])) (sym own)
            ∙ first_begun n h x not_begun
            ∙ ap (λ d. first_some (if d then Some s else None) None) (eq_same n)
            ∙ ap Some (sym is)
            ∙ ap (λ (z : Tree). Some (said (kept l) z)) (sym (same_Some u t here))
        | inr ne ↦
            let x : Entry = record { engine = e; kind = start n s a } in
            let before : goal_of m q ≡ Some u = ap (option_map (λ (g₁ : ℕ × Tree). g₁.1)) (sym (other_last n m t (ne_eqb n m ne) q.goals)) ∙ at in
            started_later m (said (kept l) u) h x (stands.waiting m u before ∙ ap Some (sym (same u (goal_stored q sound m u before))))
      ]

      pub started_stands : (s : Tree) → said (kept l) t ≡ s → IsThreads l r (counted n count) goals (h ++ record { engine = e; kind = start n s a } ∷ [])
      started_stands s is =
          subst (λ (z : Held Tree). IsThreads l z (counted n count) goals (h ++ record { engine = e; kind = start n s a } ∷ [])) (sym began)
          (moves_on k l q count goals h sound same stands e (start n s a) (thread_started n a) (counted n) after
          (λ z. refl)
          (λ z. refl)
          (sym ((all_changes (said (kept l)) q.state).started n a))
          (λ b. begun_with n b q t a)
          (waits s is))

      pub start_changes : (m m' : Names) (v : Request) (made : Reply) (reply : Answer Tree)
          → has_engine q.state ≡ true
          → g < 2 ^ 47
          → length h ≡ g
          → rename zero (said m t) ≡ said m t
          → said (kept l) t ≡ said m t
          → served_now e goals h v ≡ starts (state_at goals h (length h)) (length h) n (said m t) a made
          → Says term_by (text_of m') reply made
          → Changed l m' e v r (counted n count) goals h reply
      start_changes m m' v made reply engine low long canonical is serves says = record {
        update = start n (said m t) a;
        answers = record {
          reply = made;
          serves = serves ∙ starts_made k q count goals h stands n (said m t) a made engine (let x = long in let y = low in omega (arith, x, y)) canonical;
          says = says;
        };
        stands = started_stands (said m t) is;
        fresh = λ b f. ap (has_begun h) (sym (eqb-true n b f)) ∙ not_begun;
      }
