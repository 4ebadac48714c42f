-- What the visit of retractall/1 leads to.
use Rattle.std.proofs.Common.{◌≡◌, ◌+◌, ◌⊎◌, ℕ, ◌<◌, Bool, true, false, cond, List, [], ◌∷◌, ◌++◌, length, Option, None, Some, IsSome, codes, inl, inr, refl, sym, ap, subst, ◌∙◌, append-nil, arith, nat_le}
use Rattle.std.specs.List.{All}
use Rattle.pl_term.specs.Tree.{Chars, Tree}
use Rattle.pl_model.specs.Balls.{error_ball}
use Rattle.pl_model.specs.Errors.{static_procedure}
use Rattle.atom_api.specs.FixedNames.{retractall_name}
use Rattle.iso_search.proofs.Naming.{text_is}
use Rattle.pl_model.specs.Control.{to_clear}
use Rattle.pl_model.specs.Database.{Stored, is_known, is_static}
use Rattle.pl_model.specs.ErrorTerms.{resource_error}
use Rattle.pl_model.specs.History.{Clause, History, Kind, Proc, proc, set_dynamic}
use Rattle.pl_model.specs.Predicates.{proc_of}
use Rattle.pl_model.specs.Requests.{Reply, cleared_clauses, listed, refused}
use Rattle.pl_model.specs.Resolution.{State, asks, clearing, throwing}
use Rattle.pl_model.specs.Service.{answers, cleared, entry_by, most_updates, refuses, serve, served_now, waits}
use Rattle.pl_model.specs.SharedState.{state_at}
use Rattle.atom_api.specs.Names.{FixedStand, Names}
use Rattle.term_store.specs.ArgumentKeys.{clause_key}
use Rattle.term_store.specs.declared.argument_key.ArgumentKey.{ArgumentKey}
use Rattle.term_store.specs.declared.words.Place.{Place}
use Rattle.term_store.specs.Contents.{term_at}
use Rattle.term_store.specs.NumberedNames.{atoms_in, names_of, term_by}
use Rattle.world_api.specs.Asked.{IsInAnswer}
use Rattle.world_api.specs.Answers.{IsServed, IsWaiting, seen_as}
use Rattle.world_api.specs.Gains.{Gains}
use Rattle.world_api.proofs.Gaining.{gains_weaker}
use Rattle.world_api.specs.Replies.{IsFront, Says, found_names, reply_names}
use Rattle.world_api.specs.Texts as worlds
use Rattle.world_api.specs.Texts.{Holds}
use Rattle.world_api.specs.Told.{Follows, Told, clause_list}
use Rattle.world_api.specs.Visits.{Asks}
use Rattle.world_api.specs.declared.answer.On.{On}
use Rattle.world_api.specs.declared.reply.Found.{Found}
use Rattle.world_api.specs.declared.reply.Reply.{Reply as WorldReply}
use Rattle.world_api.specs.declared.visit.Procedure.{Procedure}
use Rattle.world_api.specs.declared.visit.Visit.TheVariants.{Clear}
use Rattle.iso_search.specs.declared.search.Search.{Search}
use Rattle.iso_search.specs.Outcomes.{Setting, state_in}
use Rattle.iso_search.specs.Reading.{IsView, View, reads}
use Rattle.iso_search.specs.Searching.{node_of, state_of}
use Rattle.iso_engine.specs.CalledGoals.{HasPredicate}
use Rattle.iso_engine.specs.Clearing.{IsClearAt, IsClearDone, clear_error, cleared_as, cleared_state}
use Rattle.iso_engine.specs.GoalSteps.{IsStepAnswered, IsStepAsked, step_refused}
use Rattle.iso_engine.specs.Lists.{IsListed}
use Rattle.iso_engine.specs.Following.{is_integer}
use Rattle.iso_engine.specs.Parts.{IsOverAtoms}
use Rattle.iso_engine.specs.Ready.{IsAlike}
use Rattle.iso_engine.specs.Replies.{IsListOrError}
use Rattle.iso_engine.specs.Standing.{left_clauses, left_of}
use Rattle.iso_engine.specs.Views.{view_of}
use Rattle.iso_engine.specs.Wrote.{taken}
use Rattle.iso_engine.proofs.Asking.{goal_asked}
use Rattle.iso_engine.proofs.Calls.{at_once, from_at_once, listed_alike}
use Rattle.iso_engine.proofs.ClearGoals.{clear_asks, clear_has, clear_is, head_no_integer, listed_left}
use Rattle.iso_engine.proofs.Fresh.{spelled_later}
use Rattle.iso_engine.proofs.LaterLists.{call_listed, call_open}
use Rattle.iso_engine.proofs.Readings.{read_over}
use Rattle.iso_engine.proofs.Serving.{says_error, says_list}
use Rattle.iso_engine.proofs.StateRows.{counted_again, counted_in}

-- How the shared state answers

abbrev Answered : ℕ → History → Tree → Reply → Option Kind → Type 0
Answered goals h goal d update =
    ((d ≡ listed (clause_list goals h (length h) goal)) × (update ≡ None)) ⊎ ((d ≡ listed []) ⊎ ((x : Tree) × (d ≡ refused x)))

updated : (goals : ℕ) (h : History) (goal : Tree) (p : Proc) (b : Bool) (d : Reply) (update : Option Kind)
    → cond b (refuses (resource_error (codes "generations"))) (answers (listed []) (Some (set_dynamic (p ∷ [])))) ≡ answers d update → Answered goals h goal d update
updated goals h goal p true d update is = inr (inr (resource_error (codes "generations"), cc))
updated goals h goal p false d update is = inr (inl (cc))

clear_answered : (e goals : ℕ) (h : History) (goal : Tree) (d : Reply) (update : Option Kind) → served_now e goals h (cleared_clauses goal) ≡ answers d update
    → Answered goals h goal d update
unfolding serve
clear_answered e goals h goal d update is =
    go (is_static (state_at goals h (length h)).database (proc_of goal)) (is_known (state_at goals h (length h)).database (proc_of goal)) is
  where
    go : (b c : Bool)
        → cond b (refuses (static_procedure (proc_of goal))) (cleared (length h) c (proc_of goal) (clause_list goals h (length h) goal)) ≡ answers d update
        → Answered goals h goal d update
    go true c same = inr (inr (static_procedure (proc_of goal), cc))
    go false true same = inl (cc, cc)
    go false false same = updated goals h goal (proc_of goal) (nat_le most_updates (length h)) d update same

updates_wait : (p : Proc) (b : Bool) → cond b (refuses (resource_error (codes "generations"))) (answers (listed []) (Some (set_dynamic (p ∷ [])))) ≡ waits → ⊥
updates_wait p true is = cc
updates_wait p false is = cc

clear_never_waits : (e goals : ℕ) (h : History) (goal : Tree) → served_now e goals h (cleared_clauses goal) ≡ waits → ⊥
unfolding serve
clear_never_waits e goals h goal is =
    go (is_static (state_at goals h (length h)).database (proc_of goal)) (is_known (state_at goals h (length h)).database (proc_of goal)) is
  where
    go : (b c : Bool)
        → cond b (refuses (static_procedure (proc_of goal))) (cleared (length h) c (proc_of goal) (clause_list goals h (length h) goal)) ≡ waits → ⊥
    go true c same = cc
    go false true same = cc
    go false false same = updates_wait (proc_of goal) (nat_le most_updates (length h)) same

-- The visit for the goal at a place, of which this is the head.
module _ (m n : Names) (t u : Told) (e : Search) (goal head : Place) (rest : ℕ) (at : IsClearAt e.store goal head) (count : e.inferences < e.budgets.inferences)
    (holds : Holds m n) (fixed_m : FixedStand m) (fixed_n : FixedStand n) (over : IsOverAtoms (term_at e.store head))
    (held : All (λ a. IsSome (m a)) (atoms_in (term_at e.store head)))
    (allowed : (v : View) → IsView v → Holds m v.names → clear_error v e.store head ≡ None)
    (p : Procedure) (k : ArgumentKey) (is : HasPredicate (term_at e.store head) p) (key : k ≡ clause_key (term_at e.store head)) where
  abbrev g : Tree
  g = term_by (worlds.text_of m) (term_at e.store head)

  same_head : (v : View) → Holds m v.names → reads v e.store head ≡ g
  same_head v known =
      spelled_later m v.names known (term_at e.store head) held
      ∙ sym (spelled_later m m (λ a y h. h) (term_at e.store head) held)
      ∙ sym (read_over m fixed_m (term_at e.store head) over)

  callable : (v : View) → IsView v → Holds m v.names → is_integer g ≡ false
  callable v view known = ap is_integer (sym (same_head v known)) ∙ head_no_integer v e.store head (allowed v view known)

  asked_here : Asks term_by clause_key (worlds.text_of m) (Clear p k) (cleared_clauses g)
  asked_here = (g, goal_asked m (term_at e.store head) p k fixed_m is key, refl)

  abbrev next_by : ℕ → Setting → Reply → State
  next_by r s = to_clear (state_in s (counted_in e)) (node_of s.view e r) (reads s.view e.store head)

  asks_it : (s : Setting) (r h : ℕ) → IsView s.view → Holds m s.view.names → taken s e goal r h ≡ asks (cleared_clauses g) (next_by r s)
  asks_it s r h view known =
      clear_asks e goal head r at count s h view (allowed s.view view known) ∙ ap (λ x. asks (cleared_clauses x) (next_by r s)) (same_head s.view known)

  pub clear_gains : (old new : Option (List Chars)) → Gains (IsInAnswer term_by clause_key (worlds.text_of m) (Clear p k) t) old new → Gains (IsStepAsked m t e goal) old new
  clear_gains old new =
      gains_weaker (IsInAnswer term_by clause_key (worlds.text_of m) (Clear p k) t) (IsStepAsked m t e goal) old new
      (λ c a. record {
        request = cleared_clauses g;
        asking = λ s r h view known. (next_by r s, asks_it s r h view known);
        before = a.before;
        follows = a.follows;
        handed = a.stands (cleared_clauses g) asked_here;
      })

  pub clear_waits : (on : On) (gen : ℕ) (before : History) → IsWaiting term_by clause_key (worlds.text_of m) (worlds.text_of n) (Clear p k) on gen t before u → ⊥
  clear_waits on gen before w = clear_never_waits t.engine t.goals before g (w.waiting (cleared_clauses g) asked_here)

  -- It was served.
  module _ (r : WorldReply Tree) (gen : ℕ) (before : History) (follows : Follows t.engine t.history before)
      (served : IsServed term_by clause_key (worlds.text_of m) (worlds.text_of n) (Clear p k) r gen t before u)
      (named : All (λ a. IsSome (n a)) (reply_names names_of r)) (view : IsView (view_of n u)) where
    abbrev one : (d : Reply) × (served_now t.engine t.goals before (cleared_clauses g) ≡ answers d served.update) × Says term_by (worlds.text_of n) r d
    one = served.serves (cleared_clauses g) asked_here

    list_or_error : Answered t.goals before g one.0 served.update → IsListOrError r
    list_or_error (inl is) =
        let shape = says_list (worlds.text_of n) r (clause_list t.goals before (length before) g) (subst (Says term_by (worlds.text_of n) r) is.0 one.2)
        in subst IsListOrError (sym shape.1) tt
    list_or_error (inr (inl is)) = let shape = says_list (worlds.text_of n) r [] (subst (Says term_by (worlds.text_of n) r) is one.2) in subst IsListOrError (sym shape.1) tt
    list_or_error (inr (inr error)) =
        let shape = says_error (worlds.text_of n) r error.0 (subst (Says term_by (worlds.text_of n) r) error.1 one.2) in subst IsListOrError (sym shape.1) tt

    pub clear_reply : IsListOrError r
    clear_reply = list_or_error (clear_answered t.engine t.goals before g one.0 served.update one.1)

    known_by : (v : View) → IsAlike n u v → Holds m v.names
    known_by v alike a y h = alike.holds a y (holds a y h)

    abbrev d : Search
    d = record e { inferences = e.inferences + 1 }

    again : d ≡ counted_in e
    again = counted_again e e.store (e.inferences + 1) refl (omega arith)

    -- By each view by which the engine may be read from then on the list is what is left.
    lists : (f : Option (Found Tree)) (cs : List (Stored Clause)) → IsFront term_by (worlds.text_of n) f cs → All (λ a. IsSome (n a)) (found_names names_of f)
        → ((cs ≡ clause_list t.goals before (length before) g) × (served.update ≡ None)) ⊎ (cs ≡ [])
        → (v : View) → IsView v → IsAlike n u v → cs ≡ left_clauses v g gen (left_of None f)
    lists None [] front found which v viewed alike = refl
    lists None (c ∷ cs) front found which v viewed alike = absurd front
    lists (Some x) [] front found which v viewed alike = absurd front
    lists (Some x) (c ∷ cs) front found (inr nothing) v viewed alike = absurd (cc)
    lists (Some x) (c ∷ cs) front found (inl whole) v viewed alike =
        let seen : u ≡ seen_as t (before ++ []) (t.gens ++ length before ∷ []) =
        served.told ∙ ap (λ (o : Option Kind). seen_as t (before ++ entry_by t.engine o) (t.gens ++ length before ∷ [])) whole.1
        in let history : u.history ≡ before = ap (λ (w : Told). w.history) seen ∙ append-nil before
        in let gens : u.gens ≡ t.gens ++ length before ∷ [] = ap (λ (w : Told). w.gens) seen
        in let same : c ∷ cs ≡ clause_list u.goals before (length before) g = whole.0 ∙ ap (λ k. clause_list k before (length before) g) (sym (ap (λ (w : Told). w.goals) seen))
        in let at_now = call_listed n u before g (Some x) (c ∷ cs) fixed_n history (inl same) front found (at_once n u v alike viewed) (from_at_once n u v alike viewed)
        in let opens = call_open t u before g (worlds.text_of n) (Some x) (c ∷ cs) history gens (inl same) front
        in let by_view : IsListed v g (length before) (Some x) (c ∷ cs) = listed_alike n u v alike viewed g (length before) (Some x) (c ∷ cs) (callable v viewed (known_by v alike)) at_now opens
        in let base : v.all g (length before) ≡ c ∷ cs =
        alike.all g (length before) (record { own = opens.own; within = opens.within })
        ∙ ap (λ l. clause_list u.goals l (length before) g) history
        ∙ sym same
        in sym (ap (λ k. left_clauses v g k (left_of None (Some x))) served.generation ∙ listed_left v g (length before) None (Some x) (c ∷ cs) by_view (λ y is. base))

    listed_done : (f : Option (Found Tree)) (cs : List (Stored Clause)) → one.0 ≡ listed cs → IsFront term_by (worlds.text_of n) f cs
        → All (λ a. IsSome (n a)) (found_names names_of f)
        → ((cs ≡ clause_list t.goals before (length before) g) × (served.update ≡ None)) ⊎ (cs ≡ [])
        → IsStepAnswered t e goal rest n u (λ s. cleared_state s d head rest gen (left_of None f))
    listed_done f cs reply_is front found which =
        record {
          before = before;
          update = served.update;
          asked = record { follows = follows; told = served.told };
          request = cleared_clauses g;
          reply = listed cs;
          served = one.1 ∙ ap (λ (x : Reply). answers x served.update) reply_is;
          asking =
              λ s h viewed alike.
              let known = known_by s.view alike
              in let x = reads s.view e.store head
              in let here = same_head s.view known
              in (
                next_by rest s,
                asks_it s rest h viewed known,
                ap (λ ds. let y : State = record (state_in s (counted_in e)) { doing = clearing x ds (node_of s.view e rest) } in y)
                    (lists f cs front found which s.view viewed alike ∙ ap (λ (z : Tree). left_clauses s.view z gen (left_of None f)) (sym here))
                    ∙ ap (λ (z : Search). cleared_state s z head rest gen (left_of None f)) (sym again),
              );
        }

    refused_done : (error : Tree) → one.0 ≡ refused (term_by (worlds.text_of n) error) → IsStepAnswered t e goal rest n u (λ s. step_refused s e goal rest d error n)
    refused_done error reply_is =
        record {
          before = before;
          update = served.update;
          asked = record { follows = follows; told = served.told };
          request = cleared_clauses g;
          reply = refused (term_by (worlds.text_of n) error);
          served = one.1 ∙ ap (λ (x : Reply). answers x served.update) reply_is;
          asking =
              λ s h viewed alike.
              let known = known_by s.view alike
              in let ball = error_ball (term_by (worlds.text_of n) error)
              in (
                next_by rest s,
                asks_it s rest h viewed known,
                ap (λ (q : Proc). let y : State = record (state_in s (counted_in e)) { doing = throwing (ball q) (node_of s.view e rest).goals } in y)
                    (sym (clear_read s viewed))
                    ∙ ap (λ (z : Search). state_of s.view z (throwing (ball (proc_of (reads s.view e.store goal))) (node_of s.view e rest).goals) s.output) (sym again),
              );
        }
      where
        clear_read : (s : Setting) → IsView s.view → proc_of (reads s.view e.store goal) ≡ proc (codes "retractall") 1
        clear_read s viewed =
            clear_has e.store goal head at s viewed
            ∙ ap (λ (f : Chars). proc f 1)
            (text_is s.view viewed retractall_name (codes "retractall") clear_is)

    done_by : Answered t.goals before g one.0 served.update → IsClearDone t e goal head rest n u d (cleared_as r gen)
    done_by (inl is) =
        let cs = clause_list t.goals before (length before) g
        in let shape = says_list (worlds.text_of n) r cs (subst (Says term_by (worlds.text_of n) r) is.0 one.2)
        in subst (λ (x : WorldReply Tree). IsClearDone t e goal head rest n u d (cleared_as x gen)) (sym shape.1)
        (listed_done shape.0 cs is.0 shape.2 (subst (λ (x : WorldReply Tree). All (λ a. IsSome (n a)) (reply_names names_of x)) shape.1 named) (inl (refl, is.1)), refl)
    done_by (inr (inl is)) =
        let shape = says_list (worlds.text_of n) r [] (subst (Says term_by (worlds.text_of n) r) is one.2)
        in subst (λ (x : WorldReply Tree). IsClearDone t e goal head rest n u d (cleared_as x gen)) (sym shape.1)
        (listed_done shape.0 [] is shape.2 (subst (λ (x : WorldReply Tree). All (λ a. IsSome (n a)) (reply_names names_of x)) shape.1 named) (inr refl), refl)
    done_by (inr (inr error)) =
        let shape = says_error (worlds.text_of n) r error.0 (subst (Says term_by (worlds.text_of n) r) error.1 one.2)
        in subst (λ (x : WorldReply Tree). IsClearDone t e goal head rest n u d (cleared_as x gen)) (sym shape.1) (
          refused_done shape.0 (error.1 ∙ ap refused shape.2),
          (subst (λ (x : WorldReply Tree). All (λ a. IsSome (n a)) (reply_names names_of x)) shape.1 named, refl),
        )

    pub clear_done : IsClearDone t e goal head rest n u d (cleared_as r gen)
    clear_done = done_by (clear_answered t.engine t.goals before g one.0 served.update one.1)
