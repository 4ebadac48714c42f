-- What calls and retries lead to.
use Rattle.std.proofs.Common.{◌≡◌, ◌⊎◌, ℕ, suc, ◌+◌, ◌<◌, ◌≤◌, true, List, [], length, Option, None, IsSome, IfOk, Result, Ok, Err, refl, sym, ap, subst, ◌∙◌, arith, append-nil, length-append}
use Rattle.std.specs.List.{All, Contains}
use Rattle.std.proofs.lemmas.List.Elements.{All-tail}
use Rattle.pl_term.specs.Tree.{Tree}
use Rattle.pl_model.specs.History.{Clause, History}
use Rattle.pl_model.specs.Database.{Stored}
use Rattle.pl_model.specs.Requests.{listed, refused}
use Rattle.pl_model.specs.Service.{answers, served_now}
use Rattle.pl_model.specs.Resolution.{State}
use Rattle.pl_model.specs.Control.{first_clause, next_clause, tried_by}
use Rattle.atom_api.specs.Names.{Names, FixedStand}
use Rattle.term_store.specs.declared.argument_key.ArgumentKey.{ArgumentKey}
use Rattle.term_store.specs.declared.words.Place.{Place}
use Rattle.term_store.specs.ArgumentKeys.{clause_key}
use Rattle.term_store.specs.Contents.{term_at}
use Rattle.term_store.specs.NumberedNames.{atoms_in, names_of, neck, term_by}
use Rattle.world_api.specs.declared.reply.Found.{Found}
use Rattle.world_api.specs.declared.reply.Reply.{Reply}
use Rattle.world_api.specs.declared.reply.Reply.TheVariants as replies
use Rattle.world_api.specs.declared.visit.Procedure.{Procedure}
use Rattle.world_api.specs.declared.unserved.Unserved.{Unserved}
use Rattle.world_api.specs.Texts.{Holds, text_of}
use Rattle.world_api.specs.Told.{Told, Follows, behind, clause_list, has_place}
use Rattle.world_api.specs.Answers.{IsNext, IsPlace, seen_as}
use Rattle.world_api.specs.Replies.{IsFront, found_names, reply_names}
use Rattle.iso_search.specs.declared.choices.Purpose.{Purpose}
use Rattle.iso_search.specs.declared.choices.Purpose.TheVariants.{Resolving}
use Rattle.iso_search.specs.declared.outcome.Outcome.{Outcome}
use Rattle.iso_search.specs.declared.search.Search.{Search}
use Rattle.iso_search.specs.Choices.{listed_goal, purpose_of}
use Rattle.iso_search.specs.Outcomes.{IsAfter, Setting, limits_in, result_in, state_in}
use Rattle.iso_search.specs.Reading.{View, IsView, reads}
use Rattle.iso_search.specs.Searching.{node_of}
use Rattle.iso_search.proofs.After.{after_behind}
use Rattle.iso_engine.specs.declared.call.called.Called.{Called}
use Rattle.iso_engine.specs.declared.call.called.Called.TheVariants as calls
use Rattle.iso_engine.specs.Called.{AreLooked, IsCalled, IsRefused, IsRun}
use Rattle.iso_engine.specs.ClausesAsked.{listing}
use Rattle.iso_engine.specs.CalledGoals.{HasPredicate}
use Rattle.iso_engine.specs.Lists.{IsListed, IsOpen, IsOpenBehind}
use Rattle.iso_engine.specs.Parts.{IsOverAtoms}
use Rattle.iso_engine.specs.Replies.{IsFollowed, IsTried}
use Rattle.iso_engine.specs.Retried.{IsNextRun}
use Rattle.iso_engine.specs.Views.{IsViewFrom, view_of}
use Rattle.iso_engine.proofs.Asking.{IsCallServed, IsErrorReply, IsListReply, goal_asked}
use Rattle.iso_engine.proofs.LaterLists.{call_listed, call_open, goal_read, next_listed, next_open, same_term, view_fixed}
use Rattle.iso_engine.proofs.Readings.{read_over}

one_more : (n : ℕ) → n + 1 ≡ suc n
one_more n = omega arith

-- The goal of the search `e` at a place, whose atoms are held.
module _ (m n : Names) (t u : Told) (before : History) (e d : Search) (goal : Place)
    (fixed_m : FixedStand m) (fixed_n : FixedStand n) (grown : Holds m n) (over : IsOverAtoms (term_at e.store goal))
    (held : All (λ a. IsSome (m a)) (atoms_in (term_at e.store goal))) where
  same_goal : (v : View) → IsViewFrom n u v → reads v e.store goal ≡ term_by (text_of m) (term_at e.store goal)
  same_goal v from = goal_read m n u fixed_m grown e.store goal over held v from

  -- The goal is the one for which the clauses are listed.
  module _ (q : Purpose) (tried_at : Place) (lists : (v : View) → IsView v → reads v e.store goal ≡ listed_goal (purpose_of q) (reads v e.store tried_at))
      (rest gen : ℕ) (count : e.inferences < e.budgets.inferences) where
    lists_for : (v : View) → IsViewFrom n u v → term_by (text_of m) (term_at e.store goal) ≡ listed_goal (purpose_of q) (reads v e.store tried_at)
    lists_for v from = sym (same_goal v from) ∙ lists v from.view

    run_is : (f : Option (Found Tree)) (o : Outcome) (r : Reply Tree)
        → IsCallServed q t before u n (term_by (text_of m) (term_at e.store goal)) r gen
        → IsListReply q t before n (term_by (text_of m) (term_at e.store goal)) f
        → All (λ a. IsSome (n a)) (found_names names_of f)
        → (let x : Search = record e { inferences = e.inferences + 1 } in IsTried q x tried_at rest gen f d o × IsAfter x d o)
        → IsRun q m t e tried_at rest n u d o
    run_is f o r served list named followed =
        let x : Search = record e { inferences = e.inferences + 1 } in
        let g : Tree = term_by (text_of m) (term_at e.store goal) in
        let told = served.asked.told in
        let at : u.history ≡ before = ap (λ (w : Told). w.history) told ∙ append-nil before in
        let which : (list.list ≡ clause_list u.goals before (length before) g) ⊎ (list.list ≡ []) =
        subst (λ k. (list.list ≡ clause_list k before (length before) g) ⊎ (list.list ≡ [])) (sym (ap (λ (w : Told). w.goals) told)) list.which in
        record {
          before = before;
          asked = served.asked;
          count = count;
          found = f;
          named = named;
          answered = λ v from. (
            list.list,
            subst (λ y. served_now t.engine t.goals before (listing q y) ≡ answers (listed list.list) None) (lists_for v from) list.served,
            subst (λ y. IsListed v y (length before) f list.list) (lists_for v from) (call_listed n u before g f list.list fixed_n at which list.front named v from),
            subst (λ y. IsOpenBehind u y (length before) f) (lists_for v from)
                (call_open t u before g (text_of n) f list.list at (ap (λ (w : Told). w.gens) told) which list.front),
          );
          runs = λ s cs view is.
              followed.0 s cs view (subst (λ k. IsListed s.view (listed_goal (purpose_of q) (reads s.view e.store tried_at)) k f cs) (sym served.generation) is)
              ∙ ap (λ k. let y : State = record (state_in s e) { inferences = k } in first_clause (limits_in s e) (purpose_of q) y (reads s.view e.store tried_at) (node_of s.view e rest) cs)
              (one_more e.inferences);
          after = after_behind e x d o (omega arith) refl (λ v j le. refl) followed.1;
        }

    refused_is : (error y : Tree) (r : Reply Tree)
        → IsCallServed q t before u n (term_by (text_of m) (term_at e.store goal)) r gen
        → IsErrorReply q t before n (term_by (text_of m) (term_at e.store goal)) error
        → All (λ a. IsSome (n a)) (names_of error)
        → y ≡ error
        → (let x : Search = record e { inferences = e.inferences + 1 } in d ≡ x)
        → IsRefused q m t e tried_at n u d y
    refused_is error y r served reply named is same =
        subst (IsRefused q m t e tried_at n u d) (sym is)
        (record {
          before = before;
          asked = served.asked;
          count = count;
          named = named;
          answered = λ v from.
              subst (λ z. served_now t.engine t.goals before (listing q z) ≡ answers (refused (term_by (text_of v.names) error)) None) (lists_for v from)
              (reply.served
              ∙ ap (λ w. answers (refused w) None)
              (sym (ap (λ (w : View). term_by (text_of w.names) error) from.is
              ∙ same_term n from.names fixed_n (view_fixed n u v from) from.later.holds error (All-tail (λ a. IsSome (n a)) neck (atoms_in error) named))));
          search = same ∙ ap (λ k. let z : Search = record e { inferences = k } in z) (one_more e.inferences);
        })

    pub looked_is : (r : Reply Tree) (c : Called)
        → IsCallServed q t before u n (term_by (text_of m) (term_at e.store goal)) r gen
        → All (λ a. IsSome (n a)) (reply_names names_of r)
        → (let x : Search = record e { inferences = e.inferences + 1 } in IsFollowed q x tried_at rest gen r d c)
        → AreLooked q m t e tried_at rest n u d c
    looked_is (replies.Clauses f) (calls.Ran o) served named followed = run_is f o (replies.Clauses f) served served.reply named followed
    looked_is (replies.Clauses f) calls.Spent served named followed = absurd followed
    looked_is (replies.Clauses f) (calls.Refused x) served named followed = absurd followed
    looked_is (replies.Refused x) (calls.Refused y) served named followed =
        refused_is x y (replies.Refused x) served served.reply named followed.0 followed.1
    looked_is (replies.Refused x) calls.Spent served named followed = absurd followed
    looked_is (replies.Refused x) (calls.Ran o) served named followed = absurd followed
    looked_is (replies.Standing ops quotes) c served named followed = absurd served.reply
    looked_is (replies.Procedures ps) c served named followed = absurd served.reply
    looked_is (replies.Flags fs) c served named followed = absurd served.reply
    looked_is (replies.Named k) c served named followed = absurd served.reply
    looked_is (replies.Message x) c served named followed = absurd served.reply
    looked_is (replies.Operators os) c served named followed = absurd served.reply
    looked_is replies.NoMessage c served named followed = absurd served.reply
    looked_is (replies.Status x) c served named followed = absurd served.reply
    looked_is replies.Done c served named followed = absurd served.reply
    looked_is replies.Gone c served named followed = absurd served.reply

  -- The clause with the place is one of the list.
  pub place_is : (p : Procedure) (k : ArgumentKey) (gen place : ℕ) → HasPredicate (term_at e.store goal) p → k ≡ clause_key (term_at e.store goal)
      → IsOpen t (reads (view_of m t) e.store goal) gen place
      → IsPlace term_by clause_key (text_of m) p k gen place t
  place_is p k gen place is key open_list =
      record {
        own = open_list.own;
        goal = term_by (text_of m) (term_at e.store goal);
        asked = goal_asked m (term_at e.store goal) p k fixed_m is key;
        among =
            subst (λ y. has_place place (clause_list t.goals t.history gen y) ≡ true) (sym (read_over m fixed_m (term_at e.store goal) over)) open_list.among;
      }

  -- The next clause was found.
  pub next_found : (p : Procedure) (k : ArgumentKey) (gen place served : ℕ) (r : Reply Tree) → HasPredicate (term_at e.store goal) p → k ≡ clause_key (term_at e.store goal)
      → IsNext term_by clause_key (text_of m) (text_of n) p k gen place r served t before u
      → (f : Option (Found Tree)) × (r ≡ replies.Clauses f)
      × IsFront term_by (text_of n) f (behind place (clause_list t.goals before gen (term_by (text_of m) (term_at e.store goal))))
  next_found p k gen place served r is key next =
      next.front (term_by (text_of m) (term_at e.store goal)) (goal_asked m (term_at e.store goal) p k fixed_m is key)

  -- The next clause of the list for the goal was tried; it is what is tried with clauses for the purpose, or the head of that.
  pub next_run_is : (q : Purpose) (tried_at : Place) → ((v : View) → IsView v → reads v e.store goal ≡ listed_goal (purpose_of q) (reads v e.store tried_at))
      → (gen place next : ℕ) (f : Option (Found Tree)) (o : Outcome)
      → Follows t.engine t.history before
      → u ≡ seen_as t before t.gens
      → Contains t.gens gen
      → gen ≤ length t.history
      → IsFront term_by (text_of n) f (behind place (clause_list t.goals before gen (term_by (text_of m) (term_at e.store goal))))
      → All (λ a. IsSome (n a)) (found_names names_of f)
      → ((s : Setting) (cs : List (Stored Clause)) → IsView s.view → IsListed s.view (listed_goal (purpose_of q) (reads s.view e.store tried_at)) gen f cs
      → result_in s d (node_of s.view e next) (tried_by (purpose_of q) (reads s.view e.store tried_at)) o
      ≡ next_clause (limits_in s e) (purpose_of q) (state_in s e) (reads s.view e.store tried_at) (node_of s.view e next) cs)
      → IsAfter e d o
      → IsNextRun t e q tried_at gen place next n u d o
  next_run_is q tried_at lists gen place next f o follows told own within front named runs after =
      let g : Tree = term_by (text_of m) (term_at e.store goal) in
      let at : u.history ≡ before = ap (λ (w : Told). w.history) told in
      let far : gen ≤ length before = omega (arith, within, ap (length {A = Rattle.pl_model.specs.History.Entry}) follows.grown, length-append t.history follows.later) in
      let there : IsFront term_by (text_of n) f (behind place (clause_list u.goals before gen g)) =
      subst (λ k. IsFront term_by (text_of n) f (behind place (clause_list k before gen g))) (sym (ap (λ (w : Told). w.goals) told)) front in
      record {
        before = before;
        follows = follows;
        told = told;
        found = f;
        named = named;
        answered = λ v from. (
          subst (λ y. IsListed v y gen f (v.left y gen place)) (sym (same_goal v from) ∙ lists v from.view)
              (next_listed n u before gen place g f fixed_n at far there named v from),
          subst (λ y. IsOpenBehind u y gen f) (sym (same_goal v from) ∙ lists v from.view)
              (next_open u before gen place g (text_of n) f at far (subst (λ gs. Contains gs gen) (sym (ap (λ (w : Told). w.gens) told)) own) there),
        );
        runs = runs;
        after = after;
      }

-- A call is a look that resolves.
pub looked_called : (m : Names) (t : Told) (e : Search) (goal : Place) (rest : ℕ) (n : Names) (u : Told) (d : Search) (r : Result Called Unserved)
    → IfOk r (AreLooked Resolving m t e goal rest n u d) → IfOk r (IsCalled m t e goal rest n u d)
looked_called m t e goal rest n u d (Ok calls.Spent) h = absurd h
looked_called m t e goal rest n u d (Ok (calls.Ran o)) h = h
looked_called m t e goal rest n u d (Ok (calls.Refused x)) h = h
looked_called m t e goal rest n u d (Err w) h = tt
