-- Goals of garbage_collect_atoms/0 and garbage_collect_clauses/0, as they are read, and their steps.
use Rattle.std.proofs.Common.{◌≡◌, ℕ, ◌<◌, ◌≤◌, List, [], ◌∷◌, ◌++◌, length, Option, Some, None, IsSome, codes, inr, refl, sym, ap, ap₂, subst, ◌∙◌}
use Rattle.std.specs.List.{All}
use Rattle.std.proofs.lemmas.List.Elements.{All-nil}
use Rattle.std.proofs.lemmas.Bool.{le-ltb, lt-ltb}
use Rattle.pl_term.specs.Tree.{Chars, Tree, atom, none}
use Rattle.pl_model.specs.BuiltinRows.{Row, one_answer}
use Rattle.pl_model.specs.Builtins.{row}
use Rattle.pl_model.specs.BuiltinRows as basic
use Rattle.pl_model.specs.Control.{construct, costing, name_of, other, take_up, taking, with_other, with_row, with_shared}
use Rattle.pl_model.specs.History.{History, Kind, Proc, proc}
use Rattle.pl_model.specs.Predicates.{proc_of}
use Rattle.pl_model.specs.Requests.{Reply, collect_atoms, collect_clauses, done}
use Rattle.pl_model.specs.Resolution.{Node, State, asks}
use Rattle.pl_model.specs.Service.{answers, entry_by, serve, served_now}
use Rattle.pl_model.specs.SharedBuiltins.{asks_for, shared, succeeds_with}
use Rattle.pl_model.specs.Terms.{arguments}
use Rattle.pl_model.specs.Unify.{solve_all}
use Rattle.pl_model.specs.Control as control
use Rattle.atom_api.specs.Fixed.{fixed, fixed_texts}
use Rattle.atom_api.specs.Names.{Names}
use Rattle.term_store.specs.declared.words.Place.{Place}
use Rattle.term_store.specs.Contents.{Contents}
use Rattle.world_api.specs.Gains.{Gains}
use Rattle.world_api.specs.Texts as worlds
use Rattle.world_api.specs.Told.{Told, Follows}
use Rattle.world_api.specs.Answers.{CanVisit, Visited, seen_as}
use Rattle.world_api.specs.Asked.{IsInAnswer, IsInReply, StandsIn}
use Rattle.world_api.proofs.Gaining.{gains_weaker}
use Rattle.world_api.specs.Visits.{visit_names}
use Rattle.world_api.specs.declared.answer.On.{On}
use Rattle.world_api.specs.declared.answer.Answer.TheVariants.{Served, Waits}
use Rattle.world_api.specs.declared.reply.Reply.{Reply as SharedReply}
use Rattle.term_store.specs.ArgumentKeys.{clause_key, key_atoms}
use Rattle.term_store.specs.NumberedNames.{names_of, term_by}
use Rattle.iso_search.specs.declared.outcome.Fault.{Fault}
use Rattle.iso_search.specs.declared.outcome.Fault.TheVariants.{Inferences}
use Rattle.iso_search.specs.declared.outcome.Outcome.{Outcome}
use Rattle.iso_search.specs.declared.outcome.Outcome.TheVariants.{Raise, Run}
use Rattle.iso_search.specs.declared.search.Search.{Search}
use Rattle.iso_search.specs.Budgeting.{after_taking}
use Rattle.iso_search.specs.Outcomes.{IsAfter, Setting, limits_in, state_in}
use Rattle.iso_search.specs.Reading.{IsView, View, reads}
use Rattle.iso_search.specs.Searching.{node_of}
use Rattle.iso_search.specs.Spelling.{spelled, text_of}
use Rattle.iso_search.proofs.Naming.{text_is}
use Rattle.iso_engine.specs.declared.state.collecting.Collection.{Collection}
use Rattle.iso_engine.specs.declared.state.collecting.Collection.TheVariants.{Atoms, Clauses}
use Rattle.iso_engine.specs.Collections.{IsCollectAt, collection_name}
use Rattle.iso_engine.specs.Collecting.{IsCollected, IsGoalDone, collection_procedure, collection_request, collection_visit}
use Rattle.iso_engine.specs.Following.{HasProcedure}
use Rattle.iso_engine.specs.GoalSteps.{IsStepAlone, IsStepAsked}
use Rattle.iso_engine.specs.Wrote.{led, taken}
use Rattle.iso_engine.proofs.Equals.{keeps_counted}
use Rattle.iso_engine.proofs.FollowedRows.{instance_none, themselves}
use Rattle.iso_engine.proofs.StateRows.{counted_in, no_inference, one_inference}

-- The predicates

abbrev pub collection_text : Collection → Chars
collection_text Atoms = codes "garbage_collect_atoms"
collection_text Clauses = codes "garbage_collect_clauses"

pub collection_is : (x : Collection) → fixed (collection_name x) ≡ Some (collection_text x)
unfolding fixed_texts
collection_is Atoms = refl
collection_is Clauses = refl

collection_other : (x : Collection) → construct (atom (collection_text x)) ≡ other
unfolding construct
collection_other Atoms = refl
collection_other Clauses = refl

no_row_here : (x : Collection) (next : ℕ) → row (collection_text x) none next ≡ None
unfolding row basic.row
no_row_here Atoms next = refl
no_row_here Clauses next = refl

collection_shared : (x : Collection) → shared (collection_text x) none ≡ Some (asks_for (collection_request x) (succeeds_with none))
unfolding shared
collection_shared Atoms = refl
collection_shared Clauses = refl

-- The goal
module _ (s : Contents) (goal : Place) (x : Collection) (at : IsCollectAt s goal x) where
  collect_reads : (v : View) → IsView v → reads v s goal ≡ atom (collection_text x)
  collect_reads v view = ap (spelled (text_of v.names)) at.means ∙ ap atom (text_is v view (collection_name x) (collection_text x) (collection_is x))

  pub collect_has : HasProcedure s goal (collection_procedure x)
  collect_has r view =
      ap proc_of (collect_reads r.view view) ∙ ap (λ (f : Chars). proc f 0) (sym (text_is r.view view (collection_name x) (collection_text x) (collection_is x)))

-- The step
module _ (e : Search) (goal : Place) (x : Collection) (rest : ℕ) (at : IsCollectAt e.store goal x) where
  collect_taken : (s : Setting) (h : ℕ) → IsView s.view
      → (let k = node_of s.view e rest in let g = reads s.view e.store goal in
      taken s e goal rest h
      ≡ costing (limits_in s e) (state_in s e) k g (λ q. with_other (limits_in s e) q k g (row (name_of g) (arguments g) q.next)))
  unfolding take_up
  collect_taken s h view =
      ap (take_up (limits_in s e) (state_in s e) (node_of s.view e rest) (reads s.view e.store goal) h)
      (ap construct (collect_reads e.store goal x at s.view view) ∙ collection_other x)

  -- No inference can be made.
  pub collect_spent : (n : Names) → e.budgets.inferences ≤ e.inferences → IsStepAlone n e goal rest e (Raise Inferences)
  collect_spent n most =
      record {
        leads =
            λ s h view known.
            let k = node_of s.view e rest
            in let g = reads s.view e.store goal
            in collect_taken s h view
            ∙ no_inference (limits_in s e) (state_in s e) k g (λ q. with_other (limits_in s e) q k g (row (name_of g) (arguments g) q.next)) (le-ltb e.inferences e.budgets.inferences most);
        after = record { budgets = refl; inside = (tt, keeps_counted e e refl) };
      }

  -- An inference can be made.
  module _ (count : e.inferences < e.budgets.inferences) where
    abbrev next_by : Setting → ℕ → Reply → State
    next_by s r reply =
        with_row (limits_in s e) (state_in s (counted_in e)) (node_of s.view e r) (proc_of (reads s.view e.store goal)) none (succeeds_with none reply e.next_variable)

    collect_asks : (s : Setting) (h : ℕ) → IsView s.view → taken s e goal rest h ≡ asks (collection_request x) (next_by s rest)
    collect_asks s h view =
        let l = limits_in s e
        in let k = node_of s.view e rest
        in let g = reads s.view e.store goal
        in let p = proc_of g
        in let q = state_in s (counted_in e)
        in collect_taken s h view
        ∙ one_inference l (state_in s e) k g (λ y. with_other l y k g (row (name_of g) (arguments g) y.next)) (lt-ltb e.inferences e.budgets.inferences count)
        ∙ ap (λ (t : Tree). control.with_other l q k t (row (name_of t) (arguments t) q.next)) (collect_reads e.store goal x at s.view view)
        ∙ ap (with_other l q k (atom (collection_text x))) (no_row_here x q.next)
        ∙ ap (with_shared l q k (atom (collection_text x))) (collection_shared x)
        ∙ ap (λ (r : Proc). asks (collection_request x) (λ reply. with_row l q k r none (succeeds_with none reply e.next_variable)))
        (ap proc_of (sym (collect_reads e.store goal x at s.view view)))

    -- The request was answered, and numbers and cells for nothing were taken.
    module _ (n : Names) (t u : Told) (d : Search) (o : Option Fault) (asked : IsCollected t x u)
        (step : (s : Setting) (p : Proc) (next : State → Node → State) → after_taking s d rest (node_of s.view (counted_in e) rest) p next o
        ≡ taking (limits_in s (counted_in e)) (state_in s (counted_in e)) (node_of s.view (counted_in e) rest) p 0 0 next) where
      row_taken : (s : Setting) (p : Proc)
          → with_row (limits_in s e) (state_in s (counted_in e)) (node_of s.view e rest) p none (one_answer none)
          ≡ after_taking s d rest (node_of s.view e rest) p (λ y k. control.unified y k (solve_all [] none none)) o
      unfolding with_row
      row_taken s p = sym (step s p (λ y k. control.unified y k (solve_all [] none none)))

      ran : o ≡ None → (s : Setting) → next_by s rest done ≡ led s e goal rest d (Run rest)
      ran is s =
          let k = node_of s.view d rest
          in row_taken s (proc_of (reads s.view e.store goal))
          ∙ ap (after_taking s d rest (node_of s.view e rest) (proc_of (reads s.view e.store goal)) (λ y m. control.unified y m (solve_all [] none none))) is
          ∙ ap (control.unified (state_in s d) k) (themselves none)
          ∙ ap (control.run_on (state_in s d)) (instance_none k)

      raises : (f : Fault) → o ≡ Some f → (s : Setting) → next_by s rest done ≡ led s e goal rest d (Raise f)
      raises f is s =
          row_taken s (proc_of (reads s.view e.store goal))
          ∙ ap (after_taking s d rest (node_of s.view e rest) (proc_of (reads s.view e.store goal)) (λ y m. control.unified y m (solve_all [] none none))) is

      answered : (y : Outcome) → ((s : Setting) → next_by s rest done ≡ led s e goal rest d y) → IsAfter e d y → IsGoalDone t e goal rest n u d y
      answered y leads after =
          inr (
            record {
              before = asked.before;
              update = None;
              asked = asked.asked;
              request = collection_request x;
              reply = done;
              served = asked.served;
              asking = λ s h view alike. (next_by s rest, collect_asks s h view, leads s);
            },
            after,
          )

      pub collect_ran : o ≡ None → IsAfter e d (Run rest) → IsGoalDone t e goal rest n u d (Run rest)
      collect_ran is after = answered (Run rest) (ran is) after

      pub collect_raised : (f : Fault) → o ≡ Some f → IsAfter e d (Raise f) → IsGoalDone t e goal rest n u d (Raise f)
      collect_raised f is after = answered (Raise f) (raises f is) after

-- The visit

answered_so : (e goals : ℕ) (h : History) (x : Collection) (reply : Reply) (update : Option Kind) → served_now e goals h (collection_request x) ≡ answers reply update
    → (reply ≡ done) × (update ≡ None)
unfolding serve
answered_so e goals h Atoms reply update is = (cc, cc)
answered_so e goals h Clauses reply update is = (cc, cc)

collected_at : (t u : Told) (x : Collection) (before : History) (reply : Reply) (update : Option Kind) → Follows t.engine t.history before
    → u ≡ seen_as t (before ++ entry_by t.engine update) (t.gens ++ length before ∷ [])
    → served_now t.engine t.goals before (collection_request x) ≡ answers reply update → IsCollected t x u
collected_at t u x before reply update follows told served =
    let is = answered_so t.engine t.goals before x reply update served
    in record {
      before = before;
      asked = record { follows = follows; told = subst (λ (o : Option Kind). u ≡ seen_as t (before ++ entry_by t.engine o) (t.gens ++ length before ∷ [])) is.1 told };
      served = served ∙ ap₂ answers is.0 is.1;
    }

module _ (text new_text : ℕ → Chars) (t u : Told) (before : History) where
  pub collected_by : (x : Collection) (r : SharedReply Tree) (g : ℕ) → Visited term_by clause_key text new_text (collection_visit x) (Served r g) t before u → IsCollected t x u
  collected_by Atoms r g v = let one = v.1.serves collect_atoms refl in collected_at t u Atoms before one.0 v.1.update v.0 v.1.told one.1
  collected_by Clauses r g v = let one = v.1.serves collect_clauses refl in collected_at t u Clauses before one.0 v.1.update v.0 v.1.told one.1

  pub never_waits : (x : Collection) (on : On) (g : ℕ) → Visited term_by clause_key text new_text (collection_visit x) (Waits on g) t before u → ⊥
  unfolding serve
  never_waits Atoms on g v = let is = v.1.waiting collect_atoms refl in cc
  never_waits Clauses on g v = let is = v.1.waiting collect_clauses refl in cc

pub can_visit : (text : ℕ → Chars) (x : Collection) (t : Told) → CanVisit term_by clause_key text (collection_visit x) t
can_visit text Atoms t = tt
can_visit text Clauses t = tt

pub names_nothing : (m : Names) (x : Collection) → All (λ a. IsSome (m a)) (visit_names names_of key_atoms (collection_visit x))
names_nothing m Atoms = All-nil (λ a. IsSome (m a))
names_nothing m Clauses = All-nil (λ a. IsSome (m a))

stands_so : (text : ℕ → Chars) (t : Told) (x : Collection) (before : History) (c : Chars) → StandsIn term_by clause_key text (collection_visit x) t before c
    → IsInReply t before (collection_request x) c
stands_so text t Atoms before c s = s collect_atoms refl
stands_so text t Clauses before c s = s collect_clauses refl

-- What is asked of the atoms.
pub collect_gains : (m : Names) (t : Told) (e : Search) (goal : Place) (x : Collection) → IsCollectAt e.store goal x → e.inferences < e.budgets.inferences
    → (old new : Option (List Chars)) → Gains (IsInAnswer term_by clause_key (worlds.text_of m) (collection_visit x) t) old new → Gains (IsStepAsked m t e goal) old new
collect_gains m t e goal x at count old new =
    gains_weaker (IsInAnswer term_by clause_key (worlds.text_of m) (collection_visit x) t) (IsStepAsked m t e goal) old new
    (λ c a. record {
      request = collection_request x;
      asking = λ s rest h view known. (next_by e goal x rest at count s rest, collect_asks e goal x rest at count s h view);
      before = a.before;
      follows = a.follows;
      handed = stands_so (worlds.text_of m) t x a.before c a.stands;
    })
