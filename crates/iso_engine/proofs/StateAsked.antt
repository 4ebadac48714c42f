-- Goals of the shared state that ask.
use Rattle.std.proofs.Common.{◌≡◌, ℕ, ◌<◌, ◌≤◌, ◌^◌, true, List, Option, Some, IsSome, inr, refl, sym, ap, subst, ◌∙◌, arith}
use Rattle.std.specs.List.{All, Contains}
use Rattle.std.specs.Str.{all_scalars}
use Rattle.pl_term.specs.Texts.{size}
use Rattle.pl_term.specs.Tree.{Chars, Tree}
use Rattle.pl_model.specs.Balls.{error_ball}
use Rattle.pl_model.specs.BuiltinRows as rows
use Rattle.pl_model.specs.Control.{name_of, with_row}
use Rattle.pl_model.specs.History.{History, Kind}
use Rattle.pl_model.specs.Predicates.{proc_of}
use Rattle.pl_model.specs.Requests.{Reply, Request}
use Rattle.pl_model.specs.Resolution.{throwing}
use Rattle.pl_model.specs.Service.{Served, answers, served_now, waits}
use Rattle.pl_model.specs.SharedBuiltins.{asks_for, shared}
use Rattle.pl_model.specs.Terms.{arguments}
use Rattle.atom_api.specs.Names.{FixedStand, Names}
use Rattle.term_store.specs.ArgumentKeys.{clause_key}
use Rattle.term_store.specs.declared.argument_key.ArgumentKey.{ArgumentKey}
use Rattle.term_store.specs.NumberedNames.{names_of, term_by}
use Rattle.world_api.specs.declared.answer.On.{On}
use Rattle.world_api.specs.declared.reply.Reply.{Reply as SharedReply}
use Rattle.world_api.specs.declared.visit.Visit.{Visit}
use Rattle.world_api.specs.declared.visit.Visit.TheVariants.{Look, ReadOperators, Call, Inspect, Retract, Clear, Next, Erase, AssertFirst, AssertLast, Consult, Abolish, MakeDynamic, AllProcedures, PutOperators, AllOperators, PutFlag, AllFlags, OwnName, CreateThread, StartGoal, JoinThread, SendMessage, GetMessage, PeekMessage, CreateQueue, DestroyQueue, CollectAtoms, CollectClauses}
use Rattle.world_api.specs.Answers.{CanVisit, IsServed, IsWaiting, Serves, on_names}
use Rattle.world_api.specs.Asked.{IsInAnswer, IsInReply, StandsIn}
use Rattle.world_api.specs.Gains.{Gains}
use Rattle.world_api.specs.Replies.{Says, reply_names}
use Rattle.world_api.specs.Texts.{Holds, text_of}
use Rattle.world_api.specs.Told.{Told, Follows}
use Rattle.world_api.specs.Visits.{Asks}
use Rattle.world_api.proofs.Gaining.{gains_weaker}
use Rattle.world_builtins.specs.Naming.{IsHeldAt}
use Rattle.world_builtins.specs.Spelling as written
use Rattle.iso_search.specs.declared.outcome.Outcome.{Outcome}
use Rattle.iso_search.specs.declared.search.Search.{Search}
use Rattle.iso_search.specs.Outcomes.{IsAfter, limits_in, state_in}
use Rattle.iso_search.specs.Reading.{reads}
use Rattle.iso_search.specs.Searching.{node_of, state_of}
use Rattle.shared_builtins.specs.declared.goal.StateGoal.{StateGoal}
use Rattle.shared_builtins.specs.Replies.{IsReplyTo, renumbered_reply, renumbered_served}
use Rattle.shared_builtins.specs.Shared.{renumbered}
use Rattle.shared_builtins.specs.Telling.{TellsAtoms}
use Rattle.shared_builtins.proofs.Renumbering.{handed_renumbered, on_renumbered, served_renumbered}
use Rattle.iso_engine.specs.declared.state.asked.Asked.{Asked}
use Rattle.iso_engine.specs.declared.state.asked.Asked.TheVariants.{Ran, Refused, Waits}
use Rattle.iso_engine.specs.Called as called
use Rattle.iso_engine.specs.State.{IsGoalAsked, IsHeldUp, IsReplyLed, IsStateAsked, IsStateAt, IsVisitFor}
use Rattle.iso_search.proofs.After.{after_behind}
use Rattle.iso_search.proofs.Texts.{texts_apart}
use Rattle.iso_engine.proofs.Equals.{keeps_counted}
use Rattle.iso_engine.proofs.StateRows.{counted_in, next_of, taken_asks}

-- A visit that asks something is none that goes on with a list.
module _ (text new_text : ℕ → Chars) (q : Request) where
  pub as_served : (v : Visit Tree ArgumentKey) → Asks term_by clause_key text v q → (r : SharedReply Tree) (g : ℕ) (old : Told) (before : History) (new : Told)
      → Serves term_by clause_key text new_text v r g old before new → IsServed term_by clause_key text new_text v r g old before new
  as_served Look a r g old before new s = s
  as_served ReadOperators a r g old before new s = s
  as_served (Call p k) a r g old before new s = s
  as_served (Inspect p k) a r g old before new s = s
  as_served (Retract p k) a r g old before new s = s
  as_served (Clear p k) a r g old before new s = s
  as_served (Next p k h place) a r g old before new s = absurd a
  as_served (Erase place) a r g old before new s = s
  as_served (AssertFirst c) a r g old before new s = s
  as_served (AssertLast c) a r g old before new s = s
  as_served (Consult c) a r g old before new s = s
  as_served (Abolish p) a r g old before new s = s
  as_served (MakeDynamic ps) a r g old before new s = s
  as_served AllProcedures a r g old before new s = s
  as_served (PutOperators p k fs) a r g old before new s = s
  as_served AllOperators a r g old before new s = s
  as_served (PutFlag f v) a r g old before new s = s
  as_served AllFlags a r g old before new s = s
  as_served OwnName a r g old before new s = s
  as_served (CreateThread x as₁ e) a r g old before new s = s
  as_served (StartGoal k x) a r g old before new s = s
  as_served (JoinThread x) a r g old before new s = s
  as_served (SendMessage x y) a r g old before new s = s
  as_served (GetMessage x y) a r g old before new s = s
  as_served (PeekMessage x y) a r g old before new s = s
  as_served (CreateQueue o) a r g old before new s = s
  as_served (DestroyQueue x) a r g old before new s = s
  as_served CollectAtoms a r g old before new s = s
  as_served CollectClauses a r g old before new s = s

  pub can_visit : (v : Visit Tree ArgumentKey) → Asks term_by clause_key text v q → (t : Told) → CanVisit term_by clause_key text v t
  can_visit Look asks t = tt
  can_visit ReadOperators asks t = tt
  can_visit (Call p k) asks t = tt
  can_visit (Inspect p k) asks t = tt
  can_visit (Retract p k) asks t = tt
  can_visit (Clear p k) asks t = tt
  can_visit (Next p k h place) asks t = absurd asks
  can_visit (Erase place) asks t = tt
  can_visit (AssertFirst c) asks t = tt
  can_visit (AssertLast c) asks t = tt
  can_visit (Consult c) asks t = tt
  can_visit (Abolish p) asks t = tt
  can_visit (MakeDynamic ps) asks t = tt
  can_visit AllProcedures asks t = tt
  can_visit (PutOperators p k fs) asks t = tt
  can_visit AllOperators asks t = tt
  can_visit (PutFlag f v) asks t = tt
  can_visit AllFlags asks t = tt
  can_visit OwnName asks t = tt
  can_visit (CreateThread x as₁ e) asks t = tt
  can_visit (StartGoal k x) asks t = tt
  can_visit (JoinThread x) asks t = tt
  can_visit (SendMessage x y) asks t = tt
  can_visit (GetMessage x y) asks t = tt
  can_visit (PeekMessage x y) asks t = tt
  can_visit (CreateQueue a) asks t = tt
  can_visit (DestroyQueue x) asks t = tt
  can_visit CollectAtoms asks t = tt
  can_visit CollectClauses asks t = tt

  pub stands_in : (v : Visit Tree ArgumentKey) → Asks term_by clause_key text v q → (t : Told) (before : History) (c : Chars) → StandsIn term_by clause_key text v t before c
      → IsInReply t before q c
  stands_in Look asks t before c s = absurd s
  stands_in ReadOperators asks t before c s = absurd s
  stands_in (Call p k) asks t before c s = s q asks
  stands_in (Inspect p k) asks t before c s = s q asks
  stands_in (Retract p k) asks t before c s = s q asks
  stands_in (Clear p k) asks t before c s = s q asks
  stands_in (Next p k h place) asks t before c s = absurd asks
  stands_in (Erase place) asks t before c s = s q asks
  stands_in (AssertFirst x) asks t before c s = s q asks
  stands_in (AssertLast x) asks t before c s = s q asks
  stands_in (Consult x) asks t before c s = s q asks
  stands_in (Abolish p) asks t before c s = s q asks
  stands_in (MakeDynamic ps) asks t before c s = s q asks
  stands_in AllProcedures asks t before c s = s q asks
  stands_in (PutOperators p k fs) asks t before c s = s q asks
  stands_in AllOperators asks t before c s = s q asks
  stands_in (PutFlag f v) asks t before c s = s q asks
  stands_in AllFlags asks t before c s = s q asks
  stands_in OwnName asks t before c s = s q asks
  stands_in (CreateThread x as₁ e) asks t before c s = s q asks
  stands_in (StartGoal k x) asks t before c s = s q asks
  stands_in (JoinThread x) asks t before c s = s q asks
  stands_in (SendMessage x y) asks t before c s = s q asks
  stands_in (GetMessage x y) asks t before c s = s q asks
  stands_in (PeekMessage x y) asks t before c s = s q asks
  stands_in (CreateQueue a) asks t before c s = s q asks
  stands_in (DestroyQueue x) asks t before c s = s q asks
  stands_in CollectAtoms asks t before c s = s q asks
  stands_in CollectClauses asks t before c s = s q asks

-- The atoms that are held tell terms apart.
pub names_tell : (m : Names) → FixedStand m → ((a b : ℕ) (y : Chars) → m a ≡ Some y → m b ≡ Some y → a ≡ b)
    → ((a : ℕ) (y : Chars) → m a ≡ Some y → (a < 2 ^ 32) × (size y ≤ 248) × (all_scalars y ≡ true)) → TellsAtoms m
names_tell m stands unlike finite =
    record { naming = record { stands = stands; unlike = unlike }; apart = texts_apart m unlike (λ a y h. (finite a y h).2) }

-- The inference of the goal was made before.
pub after_counted : (e f : Search) (o : Outcome) → IsAfter (counted_in e) f o → IsAfter e f o
after_counted e f o after = after_behind e (counted_in e) f o (omega arith) refl (keeps_counted e (counted_in e) refl) after

-- The request of the definition for the one of the visit.

unrenumbered : (s : Served) (reply : Reply) (update : Option Kind) → answers reply update ≡ renumbered_served s
    → (r : Reply) × (s ≡ answers r update) × (reply ≡ renumbered_reply r)
unrenumbered (answers r k) reply update is = (r, ap (answers r) (same_update is), same_reply is)
  where
    same_update : answers reply update ≡ answers (renumbered_reply r) k → k ≡ update
    same_update e = cc

    same_reply : answers reply update ≡ answers (renumbered_reply r) k → reply ≡ renumbered_reply r
    same_reply e = cc
unrenumbered waits reply update is = absurd (no_answer is)
  where
    no_answer : answers reply update ≡ waits → ⊥
    no_answer e = cc

waiting_now : (s : Served) → waits ≡ renumbered_served s → s ≡ waits
waiting_now (answers r k) is = absurd (no_wait is)
  where
    no_wait : waits ≡ answers (renumbered_reply r) k → ⊥
    no_wait e = cc
waiting_now waits is = refl

-- The goal asked this of the shared state.
module _ (m n : Names) (holds : Holds m n) (tells : TellsAtoms n) (t : Told) (e : Search) (x : StateGoal) (at : IsStateAt e.store x) (rest : ℕ)
    (count : e.inferences < e.budgets.inferences) (held : IsHeldAt m e.store x.place) (later : IsHeldAt n e.store x.place)
    (same : written.reads m e.store x.place ≡ written.reads n e.store x.place)
    (v : Visit Tree ArgumentKey) (q : Request) (next : Reply → ℕ → rows.Row) (asks : IsVisitFor m (written.reads m e.store x.place) v q next) where
  shares : shared (name_of (written.reads n e.store x.place)) (arguments (written.reads n e.store x.place)) ≡ Some (asks_for q next)
  shares = subst (λ (g : Tree). shared (name_of g) (arguments g) ≡ Some (asks_for q next)) same asks.shares

  -- It was served.
  module _ (r : SharedReply Tree) (g : ℕ) (u : Told) (before : History) (follows : Follows t.engine t.history before)
      (named : All (λ a. IsSome (n a)) (reply_names names_of r))
      (serves : Serves term_by clause_key (text_of m) (text_of n) v r g t before u) where
    pub served_so : IsServed term_by clause_key (text_of m) (text_of n) v r g t before u
    served_so = as_served (text_of m) (text_of n) (renumbered q) v asks.asks r g t before u serves

    pub reply_so : (reply : Reply) × (served_now t.engine t.goals before (renumbered q) ≡ answers reply served_so.update) × Says term_by (text_of n) r reply
    reply_so = served_so.serves (renumbered q) asks.asks

    pub defined : (d : Reply) × (served_now t.engine t.goals before q ≡ answers d served_so.update) × (reply_so.0 ≡ renumbered_reply d)
    defined = unrenumbered (served_now t.engine t.goals before q) reply_so.0 served_so.update (sym reply_so.1 ∙ served_renumbered t.engine t.goals before q)

    pub reply_is : IsReplyTo n e.store x r q next defined.0
    reply_is =
        record {
          tells = tells;
          held = later;
          names = named;
          asked = shares;
          engine = t.engine;
          goals = t.goals;
          before = before;
          update = served_so.update;
          served = defined.1;
          says = subst (λ (y : Reply). Says term_by (text_of n) r y) defined.2 reply_so.2;
          text = text_of m;
          visit = v;
          asks = asks.asks;
          by_names = asks.by_names;
          suits = served_so.suits;
        }

    seen : called.IsAsked t before served_so.update u
    seen = record { follows = follows; told = served_so.told }

    pub asked_so : (f : Search) (a : Asked) → IsReplyLed n (counted_in e) x rest (next defined.0 e.next_variable) f a
        → ((o : Outcome) → IsAfter (counted_in e) f o → IsAfter e f o)
        → IsGoalAsked t e x rest n u f a
    unfolding with_row
    asked_so f (Ran o) led_so after =
        inr (
          record {
            before = before;
            update = served_so.update;
            asked = seen;
            request = q;
            reply = defined.0;
            served = defined.1;
            asking =
                λ s h view known. (
                  next_of e x rest at count n later next s,
                  taken_asks e x rest at count n later q next shares s h view known,
                  sym (led_so.0 s view known),
                );
          },
          after o led_so.1,
        )
    asked_so f (Refused error) led_so after = (
      record {
        before = before;
        update = served_so.update;
        asked = seen;
        request = q;
        reply = defined.0;
        served = defined.1;
        asking =
            λ s h view known. (
              next_of e x rest at count n later next s,
              taken_asks e x rest at count n later q next shares s h view known,
              (let k = node_of s.view e rest
                  in let g' = reads s.view e.store x.place
                  in ap (with_row (limits_in s e) (state_in s (counted_in e)) k (proc_of g') (arguments g')) led_so.0
                  ∙ ap (λ (y : Search). state_of s.view y (throwing (error_ball (term_by (text_of n) error) (proc_of g')) k.goals) s.output) (sym led_so.1)),
            );
      },
      led_so.2,
      led_so.1 ∙ ap (λ (y : Search). let z : Search = record e { inferences = y.inferences } in z) (sym led_so.1),
    )
    asked_so f (Waits on k) led_so after = absurd led_so

  -- It waits.
  pub held_up : (on : On) (g : ℕ) (u : Told) (before : History) → Follows t.engine t.history before → All (λ a. IsSome (n a)) (on_names on)
      → IsWaiting term_by clause_key (text_of m) (text_of n) v on g t before u → IsHeldUp t e x rest n u e on g
  held_up on g u before follows named w =
      record {
        before = before;
        follows = follows;
        request = q;
        asking = λ s h view known. (next_of e x rest at count n later next s, taken_asks e x rest at count n later q next shares s h view known);
        waiting =
            waiting_now (served_now t.engine t.goals before q)
            (sym (w.waiting (renumbered q) asks.asks) ∙ served_renumbered t.engine t.goals before q);
        awaits = sym (on_renumbered t.engine q) ∙ w.awaits (renumbered q) asks.asks;
        held = named;
        generation = w.generation;
        told = w.told;
        search = refl;
      }

  -- What was asked of the atoms.
  pub texts_asked : (old new : Option (List Chars)) → Gains (IsInAnswer term_by clause_key (text_of m) v t) old new → Gains (IsStateAsked m t e x) old new
  texts_asked old new =
      gains_weaker (IsInAnswer term_by clause_key (text_of m) v t) (IsStateAsked m t e x) old new
      (λ c a.
      let in_reply = stands_in (text_of m) (text_of m) (renumbered q) v asks.asks t a.before c a.stands
      in let is = unrenumbered (served_now t.engine t.goals a.before q) in_reply.reply in_reply.update (sym in_reply.served ∙ served_renumbered t.engine t.goals a.before q)
      in record {
        request = q;
        asking = λ s rest' h view known. (next_of e x rest' at count m held next s, taken_asks e x rest' at count m held q next asks.shares s h view known);
        before = a.before;
        follows = a.follows;
        handed =
            record {
              reply = is.0;
              update = in_reply.update;
              served = is.1;
              handed = handed_renumbered is.0 c (subst (λ (y : Reply). Contains (Rattle.world_api.specs.Asked.handed_texts y) c) is.2 in_reply.handed);
            };
      })
