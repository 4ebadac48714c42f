-- What a reply to a goal's request is, for its row.
use Rattle.std.proofs.Common.{◌≡◌, ℕ, List, length, Option, refl, sym, ap, subst, ◌∙◌}
use Rattle.std.specs.List.{All}
use Rattle.std.proofs.lemmas.List.Elements.{All-from_recursion}
use Rattle.std.proofs.lemmas.Option.{same_Some}
use Rattle.pl_term.specs.Tree.{Chars, Tree, Trees}
use Rattle.pl_model.specs.BuiltinRows.{Row}
use Rattle.pl_model.specs.Flags.{Flags, listed_flags}
use Rattle.pl_model.specs.History.{Kind}
use Rattle.pl_model.specs.Requests.{Request, Reply, all_flags, flags, read_operators, refused}
use Rattle.pl_model.specs.Service.{answers, serve}
use Rattle.pl_model.specs.SharedState.{SharedState, state_at}
use Rattle.pl_model.specs.Terms.{arguments}
use Rattle.atom_api.specs.Names.{Names}
use Rattle.term_store.specs.ArgumentKeys.{clause_key}
use Rattle.term_store.specs.declared.argument_key.ArgumentKey.{ArgumentKey}
use Rattle.term_store.specs.Contents.{Contents}
use Rattle.term_store.specs.NumberedNames.{term_by}
use Rattle.world_api.specs.Replies.{HasNames, Suits}
use Rattle.world_api.specs.Visits.{Asks}
use Rattle.world_api.specs.declared.visit.Visit.{Visit}
use Rattle.world_api.specs.declared.visit.Visit.TheVariants.{Look, ReadOperators, Call, Inspect, Retract, Clear, Next, Erase, AssertFirst, AssertLast, Consult, Abolish, MakeDynamic, AllProcedures, PutOperators, AllOperators, PutFlag, AllFlags, OwnName, CreateThread, StartGoal, JoinThread, SendMessage, GetMessage, PeekMessage, CreateQueue, DestroyQueue, CollectAtoms, CollectClauses}
use Rattle.world_api.specs.declared.reply.Reply.{Reply as WorldReply}
use Rattle.world_builtins.specs.Spelling.{reads}
use Rattle.shared_builtins.specs.declared.goal.StateGoal.{StateGoal}
use Rattle.shared_builtins.specs.declared.preds.StatePred.{StatePred}
use Rattle.shared_builtins.specs.declared.preds.StatePred.TheVariants.{One, Two, Three}
use Rattle.shared_builtins.specs.declared.preds.StateOne.{StateOne}
use Rattle.shared_builtins.specs.declared.preds.StateOne.TheVariants as one
use Rattle.shared_builtins.specs.declared.preds.StateTwo.{StateTwo}
use Rattle.shared_builtins.specs.declared.preds.StateTwo.TheVariants as two
use Rattle.shared_builtins.specs.declared.preds.StateThree.{StateThree}
use Rattle.shared_builtins.specs.declared.preds.StateThree.TheVariants as three
use Rattle.shared_builtins.specs.declared.following.Following.TheVariants as by
use Rattle.shared_builtins.specs.Following.{IsErrorOf, following_of, following_one, following_three, following_two, row_by, with_answer}
use Rattle.shared_builtins.specs.Goals.{IsStateGoal}
use Rattle.shared_builtins.specs.Replies.{IsConstantTerm, IsReplyFor, IsReplyTo}
use Rattle.shared_builtins.specs.Shared.{AsksByNames, renumbered}
use Rattle.shared_builtins.proofs.AskedRows.{IsRequestThree, IsRequestTwo, one_asked, one_error, three_asked, three_error, two_asked, two_error}
use Rattle.shared_builtins.proofs.GoalTerms.{one_tree, three_tree, two_tree}

-- Only current_prolog_flag/2 follows a table of flags, and it asks for all of them.

constants : (f : Flags) → All (λ v. IsConstantTerm v.1) (listed_flags f)
constants f = All-from_recursion (λ (v : Chars × Tree). IsConstantTerm v.1) (listed_flags f) (tt, (tt, (tt, (tt, (tt, (tt, tt))))))

told_flags : (e : ℕ) (s : SharedState) (g : ℕ) (fs : List (Chars × Tree)) (k : Option Kind) → serve e all_flags s g ≡ answers (flags fs) k → All (λ v. IsConstantTerm v.1) fs
unfolding serve
told_flags e s g fs k h = let same : listed_flags s.flags ≡ fs = cc in subst (All (λ v. IsConstantTerm v.1)) same (constants s.flags)

one_flags : (p : StateOne) → following_one p ≡ by.Flags → ⊥
one_flags one.Asserta e = cc
one_flags one.Assertz e = cc
one_flags one.Abolish e = cc
one_flags one.Dynamic e = cc
one_flags one.Declares e = cc
one_flags one.CurrentPredicate e = cc
one_flags one.ThreadSelf e = cc
one_flags one.GetOwn e = cc
one_flags one.PeekOwn e = cc
one_flags one.CreateQueue e = cc
one_flags one.DestroyQueue e = cc

two_flags : (p : StateTwo) (t u : Tree) (q : Request) (e : ℕ) (s : SharedState) (g : ℕ) (fs : List (Chars × Tree)) (k : Option Kind) → following_two p ≡ by.Flags → IsRequestTwo p t u q
    → serve e q s g ≡ answers (flags fs) k → All (λ v. IsConstantTerm v.1) fs
two_flags two.SetFlag t u q e s g fs k is r h = absurd cc
two_flags two.CurrentFlag t u q e s g fs k is r h = told_flags e s g fs k (ap (λ q. serve e q s g) (sym r) ∙ h)
two_flags two.CreateThread t u q e s g fs k is r h = absurd cc
two_flags two.JoinThread t u q e s g fs k is r h = absurd cc
two_flags two.Send t u q e s g fs k is r h = absurd cc
two_flags two.Get t u q e s g fs k is r h = absurd cc
two_flags two.Peek t u q e s g fs k is r h = absurd cc

three_flags : (p : StateThree) → following_three p ≡ by.Flags → ⊥
three_flags three.Op e = cc
three_flags three.CurrentOp e = cc
three_flags three.CreateThread e = cc

-- Only current_op/3 follows the operators, and it asks for them by their names.

one_operators : (p : StateOne) → following_one p ≡ by.Operators → ⊥
one_operators one.Asserta e = cc
one_operators one.Assertz e = cc
one_operators one.Abolish e = cc
one_operators one.Dynamic e = cc
one_operators one.Declares e = cc
one_operators one.CurrentPredicate e = cc
one_operators one.ThreadSelf e = cc
one_operators one.GetOwn e = cc
one_operators one.PeekOwn e = cc
one_operators one.CreateQueue e = cc
one_operators one.DestroyQueue e = cc

two_operators : (p : StateTwo) → following_two p ≡ by.Operators → ⊥
two_operators two.SetFlag e = cc
two_operators two.CurrentFlag e = cc
two_operators two.CreateThread e = cc
two_operators two.JoinThread e = cc
two_operators two.Send e = cc
two_operators two.Get e = cc
two_operators two.Peek e = cc

three_operators : (p : StateThree) (t u v : Tree) (q : Request) → following_three p ≡ by.Operators → IsRequestThree p t u v q → q ≡ read_operators
three_operators three.Op t u v q e r = absurd cc
three_operators three.CurrentOp t u v q e r = r
three_operators three.CreateThread t u v q e r = absurd cc

module _ (text : ℕ → Chars) (reply : WorldReply Tree) where
  suits_names : (v : Visit Tree ArgumentKey) → Asks term_by clause_key text v read_operators → AsksByNames v → Suits v reply → HasNames reply
  suits_names Look asks by_names suits = absurd by_names
  suits_names ReadOperators asks by_names suits = absurd by_names
  suits_names (Call p k) asks by_names suits = let is = asks.2 in absurd cc
  suits_names (Inspect p k) asks by_names suits = let is = asks.2 in absurd cc
  suits_names (Retract p k) asks by_names suits = let is = asks.2 in absurd cc
  suits_names (Clear p k) asks by_names suits = let is = asks.2 in absurd cc
  suits_names (Next p k g place) asks by_names suits = absurd asks
  suits_names (Erase place) asks by_names suits = absurd cc
  suits_names (AssertFirst c) asks by_names suits = absurd cc
  suits_names (AssertLast c) asks by_names suits = absurd cc
  suits_names (Consult c) asks by_names suits = absurd cc
  suits_names (Abolish p) asks by_names suits = absurd cc
  suits_names (MakeDynamic ps) asks by_names suits = absurd cc
  suits_names AllProcedures asks by_names suits = absurd cc
  suits_names (PutOperators p k fs) asks by_names suits = absurd cc
  suits_names AllOperators asks by_names suits = suits
  suits_names (PutFlag f v) asks by_names suits = absurd cc
  suits_names AllFlags asks by_names suits = absurd cc
  suits_names OwnName asks by_names suits = absurd cc
  suits_names (CreateThread t as₁ e) asks by_names suits = absurd cc
  suits_names (StartGoal n t) asks by_names suits = absurd cc
  suits_names (JoinThread t) asks by_names suits = absurd cc
  suits_names (SendMessage x t) asks by_names suits = absurd cc
  suits_names (GetMessage x t) asks by_names suits = absurd cc
  suits_names (PeekMessage x t) asks by_names suits = absurd cc
  suits_names (CreateQueue a) asks by_names suits = absurd cc
  suits_names (DestroyQueue x) asks by_names suits = absurd cc
  suits_names CollectAtoms asks by_names suits = absurd cc
  suits_names CollectClauses asks by_names suits = absurd cc

module _ (m : Names) (s : Contents) (x : StateGoal) (reply : WorldReply Tree) (q : Request) (n : Reply → ℕ → Row) (r : Reply) (is : IsStateGoal s x) (to : IsReplyTo m s x reply q n r) where
  abbrev us : Trees
  us = arguments (reads m s x.place)

  -- The row, and the error of a refusal.
  record KnownAt (p : StatePred) (us : Trees) : Type 0 where
    row : n ≡ row_by (following_of p) us (with_answer p us)
    refuses : (e : Tree) → r ≡ refused e → IsErrorOf p us e
    values : following_of p ≡ by.Flags → (fs : List (Chars × Tree)) → r ≡ flags fs → All (λ v. IsConstantTerm v.1) fs
    named : following_of p ≡ by.Operators → HasNames reply

  abbrev Known : StatePred → Type 0
  Known p = KnownAt p us

  by_names : q ≡ read_operators → HasNames reply
  by_names e =
      suits_names to.text reply to.visit (subst (λ z. Asks term_by clause_key to.text to.visit (renumbered z)) e to.asks) to.by_names to.suits

  served_as : (a : Reply) → r ≡ a → serve to.engine q (state_at to.goals to.before (length to.before)) (length to.before) ≡ answers a to.update
  served_as a is = to.served ∙ ap (λ r. answers r to.update) is

  known : (p : StatePred) → x.pred ≡ p → Known p
  known (One p) e =
      let t = one_tree m to.tells.naming.stands s x is p e in
      let a = one_asked p t.0 q n (same_Some _ _ (sym t.1.0 ∙ to.asked)) in
      subst (λ us. KnownAt (One p) us) (sym t.1.1)
      (record { row = a.1; refuses = λ y is. one_error p t.0 q to.engine _ _ y to.update a.0 (served_as (refused y) is); values = λ e. absurd (one_flags p e); named = λ e. absurd (one_operators p e) })
  known (Two p) e =
      let t = two_tree m to.tells.naming.stands s x is p e in
      let a = two_asked p t.0 t.1 q n (same_Some _ _ (sym t.2 ∙ to.asked)) in
      subst (λ us. KnownAt (Two p) us) (sym t.3)
      (record { row = a.1; refuses = λ y is. two_error p t.0 t.1 q to.engine _ _ y to.update a.0 (served_as (refused y) is); values = λ e fs is. two_flags p t.0 t.1 q to.engine _ _ fs to.update e a.0 (served_as (flags fs) is); named = λ e. absurd (two_operators p e) })
  known (Three p) e =
      let t = three_tree m to.tells.naming.stands s x is p e in
      let a = three_asked p t.0 t.1 t.2 q n (same_Some _ _ (sym t.3 ∙ to.asked)) in
      subst (λ us. KnownAt (Three p) us) (sym t.4)
      (record { row = a.1; refuses = λ y is. three_error p t.0 t.1 t.2 q to.engine _ _ y to.update a.0 (served_as (refused y) is); values = λ e. absurd (three_flags p e); named = λ e. by_names (three_operators p t.0 t.1 t.2 q e a.0) })

  pub reply_for : IsReplyFor m s x reply r
  reply_for =
      record { tells = to.tells; held = to.held; names = to.names; says = to.says; refuses = (known x.pred refl).refuses; values = (known x.pred refl).values; named = (known x.pred refl).named }

  pub row_for : n ≡ row_by (following_of x.pred) us (with_answer x.pred us)
  row_for = (known x.pred refl).row
