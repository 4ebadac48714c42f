-- Lists of clauses stay open, and are open after a clause that was found.
use Rattle.std.proofs.Common.{◌≡◌, ◌≤◌, ℕ, ℤ, List, [], ◌∷◌, ◌++◌, length, Option, Some, None, Bool, true, false, ◌==◌, ◌||◌, codes, refl, sym, ap, ap₂, subst, ◌∙◌, arith, append-nil, append_assoc, length-append}
use Rattle.std.specs.Prelude.{IsSome}
use Rattle.std.specs.List.{All, Contains}
use Rattle.std.proofs.lemmas.Bool.{false≢true, eq-eqb}
use Rattle.std.proofs.lemmas.List.Elements.{All-cons, All-nil, Contains-append_left, Contains-push}
use Rattle.pl_term.specs.Tree.{Chars, Tree}
use Rattle.pl_model.specs.History.{Clause, History, Kind, Proc}
use Rattle.pl_model.specs.Predicates.{proc_of}
use Rattle.pl_model.specs.Database.{Stored, is_known}
use Rattle.pl_model.specs.Flags.{Unknown, raises, fails}
use Rattle.pl_model.specs.Requests.{call_clauses, listed}
use Rattle.pl_model.specs.Requests as requests
use Rattle.pl_model.specs.Service.{answers, clauses_for, entry_by, reads, serve, served_now, unknown_called}
use Rattle.pl_model.specs.SharedState.{state_at}
use Rattle.pl_model.proofs.StateLater.{state_later}
use Rattle.atom_api.specs.Names.{FixedStand, Names}
use Rattle.term_store.specs.ArgumentKeys.{clause_key}
use Rattle.term_store.specs.NameLaws.{names_are_told}
use Rattle.term_store.specs.NumberedNames.{neck, names_of, term_by}
use Rattle.term_store.specs.declared.argument_key.ArgumentKey.{ArgumentKey}
use Rattle.world_api.specs.declared.answer.Answer.{Answer}
use Rattle.world_api.specs.declared.answer.Answer.TheVariants.{Served, Waits, NeedsAtoms, Retry, Worn, Memory}
use Rattle.world_api.specs.declared.reply.Found.{Found}
use Rattle.world_api.specs.declared.reply.Reply.TheVariants.{Clauses}
use Rattle.world_api.specs.declared.visit.Procedure.{Procedure}
use Rattle.world_api.specs.declared.visit.Visit.{Visit}
use Rattle.world_api.specs.declared.visit.Visit.TheVariants.{Call, Next}
use Rattle.world_api.specs.Answers.{IsPlace, Visited, seen_as}
use Rattle.world_api.specs.Replies.{IsFront, Says}
use Rattle.world_api.specs.Texts.{Holds, text_of}
use Rattle.world_api.specs.Told.{Follows, Told, behind, clause_list, has_place}
use Rattle.world_api.specs.Visits.{IsGoal, proc_named}
use Rattle.world_api.proofs.NamedTerms.{neck_text, term_by-spelled}
use Rattle.hub_tests.specs.Open.{Grows, IsOpen, goal_by, key_by}
use Rattle.hub_tests.specs.Ready.{IsReady}

-- The goal

goal_names : (a : ℕ) (i : Option ℤ) → names_of (goal_by a i) ≡ neck ∷ a ∷ []
goal_names a None = refl
goal_names a (Some i) = refl

goal_key : (a : ℕ) (i : Option ℤ) → clause_key (goal_by a i) ≡ key_by i
goal_key a None = refl
goal_key a (Some i) = refl

abbrev pub procedure : ℕ → Procedure
procedure a = record { name = a; arity = 1 }

goal_proc : (m : Names) → FixedStand m → (a : ℕ) (i : Option ℤ) → proc_of (term_by (text_of m) (goal_by a i)) ≡ proc_named (text_of m) (procedure a)
goal_proc m stand a None = ap proc_of (term_by-spelled (text_of m) (neck_text m stand) (goal_by a None))
goal_proc m stand a (Some i) = ap proc_of (term_by-spelled (text_of m) (neck_text m stand) (goal_by a (Some i)))

pub goal_asked : (m : Names) → FixedStand m → (a : ℕ) (i : Option ℤ) → IsGoal term_by clause_key (text_of m) (procedure a) (key_by i) (term_by (text_of m) (goal_by a i))
goal_asked m stand a i = record { predicate = goal_proc m stand a i; kept = goal_by a i; stands = refl; key_is = goal_key a i }

pub is_place : (m : Names) → FixedStand m → (a : ℕ) (i : Option ℤ) (g place : ℕ) (t : Told) → IsOpen m a i g place t
    → IsPlace term_by clause_key (text_of m) (procedure a) (key_by i) g place t
is_place m stand a i g place t open_ = record { own = open_.own; goal = term_by (text_of m) (goal_by a i); asked = goal_asked m stand a i; among = open_.among }

-- what was held is held
pub still_held : (m n : Names) → Holds m n → (a : ℕ) → IsSome (m a) → IsSome (n a)
still_held m n grown a held = go (m a) refl held
  where
    go : (o : Option Chars) → m a ≡ o → IsSome o → IsSome (n a)
    go None e some_ = absurd (false≢true some_)
    go (Some t) e some_ = subst (λ (o : Option Chars). IsSome o) (sym (grown a t e)) refl

-- the goal reads the same when more is held
text_same : (m n : Names) → Holds m n → (a : ℕ) → IsSome (m a) → text_of n a ≡ text_of m a
text_same m n grown a held = go (m a) refl held
  where
    go : (o : Option Chars) → m a ≡ o → IsSome o → text_of n a ≡ text_of m a
    go None e some_ = absurd (false≢true some_)
    go (Some t) e some_ = ap (Rattle.world_api.specs.Texts.or_no_text a) (grown a t e ∙ sym e)

goal_same : (m n : Names) → FixedStand m → FixedStand n → Holds m n → (a : ℕ) (i : Option ℤ) → IsSome (m a) → term_by (text_of n) (goal_by a i) ≡ term_by (text_of m) (goal_by a i)
goal_same m n fixed_m fixed_n grown a i held =
    names_are_told (goal_by a i) (text_of n) (text_of m)
    (subst (All (λ x. text_of n x ≡ text_of m x)) (sym (goal_names a i))
    (All-cons (λ x. text_of n x ≡ text_of m x) neck (a ∷ []) (neck_text n fixed_n ∙ sym (neck_text m fixed_m))
    (All-cons (λ x. text_of n x ≡ text_of m x) a [] (text_same m n grown a held) (All-nil (λ x. text_of n x ≡ text_of m x)))))

-- Later

list_later : (goals : ℕ) (h later : History) (g : ℕ) (goal : Tree) → g ≤ length h → clause_list goals (h ++ later) g goal ≡ clause_list goals h g goal
list_later goals h later g goal within = ap (λ s. clauses_for s g goal) (state_later goals h later g within)

pub open_later : (m n : Names) → FixedStand m → FixedStand n → Holds m n → (a : ℕ) (i : Option ℤ) (g place : ℕ) (t u : Told) → IsSome (m a) → Grows t u
    → IsOpen m a i g place t → IsOpen n a i g place u
open_later m n fixed_m fixed_n grown a i g place t u held more open_ =
    record {
      own = more.gens g open_.own;
      within = (let w = open_.within in omega (arith, w, ap (length {A = Rattle.pl_model.specs.History.Entry}) more.history, length-append t.history more.later));
      among =
          ap₂ (λ k h. has_place place (clause_list k h g (term_by (text_of n) (goal_by a i)))) more.goals more.history
          ∙ ap (has_place place) (list_later t.goals t.history more.later g (term_by (text_of n) (goal_by a i)) open_.within)
          ∙ ap (λ x. has_place place (clause_list t.goals t.history g x)) (goal_same m n fixed_m fixed_n grown a i held)
          ∙ open_.among;
    }

-- A visit

gains_then : (old : Told) (before : History) (more : History) (gens : List ℕ) → Follows old.engine old.history before
    → Grows old (seen_as old (before ++ more) (old.gens ++ gens))
gains_then old before more gens follows =
    record {
      goals = refl;
      later = follows.later ++ more;
      history = ap (λ h. h ++ more) follows.grown ∙ append_assoc old.history follows.later more;
      gens = λ g h. Contains-append_left old.gens gens g h;
    }

looks_then : (old : Told) (before : History) → Follows old.engine old.history before → Grows old (seen_as old before old.gens)
looks_then old before follows = record { goals = refl; later = follows.later; history = follows.grown; gens = λ g h. h }

stays : (old : Told) → Grows old old
stays old = record { goals = refl; later = []; history = sym (append-nil old.history); gens = λ g h. h }

module _ (own : ℕ) (v : Visit Tree ArgumentKey) (ready : IsReady own v) (old_text new_text : ℕ → Chars) (old : Told) (before : History) (new : Told) where
  pub visit_grows : (answer : Answer Tree) → Visited term_by clause_key old_text new_text v answer old before new → Grows old new
  visit_grows (Served r g) h =
      let s = ready.plain old_text new_text r g old before new h.1 in
      subst (Grows old) (sym s.told) (gains_then old before (entry_by old.engine s.update) (length before ∷ []) h.0)
  visit_grows (Waits on g) h = subst (Grows old) (sym h.1.told) (looks_then old before h.0)
  visit_grows (NeedsAtoms p) h = subst (Grows old) (sym h) (stays old)
  visit_grows (Retry c) h = subst (Grows old) (sym h) (stays old)
  visit_grows (Worn x) h = subst (Grows old) (sym h) (stays old)
  visit_grows Memory h = subst (Grows old) (sym h) (stays old)

-- The first clause

itself : (n : ℕ) → (n == n) ≡ true
itself n = eq-eqb n n refl

first_among : (c : Stored Clause) (cs ss : List (Stored Clause)) → ss ≡ c ∷ cs → has_place c.place ss ≡ true
first_among c cs [] e = absurd (cc)
first_among c cs (s ∷ ss) e = ap (λ (l : List (Stored Clause)). has_place c.place l) e ∙ ap (λ q. q || has_place c.place cs) (itself c.place)

either : (a b : Bool) → b ≡ true → (a || b) ≡ true
either true b e = refl
either false b e = e

among_by : (b : Bool) (p : ℕ) (c s : Stored Clause) (cs ss : List (Stored Clause)) → (behind p ss ≡ c ∷ cs → has_place c.place ss ≡ true)
    → (elim b [ true ↦ ss | false ↦ behind p ss ]) ≡ c ∷ cs → has_place c.place (s ∷ ss) ≡ true
among_by true p c s cs ss ih e = either (s.place == c.place) (has_place c.place ss) (first_among c cs ss e)
among_by false p c s cs ss ih e = either (s.place == c.place) (has_place c.place ss) (ih e)

behind_among : (p : ℕ) (c : Stored Clause) (cs ss : List (Stored Clause)) → behind p ss ≡ c ∷ cs → has_place c.place ss ≡ true
behind_among p c cs [] e = absurd (cc)
behind_among p c cs (s ∷ ss) e = among_by (s.place == p) p c s cs ss (λ f. behind_among p c cs ss f) e

unknown_lists : (u : Unknown) (p : Proc) (c : Stored Clause) (cs : List (Stored Clause)) (o : Option Kind) → unknown_called u p ≡ answers (listed (c ∷ cs)) o → ⊥
unknown_lists raises p c cs o e = cc
unknown_lists fails p c cs o e = cc

call_lists : (e goals : ℕ) (h : History) (goal : Tree) (c : Stored Clause) (cs : List (Stored Clause)) (o : Option Kind)
    → served_now e goals h (call_clauses goal) ≡ answers (listed (c ∷ cs)) o → clause_list goals h (length h) goal ≡ c ∷ cs
unfolding serve
call_lists e goals h goal c cs o is = let s = state_at goals h (length h) in go (is_known s.database (proc_of goal)) is
  where
    go : (b : Bool)
        → Rattle.std.proofs.Common.cond b (reads (listed (clause_list goals h (length h) goal))) (unknown_called (state_at goals h (length h)).flags.unknown (proc_of goal)) ≡ answers (listed (c ∷ cs)) o
        → clause_list goals h (length h) goal ≡ c ∷ cs
    go true same = cc
    go false same = absurd (unknown_lists (state_at goals h (length h)).flags.unknown (proc_of goal) c cs o same)

-- what says that a clause was found is a list that begins with it
lists_one : (text : ℕ → Chars) (f : Found Tree) (reply : requests.Reply) → Says term_by text (Clauses (Some f)) reply
    → (c : Stored Clause) × (cs : List (Stored Clause)) × (reply ≡ listed (c ∷ cs)) × (f.place ≡ c.place)
lists_one text f (listed []) says = absurd says
lists_one text f (listed (c ∷ cs)) says = (c, cs, refl, says.place)
lists_one text f (requests.standing a b) says = absurd says
lists_one text f (requests.procedures a) says = absurd says
lists_one text f (requests.flags a) says = absurd says
lists_one text f (requests.named a) says = absurd says
lists_one text f (requests.message a) says = absurd says
lists_one text f requests.no_message says = absurd says
lists_one text f (requests.status a) says = absurd says
lists_one text f requests.done says = absurd says
lists_one text f requests.gone says = absurd says
lists_one text f (requests.refused a) says = absurd says

one_list : (f g : Option (Found Tree)) → Clauses f ≡ Clauses g → f ≡ g
one_list f g e = cc

module _ (m n : Names) (fixed_m : FixedStand m) (fixed_n : FixedStand n) (grown : Holds m n) (a : ℕ) (i : Option ℤ) (held : IsSome (m a)) (old : Told) (before : History) (new : Told) where
  abbrev goal_then : Tree
  goal_then = term_by (text_of m) (goal_by a i)

  -- WHAT A CALL FINDS is one of its list
  pub call_open : (f : Found Tree) (g : ℕ) → Visited term_by clause_key (text_of m) (text_of n) (Call (procedure a) (key_by i)) (Served (Clauses (Some f)) g) old before new
      → IsOpen n a i g f.place new
  call_open f g h =
      let s = h.1 in
      let served = s.serves (call_clauses goal_then) (goal_then, goal_asked m fixed_m a i, refl) in
      let one = lists_one (text_of n) f served.0 served.2 in
      let list = call_lists old.engine old.goals before goal_then one.0 one.1 s.update (served.1 ∙ ap (λ r. answers r s.update) one.2) in
      let later : new.history ≡ before ++ entry_by old.engine s.update = ap (λ (t : Told). t.history) s.told in
      let gens : new.gens ≡ old.gens ++ length before ∷ [] = ap (λ (t : Told). t.gens) s.told in
      let goals : new.goals ≡ old.goals = ap (λ (t : Told). t.goals) s.told in
      record {
        own = subst (λ l. Contains l g) (sym gens) (subst (λ k. Contains (old.gens ++ length before ∷ []) k) (sym s.generation) (Contains-push old.gens (length before)));
        within = (let w = s.generation in omega (arith, w, ap (length {A = Rattle.pl_model.specs.History.Entry}) later, length-append before (entry_by old.engine s.update)));
        among =
            ap₂ (λ k l. has_place f.place (clause_list k l g (term_by (text_of n) (goal_by a i)))) goals later
            ∙ ap (λ k. has_place f.place (clause_list old.goals (before ++ entry_by old.engine s.update) k (term_by (text_of n) (goal_by a i)))) s.generation
            ∙ ap (has_place f.place) (list_later old.goals before (entry_by old.engine s.update) (length before) (term_by (text_of n) (goal_by a i)) (omega arith))
            ∙ ap (λ x. has_place f.place (clause_list old.goals before (length before) x)) (goal_same m n fixed_m fixed_n grown a i held)
            ∙ ap (λ p. has_place p (clause_list old.goals before (length before) goal_then)) one.3
            ∙ first_among one.0 one.1 (clause_list old.goals before (length before) goal_then) list;
      }

  next_among : (g place : ℕ) (f : Found Tree) (ss : List (Stored Clause)) → IsFront term_by (text_of n) (Some f) (behind place ss) → has_place f.place ss ≡ true
  next_among g place f ss front = go (behind place ss) refl front
    where
      go : (bs : List (Stored Clause)) → behind place ss ≡ bs → IsFront term_by (text_of n) (Some f) bs → has_place f.place ss ≡ true
      go [] e first = absurd first
      go (c ∷ cs) e first = ap (λ p. has_place p ss) first.place ∙ behind_among place c cs ss e

  -- WHAT THE NEXT VISIT FINDS is one of the same list
  pub next_open : (g place : ℕ) (f : Found Tree) (k : ℕ) → IsOpen m a i g place old
      → Visited term_by clause_key (text_of m) (text_of n) (Next (procedure a) (key_by i) g place) (Served (Clauses (Some f)) k) old before new
      → IsOpen n a i k f.place new
  next_open g place f k open_ h =
      let s = h.1 in
      let found = s.front goal_then (goal_asked m fixed_m a i) in
      let same : Some f ≡ found.0 = one_list (Some f) found.0 found.1 in
      let front : IsFront term_by (text_of n) (Some f) (behind place (clause_list old.goals before g goal_then)) = subst (λ o. IsFront term_by (text_of n) o (behind place (clause_list old.goals before g goal_then))) (sym same) found.2 in
      let later : new.history ≡ before = ap (λ (t : Told). t.history) s.told in
      let gens : new.gens ≡ old.gens = ap (λ (t : Told). t.gens) s.told in
      let goals : new.goals ≡ old.goals = ap (λ (t : Told). t.goals) s.told in
      let le : g ≤ length before = (let w = open_.within in omega (arith, w, ap (length {A = Rattle.pl_model.specs.History.Entry}) h.0.grown, length-append old.history h.0.later)) in
      record {
        own = subst (λ l. Contains l k) (sym gens) (subst (λ x. Contains old.gens x) (sym s.generation) open_.own);
        within = (let w = s.generation in omega (arith, w, le, ap (length {A = Rattle.pl_model.specs.History.Entry}) later));
        among =
            ap₂ (λ x l. has_place f.place (clause_list x l k (term_by (text_of n) (goal_by a i)))) goals later
            ∙ ap (λ x. has_place f.place (clause_list old.goals before x (term_by (text_of n) (goal_by a i)))) s.generation
            ∙ ap (λ x. has_place f.place (clause_list old.goals before g x)) (goal_same m n fixed_m fixed_n grown a i held)
            ∙ next_among g place f (clause_list old.goals before g goal_then) front;
      }
