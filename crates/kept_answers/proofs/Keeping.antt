-- An answer that is kept answers the same request again.
use Rattle.std.proofs.Common.{◌≡◌, ◌≢◌, ℕ, List, [], ◌∷◌, ◌++◌, length, Option, Some, None, IsSome, Bool, refl, sym, ap, ap₂, subst, ◌∙◌, append-nil, arith}
use Rattle.std.specs.Option.{option_map}
use Rattle.std.specs.List.{All}
use Rattle.std.proofs.lemmas.Bool.{false≢true}
use Rattle.std.proofs.lemmas.List.Elements.{All-cons, All-head, All-nil, All-tail, All-weaker}
use Rattle.pl_term.specs.Tree.{Chars, Tree}
use Rattle.pl_model.specs.History.{Clause, History, Kind}
use Rattle.pl_model.specs.Database.{Stored}
use Rattle.pl_model.specs.Requests.{Request, call_clauses, standing, listed, procedures, flags, named, message, no_message, status, done, gone, refused}
use Rattle.pl_model.specs.Requests as requests
use Rattle.pl_model.specs.Service as Service
use Rattle.pl_model.specs.Service.{answers, waits, entry_by, served_now}
use Rattle.pl_model.specs.SharedState.{state_at}
use Rattle.atom_api.specs.Names.{Names}
use Rattle.term_store.specs.ArgumentKeys.{clause_key, key_atoms}
use Rattle.term_store.specs.NameLaws.{names_are_told}
use Rattle.term_store.specs.NumberedNames.{names_of, neck, term_by}
use Rattle.term_store.specs.declared.argument_key.ArgumentKey.{ArgumentKey}
use Rattle.world_api.specs.declared.asking.After.{After}
use Rattle.world_api.specs.declared.asking.Asked.{Asked}
use Rattle.world_api.specs.declared.reply.Found.{Found}
use Rattle.world_api.specs.declared.reply.Reply.{Reply}
use Rattle.world_api.specs.declared.reply.Reply.TheVariants.{Clauses}
use Rattle.world_api.specs.declared.visit.Procedure.{Procedure}
use Rattle.world_api.specs.declared.visit.Visit.TheVariants.{Call}
use Rattle.world_api.specs.Answers.{IsNext, IsServed, Serves}
use Rattle.world_api.specs.Replies.{IsFirst, IsFront, Says, follows_some, found_names}
use Rattle.world_api.specs.Texts.{Holds, or_no_text, text_of}
use Rattle.world_api.specs.Told.{Told, behind, clause_list}
use Rattle.world_api.specs.Visits.{Asks, IsGoal, clause_in, visit_by}
use Rattle.kept_answers.specs.Answered.{Again, IsAnswer, IsGiven, IsKept, IsNaming, Row, first_row, found_row, listed_in, rows_for, told}
use Rattle.kept_answers.proofs.Goals.{any_engine, asked_there, lists_same, no_update, same_excluded, same_proc, served_same}

-- Parts of a list
all_left : (P : ℕ → Type 0) (xs ys : List ℕ) → All P (xs ++ ys) → All P xs
all_left P [] ys all = All-nil P
all_left P (x ∷ xs) ys all = All-cons P x xs (All-head P x (xs ++ ys) all) (all_left P xs ys (All-tail P x (xs ++ ys) all))

all_right : (P : ℕ → Type 0) (xs ys : List ℕ) → All P (xs ++ ys) → All P ys
all_right P [] ys all = all
all_right P (x ∷ xs) ys all = all_right P xs ys (All-tail P x (xs ++ ys) all)

pub all_both : (P Q R : ℕ → Type 0) → ((x : ℕ) → P x → Q x → R x) → (xs : List ℕ) → All P xs → All Q xs → All R xs
all_both P Q R give [] ps qs = All-nil R
all_both P Q R give (x ∷ xs) ps qs =
    All-cons R x xs (give x (All-head P x xs ps) (All-head Q x xs qs)) (all_both P Q R give xs (All-tail P x xs ps) (All-tail Q x xs qs))

-- What is found says the same by the texts of another map
first_told : (text other : ℕ → Chars) (f : Found Tree) (c : Stored Clause) (cs : List (Stored Clause)) → term_by text f.clause ≡ term_by other f.clause
    → IsFirst term_by text f c cs → IsFirst term_by other f c cs
first_told text other f c cs same is = record { clause = ap clause_in (sym same) ∙ is.clause; place = is.place; more = is.more }

pub front_told : (text other : ℕ → Chars) (f : Option (Found Tree)) (cs : List (Stored Clause)) → All (λ x. text x ≡ other x) (found_names names_of f)
    → IsFront term_by text f cs → IsFront term_by other f cs
front_told text other None [] all is = is
front_told text other None (c ∷ cs) all is = is
front_told text other (Some f) [] all is = is
front_told text other (Some f) (c ∷ cs) all is = first_told text other f c cs (names_are_told f.clause text other all) is

says_told : (text other : ℕ → Chars) (f : Option (Found Tree)) (r : requests.Reply) → All (λ x. text x ≡ other x) (found_names names_of f)
    → Says term_by text (Clauses f) r → Says term_by other (Clauses f) r
says_told text other f (standing t q) all is = is
says_told text other f (listed cs) all is = front_told text other f cs all is
says_told text other f (procedures ps) all is = is
says_told text other f (flags fs) all is = is
says_told text other f (named t) all is = is
says_told text other f (message t) all is = is
says_told text other f no_message all is = is
says_told text other f (status t) all is = is
says_told text other f done all is = is
says_told text other f gone all is = is
says_told text other f (refused t) all is = is

-- What is found, as the first of a list
front_row : (text : ℕ → Chars) (f : Option (Found Tree)) (cs : List (Stored Clause)) → IsFront term_by text f cs → first_row cs ≡ found_row text f
front_row text None [] is = refl
front_row text None (c ∷ cs) is = absurd is
front_row text (Some f) [] is = absurd is
front_row text (Some f) (c ∷ cs) is =
    ap₂ (λ (x : Clause) (r : ℕ × Bool). Some (x, r)) (sym is.clause) (ap₂ (λ (n : ℕ) (b : Bool). (n, b)) (sym is.place) (sym is.more))

reply_row : (text : ℕ → Chars) (f : Option (Found Tree)) (r : requests.Reply) → Says term_by text (Clauses f) r
    → option_map first_row (listed_in (answers r None)) ≡ Some (found_row text f)
reply_row text f (standing t q) is = absurd is
reply_row text f (listed cs) is = ap Some (front_row text f cs is)
reply_row text f (procedures ps) is = absurd is
reply_row text f (flags fs) is = absurd is
reply_row text f (named t) is = absurd is
reply_row text f (message t) is = absurd is
reply_row text f no_message is = absurd is
reply_row text f (status t) is = absurd is
reply_row text f done is = absurd is
reply_row text f gone is = absurd is
reply_row text f (refused t) is = absurd is

abbrev row_or : Row → Option Row → Row
row_or d None = d
row_or d (Some r) = r

back_first : (text : ℕ → Chars) (f : Found Tree) (c : Stored Clause) (cs : List (Stored Clause))
    → (let l : Option Row = Some (c.clause, (c.place, follows_some cs)) in let r : Option Row = Some (clause_in (term_by text f.clause), (f.place, f.more)) in l ≡ r)
    → IsFirst term_by text f c cs
back_first text f c cs e =
    let is : (c.clause, (c.place, follows_some cs)) ≡ (clause_in (term_by text f.clause), (f.place, f.more)) = ap (row_or (c.clause, (c.place, follows_some cs))) e in
    record { clause = sym (ap (λ (r : Row). r.0) is); place = sym (ap (λ (r : Row). r.1.0) is); more = sym (ap (λ (r : Row). r.1.1) is) }

front_back : (text : ℕ → Chars) (f : Option (Found Tree)) (cs : List (Stored Clause)) → first_row cs ≡ found_row text f → IsFront term_by text f cs
front_back text None [] e = tt
front_back text None (c ∷ cs) e = absurd (cc)
front_back text (Some f) [] e = absurd (cc)
front_back text (Some f) (c ∷ cs) e = back_first text f c cs e

-- A REPLY with that list
abbrev Replies : (ℕ → Chars) → Option (Found Tree) → Service.Served → Type 0
Replies text f s = (reply : requests.Reply) × (s ≡ answers reply None) × Says term_by text (Clauses f) reply

some_front : (text : ℕ → Chars) (f : Option (Found Tree)) (cs : List (Stored Clause)) → (let l : Option (Option Row) = Some (first_row cs) in l ≡ Some (found_row text f)) → IsFront term_by text f cs
some_front text f cs e = front_back text f cs (cc)

replies : (text : ℕ → Chars) (f : Option (Found Tree)) (s : Service.Served) → option_map first_row (listed_in s) ≡ Some (found_row text f) → Replies text f s
replies text f (answers (listed cs) None) e = (listed cs, refl, some_front text f cs e)
replies text f (answers (listed cs) (Some u)) e = absurd (cc)
replies text f (answers (standing t q) u) e = absurd (cc)
replies text f (answers (procedures ps) u) e = absurd (cc)
replies text f (answers (flags fs) u) e = absurd (cc)
replies text f (answers (named t) u) e = absurd (cc)
replies text f (answers (message t) u) e = absurd (cc)
replies text f (answers no_message u) e = absurd (cc)
replies text f (answers (status t) u) e = absurd (cc)
replies text f (answers done u) e = absurd (cc)
replies text f (answers gone u) e = absurd (cc)
replies text f (answers (refused t) u) e = absurd (cc)
replies text f waits e = absurd (cc)

-- WHAT IS KEPT is answered again, by the texts that are held
asked_again : (goals : ℕ) (h : History) (p : Procedure) (k : ArgumentKey) (f : Option (Found Tree)) (n : Names)
    → ((goal : Tree) → IsGoal term_by clause_key (text_of n) p k goal → option_map first_row (rows_for goals h None goal) ≡ Some (found_row (text_of n) f))
    → (e : ℕ) (q : Request) → Asks term_by clause_key (text_of n) (Call p k) q → Replies (text_of n) f (served_now e goals h q)
asked_again goals h p k f n rows e q (goal, asked, is) =
    let t = replies (text_of n) f (served_now 0 goals h (call_clauses goal)) (rows goal asked) in
    (t.0, ap (λ (x : Request). served_now e goals h x) is ∙ (any_engine e 0 (length h) (state_at goals h (length h)) goal ∙ t.1), t.2)

pub gives : (goals : ℕ) (h : History) (p : Procedure) (k : ArgumentKey) (af : Option After) (f : Option (Found Tree)) (n : Names) → IsNaming n
    → IsKept goals h (record { procedure = p; first = k; after = af }) f n → Again goals h (record { procedure = p; first = k; after = af }) f n
gives goals h p k None f n naming kept e gens =
    record {
      generation = refl;
      update = None;
      serves = asked_again goals h p k f n (λ goal asked. kept.again n naming (λ i d lt. refl) goal asked) e;
      suits = tt;
      told = ap (λ (x : History). told e goals x (gens ++ length h ∷ [])) (sym (append-nil h));
    }
gives goals h p k (Some x) f n naming kept e gens =
    record {
      generation = refl;
      front = λ goal asked. (f, refl, some_front (text_of n) f (behind x.place (clause_list goals h x.generation goal)) (kept.again n naming (λ i d lt. refl) goal asked));
      told = refl;
    }

held_by : (v m : Names) (x : ℕ) (o : Option Chars) → v x ≡ o → IsSome o → Holds v m → v x ≡ m x
held_by v m x None is some holds = absurd (false≢true some)
held_by v m x (Some t) is some holds = is ∙ sym (holds x t is)

pub held_same : (v m : Names) (x : ℕ) → IsSome (v x) → Holds v m → v x ≡ m x
held_same v m x some holds = held_by v m x (v x) refl some holds

-- THE MAPS at hand: v0 and w0 are what the engine held before and after it was answered, m what it holds now
module _ (p : Procedure) (k : ArgumentKey) (f : Option (Found Tree)) (v0 w0 : Names) (nv0 : IsNaming v0) (holds0 : Holds v0 w0)
    (held0 : All (λ x. IsSome (v0 x)) (p.name ∷ key_atoms k)) (plain : p.name ≢ neck)
    (m : Names) (nm : IsNaming m) (same : All (λ x. m x ≡ w0 x) ((p.name ∷ key_atoms k) ++ found_names names_of f)) where
  abbrev own : List ℕ
  own = p.name ∷ key_atoms k

  -- what is asked for has the texts that it had
  same_one : (x : ℕ) → IsSome (v0 x) → m x ≡ w0 x → text_of m x ≡ text_of v0 x
  same_one x some is = ap (or_no_text x) (is ∙ sym (held_same v0 w0 x some holds0))

  same_own : All (λ x. text_of m x ≡ text_of v0 x) own
  same_own =
      all_both (λ x. IsSome (v0 x)) (λ x. m x ≡ w0 x) (λ x. text_of m x ≡ text_of v0 x) same_one own held0
      (all_left (λ x. m x ≡ w0 x) own (found_names names_of f) same)

  name : text_of m p.name ≡ text_of v0 p.name
  name = All-head (λ x. text_of m x ≡ text_of v0 x) p.name (key_atoms k) same_own

  keys : All (λ x. text_of m x ≡ text_of v0 x) (key_atoms k)
  keys = All-tail (λ x. text_of m x ≡ text_of v0 x) p.name (key_atoms k) same_own

  -- and so has what is found
  same_found : All (λ x. text_of w0 x ≡ text_of m x) (found_names names_of f)
  same_found =
      All-weaker (λ x. m x ≡ w0 x) (λ x. text_of w0 x ≡ text_of m x) (λ x is. ap (or_no_text x) (sym is)) (found_names names_of f)
      (all_right (λ x. m x ≡ w0 x) own (found_names names_of f) same)

  abbrev goal_then : (goal : Tree) → IsGoal term_by clause_key (text_of m) p k goal → Tree
  goal_then goal asked = term_by (text_of v0) asked.kept

  -- A CALL
  module _ (old new : Told) (before : History) (g : ℕ) (served : IsServed term_by clause_key (text_of v0) (text_of w0) (Call p k) (Clauses f) g old before new) where
    abbrev h : History
    h = new.history

    grown : h ≡ before ++ entry_by old.engine served.update
    grown = ap (λ (t : Told). t.history) served.told

    goals_are : new.goals ≡ old.goals
    goals_are = ap (λ (t : Told). t.goals) served.told

    module _ (goal : Tree) (asked : IsGoal term_by clause_key (text_of m) p k goal) where
      there : IsGoal term_by clause_key (text_of v0) p k (goal_then goal asked)
      there = asked_there m v0 nm nv0 p k name keys plain goal asked

      then_ : (reply : requests.Reply) × (served_now old.engine old.goals before (call_clauses (goal_then goal asked)) ≡ answers reply served.update) × Says term_by (text_of w0) (Clauses f) reply
      then_ = served.serves (call_clauses (goal_then goal asked)) (goal_then goal asked, there, refl)

      none : served.update ≡ None
      none = no_update old.engine (length before) (state_at old.goals before (length before)) (goal_then goal asked) then_.0 served.update then_.1

      same_history : h ≡ before
      same_history = grown ∙ (ap (λ (u : Option Kind). before ++ entry_by old.engine u) none ∙ append-nil before)

      alike : served_now old.engine old.goals before (call_clauses (goal_then goal asked)) ≡ served_now old.engine old.goals before (call_clauses goal)
      alike =
          served_same old.engine (length before) (state_at old.goals before (length before)) (goal_then goal asked) goal
          (same_proc m v0 nm nv0 p k name keys plain goal asked) (same_excluded m v0 nm nv0 p k name keys plain goal asked)

      answered : (e : ℕ) → served_now e new.goals h (call_clauses goal) ≡ answers then_.0 None
      answered e =
          any_engine e old.engine (length h) (state_at new.goals h (length h)) goal
          ∙ (ap (λ (n : ℕ). served_now old.engine n h (call_clauses goal)) goals_are
          ∙ (ap (λ (x : History). served_now old.engine old.goals x (call_clauses goal)) same_history
          ∙ (sym alike ∙ (then_.1 ∙ ap (answers then_.0) none))))

    pub call_row : (goal : Tree) → IsGoal term_by clause_key (text_of m) p k goal
        → option_map first_row (rows_for new.goals h None goal) ≡ Some (found_row (text_of m) f)
    call_row goal asked =
        let t = then_ goal asked in
        ap (λ (s : Service.Served). option_map first_row (listed_in s)) (answered goal asked 0)
        ∙ reply_row (text_of m) f t.0 (says_told (text_of w0) (text_of m) f t.0 same_found t.2)

  -- A NEXT CLAUSE
  module _ (old new : Told) (before : History) (l place g : ℕ) (served : IsNext term_by clause_key (text_of v0) (text_of w0) p k l place (Clauses f) g old before new) where
    pub next_row : (goal : Tree) → IsGoal term_by clause_key (text_of m) p k goal
        → Some (first_row (behind place (clause_list new.goals new.history l goal))) ≡ Some (found_row (text_of m) f)
    next_row goal asked =
        let there = asked_there m v0 nm nv0 p k name keys plain goal asked in
        let t = served.front (goal_then goal asked) there in
        let same_f : t.0 ≡ f = (let e : ◌≡◌ {A = Reply Tree} (Clauses f) (Clauses t.0) = t.1 in cc) in
        let lists : clause_list old.goals before l (goal_then goal asked) ≡ clause_list old.goals before l goal =
        lists_same (goal_then goal asked) goal (same_proc m v0 nm nv0 p k name keys plain goal asked) (same_excluded m v0 nm nv0 p k name keys plain goal asked) (state_at old.goals before l) l in
        let now : clause_list old.goals before l goal ≡ clause_list new.goals new.history l goal =
        ap₂ (λ (n : ℕ) (x : History). clause_list n x l goal) (sym (ap (λ (y : Told). y.goals) served.told)) (sym (ap (λ (y : Told). y.history) served.told)) in
        let here : IsFront term_by (text_of w0) f (behind place (clause_list new.goals new.history l goal)) =
        subst (λ (x : Option (Found Tree)). IsFront term_by (text_of w0) x (behind place (clause_list new.goals new.history l goal))) same_f
        (subst (λ (cs : List (Stored Clause)). IsFront term_by (text_of w0) t.0 (behind place cs)) (lists ∙ now) t.2) in
        ap Some (front_row (text_of m) f (behind place (clause_list new.goals new.history l goal)) (front_told (text_of w0) (text_of m) f (behind place (clause_list new.goals new.history l goal)) same_found here))

-- WHAT IS KEPT answers again
pub keeps : (p : Procedure) (k : ArgumentKey) (af : Option After) (f : Option (Found Tree)) (v0 w0 : Names) → IsNaming v0 → Holds v0 w0
    → All (λ x. IsSome (v0 x)) (p.name ∷ key_atoms k) → p.name ≢ neck
    → (old new : Told) (before : History) (g : ℕ)
    → Serves term_by clause_key (text_of v0) (text_of w0) (visit_by p k af) (Clauses f) g old before new
    → All (λ x. IsSome (w0 x)) ((p.name ∷ key_atoms k) ++ found_names names_of f)
    → IsKept new.goals new.history (record { procedure = p; first = k; after = af }) f w0
keeps p k None f v0 w0 nv0 holds0 held0 plain old new before g served held =
    record { held = held; again = λ m nm same. call_row p k f v0 w0 nv0 holds0 held0 plain m nm same old new before g served }
keeps p k (Some x) f v0 w0 nv0 holds0 held0 plain old new before g served held =
    record { held = held; again = λ m nm same. next_row p k f v0 w0 nv0 holds0 held0 plain m nm same old new before x.generation x.place g served }

pub kept_sound : (goals : ℕ) (h : History) (w : Names) (a : Asked ArgumentKey) (f : Option (Found Tree)) (n : ℕ) → a.procedure.name ≢ neck → IsGiven goals h w a f → length h ≡ n
    → IsAnswer goals h w (record { asked = a; generation = n; found = f })
kept_sound goals h w a f n plain is long = (
  omega (arith, long),
  λ same.
      subst (λ (x : History). IsKept goals x a f w) is.history
      (subst (λ (x : ℕ). IsKept x is.new.history a f w) is.goals_are
      (keeps a.procedure a.first a.after f is.v w is.naming is.holds is.asked plain is.old is.new is.before is.g is.serves is.held)),
)
