-- What a visit says of a call, or of a look at clauses.
use Rattle.std.proofs.Common.{◌≡◌, ◌⊎◌, inl, inr, ℕ, suc, List, [], ◌∷◌, ◌++◌, length, Option, None, IsSome, codes, refl, sym, ap, ap₂, subst, ◌∙◌}
use Rattle.std.specs.List.{All, Contains}
use Rattle.std.proofs.lemmas.List.Elements.{All-cons, All-head, All-weaker, All-contains, All-contains_itself}
use Rattle.pl_term.specs.Tree.{Chars, Tree, var, int, atom, comp}
use Rattle.pl_model.specs.History.{Clause, History, Kind}
use Rattle.pl_model.specs.Database.{Stored}
use Rattle.pl_model.specs.Predicates.{proc_of}
use Rattle.pl_model.specs.Requests.{listed, refused}
use Rattle.pl_model.specs.Requests as requests
use Rattle.pl_model.specs.Service.{answers, entry_by, served_now}
use Rattle.atom_api.specs.Names.{Names, FixedStand}
use Rattle.term_store.specs.declared.argument_key.ArgumentKey.{ArgumentKey}
use Rattle.term_store.specs.declared.words.Place.{Place}
use Rattle.term_store.specs.ArgumentKeys.{clause_key, key_atoms}
use Rattle.term_store.specs.Contents.{Contents, Holds, IsMark, back_to, term_at}
use Rattle.term_store.specs.declared.words.StoreMark.{StoreMark}
use Rattle.term_store.specs.Fit.{Fit}
use Rattle.term_store.specs.Heap.{atom_name}
use Rattle.term_store.specs.NameLaws.{keys_are_named}
use Rattle.term_store.specs.NameUnification.{count-spelled}
use Rattle.term_store.specs.NumberedNames.{atoms_in, atoms_in_all, names_of, neck, number_of, term_by, text_by}
use Rattle.world_api.specs.declared.reply.Found.{Found}
use Rattle.world_api.specs.declared.reply.Reply.{Reply}
use Rattle.world_api.specs.declared.reply.Reply.TheVariants as replies
use Rattle.world_api.specs.declared.visit.Procedure.{Procedure}
use Rattle.world_api.specs.declared.visit.Visit.{Visit}
use Rattle.world_api.specs.Texts as worlds
use Rattle.world_api.specs.Told.{Told, Follows, clause_list}
use Rattle.world_api.specs.declared.answer.On.{On}
use Rattle.world_api.specs.Answers.{CanVisit, IsServed, IsWaiting, seen_as, Serves}
use Rattle.world_api.specs.Replies.{IsFront, Says}
use Rattle.world_api.specs.Visits.{Asks, IsGoal, proc_named, visit_names}
use Rattle.iso_search.specs.declared.choices.Purpose.{Purpose}
use Rattle.iso_search.specs.declared.choices.Purpose.TheVariants.{Resolving, Inspecting, Retracting}
use Rattle.iso_engine.specs.Called.{IsAsked}
use Rattle.iso_engine.specs.CalledGoals.{HasPredicate}
use Rattle.iso_engine.specs.ClausesAsked.{listing, visit_of}
use Rattle.iso_engine.specs.Parts.{IsOverAtoms}
use Rattle.iso_engine.specs.Replies.{IsListOrError}
use Rattle.iso_engine.proofs.OverAtoms.{place_over}
use Rattle.iso_engine.proofs.Readings.{call_is, fixed_text, neck_is, necked}
use Rattle.iso_engine.proofs.Serving.{IsAnswer, list_answered, list_never_waits, says_list, says_error}

-- A mark of the whole store shows that the heap is a fit one.
pub goal_over : (s : Contents) (k : StoreMark) (p : Place) → IsMark k s → back_to k s ≡ s → Holds s p → IsOverAtoms (term_at s p)
goal_over s k p mark here held = place_over s p (subst (λ (c : Contents). Fit c.heap) here mark.fit) held

-- What the visit names

fixed_held : (m : Names) → FixedStand m → IsSome (m 53)
fixed_held m stand = subst (IsSome {T = Chars}) (sym (stand 53 (codes "call") call_is)) refl

name_held : (m : Names) (t : Tree) (p : Procedure) → FixedStand m → HasPredicate t p → All (λ a. IsSome (m a)) (atoms_in t) → IsSome (m p.name)
name_held m (var x) p stand is held = subst (λ a. IsSome (m a)) (sym is.0) (fixed_held m stand)
name_held m (int i) p stand is held = absurd is
name_held m (atom a) p stand is held =
    subst (λ n. IsSome (m n)) (ap number_of is.0) (All-head (λ n. IsSome (m n)) (number_of a) [] held)
name_held m (comp f t ts) p stand is held =
    subst (λ n. IsSome (m n)) (ap number_of is.0) (All-head (λ n. IsSome (m n)) (number_of f) (atoms_in t ++ atoms_in_all ts) held)

neck_held : (m : Names) → FixedStand m → IsSome (m neck)
neck_held m stand = subst (IsSome {T = Chars}) (sym (stand neck (codes ":-") neck_is)) refl

pub visit_held : (m : Names) (t : Tree) (p : Procedure) (k : ArgumentKey) → FixedStand m → HasPredicate t p → k ≡ clause_key t
    → All (λ a. IsSome (m a)) (atoms_in t) → All (λ a. IsSome (m a)) (p.name ∷ key_atoms k)
visit_held m t p k stand is key held =
    let all : All (λ a. IsSome (m a)) (names_of t) = All-cons (λ a. IsSome (m a)) neck (atoms_in t) (neck_held m stand) held in
    All-cons (λ a. IsSome (m a)) p.name (key_atoms k) (name_held m t p stand is held)
    (All-weaker (Contains (key_atoms k)) (λ a. IsSome (m a))
    (λ a c. All-contains (λ b. IsSome (m b)) (names_of t) a all (keys_are_named t a (subst (λ (x : ArgumentKey). Contains (key_atoms x) a) key c)))
    (key_atoms k) (All-contains_itself (key_atoms k)))

-- What the visit asks for

named_text : (m : Names) → FixedStand m → (a : ℕ) → text_by (worlds.text_of m) (atom_name a) ≡ worlds.text_of m a
named_text m stand a = necked (worlds.text_of m) (fixed_text m stand neck (codes ":-") neck_is) a

predicate_is : (m : Names) (t : Tree) (p : Procedure) → FixedStand m → HasPredicate t p → proc_of (term_by (worlds.text_of m) t) ≡ proc_named (worlds.text_of m) p
predicate_is m (var x) p stand is =
    ap₂ (λ f n. record { name = f; arity = n }) (sym (fixed_text m stand 53 (codes "call") call_is) ∙ ap (worlds.text_of m) (sym is.0)) (sym is.1)
predicate_is m (int i) p stand is = absurd is
predicate_is m (atom a) p stand is =
    ap₂ (λ f n. record { name = f; arity = n }) (ap (text_by (worlds.text_of m)) is.0 ∙ named_text m stand p.name) (sym is.1)
predicate_is m (comp f t ts) p stand is =
    ap₂ (λ g n. record { name = g; arity = n }) (ap (text_by (worlds.text_of m)) is.0 ∙ named_text m stand p.name)
    (ap suc (count-spelled (text_by (worlds.text_of m)) ts) ∙ sym is.1)

pub goal_asked : (m : Names) (t : Tree) (p : Procedure) (k : ArgumentKey) → FixedStand m → HasPredicate t p → k ≡ clause_key t
    → IsGoal term_by clause_key (worlds.text_of m) p k (term_by (worlds.text_of m) t)
goal_asked m t p k stand is key = record { predicate = predicate_is m t p stand is; kept = t; stands = refl; key_is = sym key }

pub list_asked : (q : Purpose) (m : Names) (t : Tree) (p : Procedure) (k : ArgumentKey) (w : Visit Tree ArgumentKey) → w ≡ visit_of q p k
    → FixedStand m → HasPredicate t p → k ≡ clause_key t → Asks term_by clause_key (worlds.text_of m) w (listing q (term_by (worlds.text_of m) t))
list_asked q m t p k w asks stand is key =
    subst (λ (v : Visit Tree ArgumentKey). Asks term_by clause_key (worlds.text_of m) v (listing q (term_by (worlds.text_of m) t))) (sym asks) (go q)
  where
    go : (r : Purpose) → Asks term_by clause_key (worlds.text_of m) (visit_of r p k) (listing r (term_by (worlds.text_of m) t))
    go Resolving = (term_by (worlds.text_of m) t, goal_asked m t p k stand is key, refl)
    go Inspecting = (term_by (worlds.text_of m) t, goal_asked m t p k stand is key, refl)
    go Retracting = (term_by (worlds.text_of m) t, goal_asked m t p k stand is key, refl)

pub list_named : (q : Purpose) (m : Names) (p : Procedure) (k : ArgumentKey) (w : Visit Tree ArgumentKey) → w ≡ visit_of q p k
    → All (λ a. IsSome (m a)) (p.name ∷ key_atoms k) → All (λ a. IsSome (m a)) (visit_names names_of key_atoms w)
list_named q m p k w asks held = subst (λ (v : Visit Tree ArgumentKey). All (λ a. IsSome (m a)) (visit_names names_of key_atoms v)) (sym asks) (go q)
  where
    go : (r : Purpose) → All (λ a. IsSome (m a)) (visit_names names_of key_atoms (visit_of r p k))
    go Resolving = held
    go Inspecting = held
    go Retracting = held

pub list_allowed : (text : ℕ → Chars) (t : Told) (q : Purpose) (p : Procedure) (k : ArgumentKey) (w : Visit Tree ArgumentKey) → w ≡ visit_of q p k
    → CanVisit term_by clause_key text w t
list_allowed text t q p k w asks = subst (λ (v : Visit Tree ArgumentKey). CanVisit term_by clause_key text v t) (sym asks) (go q)
  where
    go : (r : Purpose) → CanVisit term_by clause_key text (visit_of r p k) t
    go Resolving = tt
    go Inspecting = tt
    go Retracting = tt

-- The reply

pub record IsListReply (q : Purpose) (t : Told) (before : History) (n : Names) (g : Tree) (f : Option (Found Tree)) : Type 0 where
  pub list : List (Stored Clause)
  pub served : served_now t.engine t.goals before (listing q g) ≡ answers (listed list) None
  pub which : (list ≡ clause_list t.goals before (length before) g) ⊎ (list ≡ [])
  pub front : IsFront term_by (worlds.text_of n) f list

pub record IsErrorReply (q : Purpose) (t : Told) (before : History) (n : Names) (g : Tree) (e : Tree) : Type 0 where
  pub served : served_now t.engine t.goals before (listing q g) ≡ answers (refused (term_by (worlds.text_of n) e)) None

abbrev pub IsReply : Purpose → Told → History → Names → Tree → Reply Tree → Type 0
IsReply q t before n g (replies.Clauses f) = IsListReply q t before n g f
IsReply q t before n g (replies.Refused e) = IsErrorReply q t before n g e
IsReply q t before n g _ = ⊥

reply_for : (q : Purpose) (t : Told) (before : History) (n : Names) (g : Tree) (r : Reply Tree) (reply : requests.Reply) (update : Option Kind)
    → served_now t.engine t.goals before (listing q g) ≡ answers reply update
    → Says term_by (worlds.text_of n) r reply
    → IsAnswer t.goals before g reply update
    → IsReply q t before n g r
reply_for q t before n g r reply update served says answer = go answer.reply_is
  where
    list : (cs : List (Stored Clause)) → (cs ≡ clause_list t.goals before (length before) g) ⊎ (cs ≡ []) → reply ≡ listed cs → IsReply q t before n g r
    list cs which is =
        let shape = says_list (worlds.text_of n) r cs (subst (λ (x : requests.Reply). Says term_by (worlds.text_of n) r x) is says) in
        subst (IsReply q t before n g) (sym shape.1)
        (record {
          list = cs;
          served = served ∙ ap₂ answers is answer.update_is;
          which = which;
          front = shape.2;
        })

    go : (reply ≡ listed (clause_list t.goals before (length before) g)) ⊎ ((reply ≡ listed []) ⊎ ((x : Tree) × (reply ≡ refused x))) → IsReply q t before n g r
    go (inl is) = list (clause_list t.goals before (length before) g) (inl refl) is
    go (inr (inl is)) = list [] (inr refl) is
    go (inr (inr error)) =
        let shape = says_error (worlds.text_of n) r error.0 (subst (λ (x : requests.Reply). Says term_by (worlds.text_of n) r x) error.1 says) in
        subst (IsReply q t before n g) (sym shape.1)
        (record { served = served ∙ ap₂ answers (error.1 ∙ ap refused shape.2) answer.update_is })

-- The visit was served.
pub record IsCallServed (q : Purpose) (t : Told) (before : History) (u : Told) (n : Names) (g : Tree) (r : Reply Tree) (gen : ℕ) : Type 0 where
  pub asked : IsAsked t before None u
  pub generation : gen ≡ length before
  pub reply : IsReply q t before n g r

-- It is none that goes on with a list.
served_list : (text new_text : ℕ → Chars) (q : Purpose) (p : Procedure) (k : ArgumentKey) (w : Visit Tree ArgumentKey) (r : Reply Tree) (gen : ℕ) (t u : Told) (before : History)
    → w ≡ visit_of q p k → Serves term_by clause_key text new_text w r gen t before u → IsServed term_by clause_key text new_text w r gen t before u
served_list text new_text q p k w r gen t u before is =
    subst (λ (v : Visit Tree ArgumentKey). Serves term_by clause_key text new_text v r gen t before u → IsServed term_by clause_key text new_text v r gen t before u) (sym is) (go q)
  where
    go : (x : Purpose) → Serves term_by clause_key text new_text (visit_of x p k) r gen t before u → IsServed term_by clause_key text new_text (visit_of x p k) r gen t before u
    go Resolving s = s
    go Inspecting s = s
    go Retracting s = s

pub list_served : (q : Purpose) (m n : Names) (t u : Told) (before : History) (x : Tree) (p : Procedure) (k : ArgumentKey) (w : Visit Tree ArgumentKey)
    (r : Reply Tree) (gen : ℕ) → w ≡ visit_of q p k → FixedStand m → HasPredicate x p → k ≡ clause_key x → Follows t.engine t.history before
    → Serves term_by clause_key (worlds.text_of m) (worlds.text_of n) w r gen t before u
    → IsCallServed q t before u n (term_by (worlds.text_of m) x) r gen
list_served q m n t u before x p k w r gen asks stand is key follows serves =
    let g = term_by (worlds.text_of m) x in
    let served = served_list (worlds.text_of m) (worlds.text_of n) q p k w r gen t u before asks serves in
    let one = served.serves (listing q g) (list_asked q m x p k w asks stand is key) in
    let answer = list_answered q t.engine t.goals before g one.0 served.update one.1 in
    record {
      asked = record { follows = follows; told = served.told ∙ ap (λ (o : Option Kind). seen_as t (before ++ entry_by t.engine o) (t.gens ++ length before ∷ [])) answer.update_is };
      generation = served.generation;
      reply = reply_for q t before n g r one.0 served.update one.1 one.2 answer;
    }

pub list_or_error : (q : Purpose) (t : Told) (before : History) (n : Names) (g : Tree) (r : Reply Tree) → IsReply q t before n g r → IsListOrError r
list_or_error q t before n g (replies.Standing ops quotes) is = is
list_or_error q t before n g (replies.Clauses f) is = tt
list_or_error q t before n g (replies.Procedures ps) is = is
list_or_error q t before n g (replies.Flags fs) is = is
list_or_error q t before n g (replies.Named k) is = is
list_or_error q t before n g (replies.Message x) is = is
list_or_error q t before n g (replies.Operators os) is = is
list_or_error q t before n g replies.NoMessage is = is
list_or_error q t before n g (replies.Status x) is = is
list_or_error q t before n g replies.Done is = is
list_or_error q t before n g replies.Gone is = is
list_or_error q t before n g (replies.Refused e) is = tt

pub list_waits : (q : Purpose) (m n : Names) (t u : Told) (before : History) (x : Tree) (p : Procedure) (k : ArgumentKey) (w : Visit Tree ArgumentKey)
    (on : On) (gen : ℕ) → w ≡ visit_of q p k → FixedStand m → HasPredicate x p → k ≡ clause_key x
    → IsWaiting term_by clause_key (worlds.text_of m) (worlds.text_of n) w on gen t before u → ⊥
list_waits q m n t u before x p k w on gen asks stand is key waiting =
    let g = term_by (worlds.text_of m) x in
    list_never_waits q t.engine t.goals before g (waiting.waiting (listing q g) (list_asked q m x p k w asks stand is key))
