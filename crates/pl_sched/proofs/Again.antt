-- A visit that is answered by what is kept.
use Rattle.std.proofs.Common.{◌≡◌, ◌⊎◌, inl, inr, ◌≤◌, ◌<◌, ℕ, zero, suc, List, [], ◌∷◌, ◌++◌, Option, Some, None, IsSome, Bool, true, false, length, refl, sym, ap, subst, ◌∙◌, ◌==◌, arith, append-nil, eqb-true}
use Rattle.std.specs.Prelude.{IfSome, slice_index_or, if◌then◌else◌}
use Rattle.std.specs.List.{All, Contains}
use Rattle.std.proofs.lemmas.List.Elements.{All-append, All-nil, All-tail, All-weaker, Contains-append_cases}
use Rattle.atomic_table.specs.Seated.{TableId}
use Rattle.pl_term.specs.Tree.{Chars, Tree}
use Rattle.pl_model.specs.History.{History}
use Rattle.atom_api.specs.Interns.{Interns}
use Rattle.atom_api.specs.Names.{Names}
use Rattle.atom_api.specs.declared.interned.Interned.{Interned}
use Rattle.atom_api.specs.declared.interned.Interned.TheVariants.{Is, Full, Again, TooLong, Worn, Memory as NoMemory}
use Rattle.atom_words.specs.declared.view.View.{View}
use Rattle.atom_table.specs.Naming.{Lawful, names, requests}
use Rattle.term_store.specs.ArgumentKeys.{clause_key, key_atoms}
use Rattle.term_store.specs.NumberedNames.{names_of, term_by}
use Rattle.term_store.specs.declared.argument_key.ArgumentKey.{ArgumentKey}
use Rattle.pl_history.specs.Fronts.{FrontState, Life, own_engine, own_generations, own_runs, own_updates, visited}
use Rattle.world_api.specs.declared.answer.Answer.{Answer}
use Rattle.world_api.specs.declared.answer.Answer.TheVariants.{Served, Memory}
use Rattle.world_api.specs.declared.reply.Found.{Found}
use Rattle.world_api.specs.declared.reply.Reply.TheVariants.{Clauses}
use Rattle.world_api.specs.declared.visit.Procedure.{Procedure}
use Rattle.world_api.specs.declared.visit.Visit.{Visit}
use Rattle.world_api.specs.declared.visit.Visit.TheVariants.{Call}
use Rattle.world_api.specs.Answers.{IsServed}
use Rattle.world_api.specs.Gains.{Gains}
use Rattle.world_api.specs.Replies.{found_names}
use Rattle.world_api.specs.Texts.{Holds, text_of}
use Rattle.world_api.specs.Told.{Follows, Told}
use Rattle.world_api.specs.Visits.{visit_for, visit_names}
use Rattle.world_api.specs.declared.asking.After.{After}
use Rattle.world_api.specs.declared.asking.Asked.{Asked}
use Rattle.kept_answers.specs.Answered.{IsGiven, IsKept, IsNaming, asked_atoms, told}
use Rattle.kept_answers.proofs.Keeping.{gives}
use Rattle.pl_hub.specs.Fronts.{IsOwn, told_of}
use Rattle.pl_hub.specs.Visits.{IsVisit}
use Rattle.pl_sched.specs.Answering.{IsAnswered}
use Rattle.pl_sched.proofs.Running.{still_runs}

-- What an engine holds names its atoms
pub naming_of : (m : Names) → Lawful m → IsNaming m
naming_of m lawful = record { stand = lawful.stand; unlike = lawful.unlike; scalars = λ a t e. (lawful.finite a t e).2 }

-- and more atoms once a text was interned
named_more : (b : Bool) (m : Names) (a k : ℕ) (t u : Chars) → (k == a) ≡ b → ((w : Chars) → m a ≡ Some w → w ≡ t) → m k ≡ Some u → (if b then Some t else m k) ≡ Some u
named_more true m a k t u is own e = ap Some (sym (own u (ap m (sym (eqb-true k a is)) ∙ e)))
named_more false m a k t u is own e = e

same_holds : (m n : Names) → n ≡ m → Holds m n
same_holds m n same a t e = ap (λ (x : Names). x a) same ∙ e

pub interned_holds : (m : Names) (t : Chars) (r : Interned) (n : Names) → Interns m t r n → Holds m n
interned_holds m t (Is a) n is k u e = ap (λ (x : Names). x k) is.now ∙ named_more (k == a) m a k t u refl is.own e
interned_holds m t (Full p) n is k u e = same_holds m n is.1 k u e
interned_holds m t (Again c) n is k u e = same_holds m n is.1 k u e
interned_holds m t (TooLong b) n is k u e = same_holds m n is.2 k u e
interned_holds m t (Worn w) n is k u e = same_holds m n is.1 k u e
interned_holds m t NoMemory n is k u e = same_holds m n is.1 k u e

-- A VISIT with no further entry: the front stays one of an engine that runs
engine_on : (g : ℕ) (ls : List Life) → own_engine (visited g ls) ≡ own_engine ls
engine_on g [] = refl
engine_on g (l ∷ ls) = refl

runs_on : (g : ℕ) (ls : List Life) → own_runs (visited g ls) ≡ own_runs ls
runs_on g [] = refl
runs_on g (l ∷ ls) = refl

updates_on : (g : ℕ) (ls : List Life) → own_updates (visited g ls) ≡ own_updates ls
updates_on g [] = refl
updates_on g (l ∷ ls) = refl

generations_on : (g : ℕ) (ls : List Life) → own_runs ls ≡ true → own_generations (visited g ls) ≡ own_generations ls ++ g ∷ []
generations_on g [] runs = absurd (cc)
generations_on g (l ∷ ls) runs = refl

within_on : (n : ℕ) (gs : List ℕ) → ((g : ℕ) → Contains gs g → g ≤ n) → (g : ℕ) → Contains (gs ++ n ∷ []) g → g ≤ n
within_on n gs within g in_list = go (Contains-append_cases gs (n ∷ []) g in_list)
  where
    one : (k : ℕ) → k < 1 → slice_index_or (n ∷ []) k g ≡ g → g ≤ n
    one zero lt is = let e = is in omega (arith, e)
    one (suc k) lt is = absurd (omega arith)

    go : Contains gs g ⊎ Contains (n ∷ []) g → g ≤ n
    go (inl c) = within g c
    go (inr c) = one c.0 c.1 c.2

abbrev pub revisited : FrontState → FrontState
revisited f = record f { lives = visited (length f.seen) f.lives }

pub own_revisited : (t : TableId) (e : ℕ) (f : FrontState) → IsOwn t e f → IsOwn t e (revisited f)
own_revisited t e f own =
    record {
      table = own.table;
      engine = engine_on (length f.seen) f.lives ∙ own.engine;
      runs = runs_on (length f.seen) f.lives ∙ own.runs;
      updates = updates_on (length f.seen) f.lives ∙ own.updates;
      within = λ g c. within_on (length f.seen) (own_generations f.lives) own.within g (subst (λ (gs : List ℕ). Contains gs g) (generations_on (length f.seen) f.lives own.runs) c);
    }

told_as : (goals d e : ℕ) (h : History) (gs ks : List ℕ) → d ≡ e → gs ≡ ks → told d goals h gs ≡ told e goals h ks
told_as goals d e h gs ks a b = (λ j. record { engine = a j; goals = goals; history = h; gens = b j })

told_revisited : (goals : ℕ) (f : FrontState) → own_runs f.lives ≡ true
    → told (own_engine f.lives) goals f.seen (own_generations f.lives ++ length f.seen ∷ []) ≡ told_of goals (revisited f)
told_revisited goals f runs =
    told_as goals _ _ f.seen _ _ (sym (engine_on (length f.seen) f.lives)) (sym (generations_on (length f.seen) f.lives runs))

-- NOTHING ELSE CHANGES
follows_itself : (e : ℕ) (h : History) → Follows e h h
follows_itself e h = record { later = []; grown = sym (append-nil h); others = refl }

none_gained : {P : Chars → Type 0} (v : View) → Gains P (Some (requests v)) (Some (requests v))
none_gained {P} v = record { more = []; asked = ap Some (sym (append-nil (requests v))); each = All-nil P }

right_of : (P : ℕ → Type 0) (xs ys : List ℕ) → All P (xs ++ ys) → All P ys
right_of P [] ys all = all
right_of P (x ∷ xs) ys all = right_of P xs ys (All-tail P x (xs ++ ys) all)

module _ (table : TableId) (goals e : ℕ) (v : View) (naming : IsNaming (names v)) (f : FrontState) (own : IsOwn table e f) (p : Procedure) (k : ArgumentKey) (found : Option (Found Tree)) where
  -- A CALL
  called : IsKept goals f.seen (record { procedure = p; first = k; after = None }) found (names v)
      → IsAnswered goals v v (visit_for (record { procedure = p; first = k; after = None })) (Served (Clauses found) (length f.seen)) f (revisited f)
  called kept =
      record {
        before = f.seen;
        visited = (
          follows_itself (own_engine f.lives) f.seen,
          subst (λ (t : Told). IsServed term_by clause_key (text_of (names v)) (text_of (names v)) (Call p k) (Clauses found) (length f.seen) (told_of goals f) f.seen t) (told_revisited goals f own.runs) (gives goals f.seen p k None found (names v) naming kept (own_engine f.lives) (own_generations f.lives)),
        );
        runs = still_runs goals (revisited f) (own_revisited table e f own);
        named = right_of (λ x. IsSome (names v x)) (p.name ∷ key_atoms k) (found_names names_of found) kept.held;
        holds = λ a t is. is;
        refusals = sym (append-nil v.refusals);
        asked = none_gained v;
      }

  -- A NEXT CLAUSE
  next : (x : After) → IsKept goals f.seen (record { procedure = p; first = k; after = Some x }) found (names v)
      → IsAnswered goals v v (visit_for (record { procedure = p; first = k; after = Some x })) (Served (Clauses found) x.generation) f f
  next x kept =
      record {
        before = f.seen;
        visited = (
          follows_itself (own_engine f.lives) f.seen,
          gives goals f.seen p k (Some x) found (names v) naming kept (own_engine f.lives) (own_generations f.lives),
        );
        runs = still_runs goals f own;
        named = right_of (λ y. IsSome (names v y)) (p.name ∷ key_atoms k) (found_names names_of found) kept.held;
        holds = λ a t is. is;
        refusals = sym (append-nil v.refusals);
        asked = none_gained v;
      }

called_by : (table : TableId) (goals e : ℕ) (v : View) (f : FrontState) (p : Procedure) (k : ArgumentKey) (after : Option After) (found : Option (Found Tree)) → IsNaming (names v) → IsOwn table e f → after ≡ None
    → IsKept goals f.seen (record { procedure = p; first = k; after = after }) found (names v)
    → IsAnswered goals v v (visit_for (record { procedure = p; first = k; after = after })) (Served (Clauses found) (length f.seen)) f (revisited f)
called_by table goals e v f p k None found naming own is kept = called table goals e v naming f own p k found kept
called_by table goals e v f p k (Some x) found naming own is kept = absurd (cc)

pub call_again : (table : TableId) (goals e : ℕ) (v : View) (f : FrontState) (a : Asked ArgumentKey) (found : Option (Found Tree)) → IsNaming (names v) → IsOwn table e f → a.after ≡ None
    → IsKept goals f.seen a found (names v)
    → IsAnswered goals v v (visit_for a) (Served (Clauses found) (length f.seen)) f (revisited f)
call_again table goals e v f a found naming own is kept = called_by table goals e v f a.procedure a.first a.after found naming own is kept

next_by : (table : TableId) (goals e : ℕ) (v : View) (f : FrontState) (p : Procedure) (k : ArgumentKey) (after : Option After) (x : After) (found : Option (Found Tree)) → IsNaming (names v) → IsOwn table e f → after ≡ Some x
    → IsKept goals f.seen (record { procedure = p; first = k; after = after }) found (names v)
    → IsAnswered goals v v (visit_for (record { procedure = p; first = k; after = after })) (Served (Clauses found) x.generation) f f
next_by table goals e v f p k None x found naming own is kept = absurd (cc)
next_by table goals e v f p k (Some y) x found naming own is kept =
    let same : y ≡ x = cc in subst (λ (z : After). IsAnswered goals v v (visit_for (record { procedure = p; first = k; after = Some y })) (Served (Clauses found) z.generation) f f) same (next table goals e v naming f own p k found y kept)

pub next_again : (table : TableId) (goals e : ℕ) (v : View) (f : FrontState) (a : Asked ArgumentKey) (x : After) (found : Option (Found Tree)) → IsNaming (names v) → IsOwn table e f → a.after ≡ Some x
    → IsKept goals f.seen a found (names v)
    → IsAnswered goals v v (visit_for a) (Served (Clauses found) x.generation) f f
next_again table goals e v f a x found naming own is kept = next_by table goals e v f a.procedure a.first a.after x found naming own is kept

-- WHAT WAS FOUND under the lock may be kept
asked_held : (P : ℕ → Type 0) (p : Procedure) (k : ArgumentKey) (after : Option After) → All P (visit_names names_of key_atoms (visit_for (record { procedure = p; first = k; after = after }))) → All P (p.name ∷ key_atoms k)
asked_held P p k None all = all
asked_held P p k (Some x) all = all

some_still : (o q : Option Chars) → ((t : Chars) → o ≡ Some t → q ≡ Some t) → IsSome o → IsSome q
some_still None q keeps some = absurd (cc)
some_still (Some t) q keeps some = subst IsSome (sym (keeps t refl)) refl

pub given : (goals : ℕ) (v w : View) (f g : FrontState) (a : Asked ArgumentKey) (found : Option (Found Tree)) (n : ℕ) → Lawful (names v)
    → All (λ x. IsSome (names v x)) (visit_names names_of key_atoms (visit_for a))
    → IsAnswered goals v w (visit_for a) (Served (Clauses found) n) f g
    → IsGiven goals g.seen (names w) a found
given goals v w f g a found n lawful held is =
    let asked : All (λ x. IsSome (names v x)) (asked_atoms a) = asked_held (λ x. IsSome (names v x)) a.procedure a.first a.after held in
    record {
      v = names v;
      naming = naming_of (names v) lawful;
      holds = is.holds;
      asked = asked;
      held =
          All-append (λ x. IsSome (names w x)) (asked_atoms a) (found_names names_of found)
          (All-weaker (λ x. IsSome (names v x)) (λ x. IsSome (names w x)) (λ x some. some_still (names v x) (names w x) (is.holds x) some) (asked_atoms a) asked) is.named;
      g = n;
      old = told_of goals f;
      new = told_of goals g;
      before = is.before;
      serves = is.visited.1;
      goals_are = refl;
      history = refl;
    }

-- THE ANSWERS of the world
pub call_answered : (table : TableId) (goals e : ℕ) (v : View) (f was new : FrontState) (a : Asked ArgumentKey) (found : Option (Found Tree)) (r : Answer Tree) (n : ℕ) → Lawful (names v) → IsOwn table e f
    → a.after ≡ None → IsKept goals was.seen a found (names v) → f ≡ was → new ≡ revisited f → r ≡ Served (Clauses found) n → n ≡ length new.seen
    → IsAnswered goals v v (visit_for a) r was new
call_answered table goals e v f was new a found r n lawful own call kept same is answer long =
    let here : IsKept goals f.seen a found (names v) = subst (λ (x : FrontState). IsKept goals x.seen a found (names v)) (sym same) kept in
    let told = call_again table goals e v f a found (naming_of (names v) lawful) own call here in
    let at : r ≡ Served (Clauses found) (length f.seen) = answer ∙ ap (λ (k : ℕ). Served (Clauses found) k) (long ∙ ap (λ (x : FrontState). length x.seen) is) in
    subst (λ (x : Answer Tree). IsAnswered goals v v (visit_for a) x was new) (sym at)
    (subst (λ (x : FrontState). IsAnswered goals v v (visit_for a) (Served (Clauses found) (length f.seen)) x new) same
    (subst (λ (x : FrontState). IsAnswered goals v v (visit_for a) (Served (Clauses found) (length f.seen)) f x) (sym is) told))

pub next_answered : (table : TableId) (goals e : ℕ) (v w : View) (f was new : FrontState) (a : Asked ArgumentKey) (x : After) (found : Option (Found Tree)) (r : Answer Tree) → Lawful (names v) → IsOwn table e f
    → a.after ≡ Some x → IsKept goals f.seen a found (names v) → f ≡ was → new ≡ f → w ≡ v → r ≡ Served (Clauses found) x.generation
    → IsAnswered goals v w (visit_for a) r was new
next_answered table goals e v w f was new a x found r lawful own next kept same is view answer =
    let told = next_again table goals e v f a x found (naming_of (names v) lawful) own next kept in
    subst (λ (y : Answer Tree). IsAnswered goals v w (visit_for a) y was new) (sym answer)
    (subst (λ (y : View). IsAnswered goals v y (visit_for a) (Served (Clauses found) x.generation) was new) (sym view)
    (subst (λ (y : FrontState). IsAnswered goals v v (visit_for a) (Served (Clauses found) x.generation) y new) same
    (subst (λ (y : FrontState). IsAnswered goals v v (visit_for a) (Served (Clauses found) x.generation) f y) (sym is) told)))

pub visit_answered : {table : TableId} {goals e : ℕ} {v w : View} {visit : Visit Tree ArgumentKey} {a : Answer Tree} {f g hub new : FrontState}
    → IsVisit table goals e v w visit a f g hub new → IsAnswered goals v w visit a f g
visit_answered {table} {goals} {e} {v} {w} {visit} {a} {f} {g} {hub} {new} is =
    record {
      before = hub.seen;
      visited = is.visited;
      runs = still_runs goals g is.own;
      named = is.named;
      holds = is.holds;
      refusals = is.refusals;
      asked = is.asked;
    }

pub memory_answered : (table : TableId) (goals e : ℕ) (v : View) (visit : Visit Tree ArgumentKey) (f : FrontState) → IsOwn table e f → IsAnswered goals v v visit Memory f f
memory_answered table goals e v visit f own =
    record {
      before = [];
      visited = refl;
      runs = still_runs goals f own;
      named = All-nil (λ x. IsSome (names v x));
      holds = λ a t is. is;
      refusals = sym (append-nil v.refusals);
      asked = none_gained v;
    }

pub given_when : (goals : ℕ) (v w : View) (f g here : FrontState) (a : Asked ArgumentKey) (visit : Visit Tree ArgumentKey) (x : Answer Tree) (found : Option (Found Tree)) (n : ℕ) → Lawful (names v)
    → All (λ y. IsSome (names v y)) (visit_names names_of key_atoms visit)
    → visit_for a ≡ visit
    → IsAnswered goals v w visit x f g
    → x ≡ Served (Clauses found) n
    → here ≡ g
    → IsGiven goals here.seen (names w) a found
given_when goals v w f g here a visit x found n lawful held asked is answer front =
    let same : IsAnswered goals v w (visit_for a) (Served (Clauses found) n) f g =
    subst (λ (y : Answer Tree). IsAnswered goals v w (visit_for a) y f g) answer (subst (λ (y : Visit Tree ArgumentKey). IsAnswered goals v w y x f g) (sym asked) is) in
    subst (λ (y : FrontState). IsGiven goals y.seen (names w) a found) (sym front)
    (given goals v w f g a found n lawful (subst (λ (y : Visit Tree ArgumentKey). All (λ z. IsSome (names v z)) (visit_names names_of key_atoms y)) (sym asked) held) same)

-- WHAT IS KNOWN of an answer
pub if_known : (P Q : ℕ → Type 0) → ((n : ℕ) → P n → Q n) → (r : Option ℕ) → IfSome r P → IfSome r Q
if_known P Q give None is = tt
if_known P Q give (Some n) is = give n is
