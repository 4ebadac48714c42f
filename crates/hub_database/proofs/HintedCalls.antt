-- Goals of a procedure that a hint finds: the clause that is found there shows that it is the goal's.
use Rattle.std.proofs.Common.{◌≡◌, ◌<◌, ◌≤◌, arith, cond, ap₂, ℕ, zero, suc, List, [], ◌∷◌, Option, Some, None, Bool, true, false, length, refl, sym, ap, subst, ◌∙◌}
use Rattle.std.specs.Prelude.{IfNone, IfSome, IsSome, is_some}
use Rattle.std.specs.List.{slice_get}
use Rattle.std.proofs.lemmas.Bool.{false≢true}
use Rattle.std.proofs.lemmas.Option.{same_Some}
use Rattle.pl_term.specs.Tree.{Chars, Tree}
use Rattle.pl_model.specs.History.{Clause, History, Proc}
use Rattle.pl_model.specs.Database as model
use Rattle.pl_model.specs.Database.{choices, is_known, is_static, is_system}
use Rattle.pl_model.specs.Predicates.{is_excluded, proc_of}
use Rattle.pl_model.specs.laws.Shown.{proc_of as name_of}
use Rattle.atom_api.specs.Fixed.{fixed}
use Rattle.atom_api.specs.Names.{Names}
use Rattle.atom_words.specs.declared.view.View.{View}
use Rattle.atom_table.specs.Naming.{named}
use Rattle.atom_table.specs.Opening.{fixed_slots}
use Rattle.clause_db.specs.Parts.{Held, Piece}
use Rattle.clause_db.specs.Stands.{first_named, program_access}
use Rattle.term_store.specs.NumberedNames.{term_by}
use Rattle.world_api.specs.Replies.{IsFront}
use Rattle.world_api.specs.Texts.{or_no_text, text_of}
use Rattle.world_api.specs.Visits.{proc_named}
use Rattle.world_api.specs.declared.reply.Reply.TheVariants.{Clauses}
use Rattle.world_api.specs.declared.visit.Procedure.{Procedure}
use Rattle.counted_terms.specs.Agreements.{Agreed}
use Rattle.counted_terms.specs.CountedTerms.{IsCounted, said}
use Rattle.counted_terms.specs.Keeping.{HoldsOn, kept}
use Rattle.counted_terms.specs.declared.row.Row.{Row}
use Rattle.counted_terms.specs.declared.row.Row.TheVariants.{Reads}
use Rattle.counted_terms.proofs.Saying.{kept_fixed, kept_some, said_same}
use Rattle.hub_database.specs.Clauses.{clause_by}
use Rattle.hub_database.specs.Database.{AllOpen, IsDatabase, databases}
use Rattle.hub_database.specs.Found.{HandsFirst, IsFound}
use Rattle.hub_database.specs.Rows.{HandsOut, IsSteady, handed_row}
use Rattle.std.specs.Result.{IfOk}
use Rattle.std.specs.List.{All}
use Rattle.std.proofs.lemmas.List.Elements.{All-nil}
use Rattle.std.specs.declared.result.Result.{Result}
use Rattle.std.specs.declared.result.Result.TheVariants.{Ok, Err}
use Rattle.pl_term.specs.declared.memory.Memory.{Memory as NoRoom}
use Rattle.term_store.specs.NumberedNames.{names_of}
use Rattle.world_api.specs.Replies.{found_names}
use Rattle.world_api.specs.declared.reply.Found.{Found}
use Rattle.counted_terms.specs.Rows.{row_names}
use Rattle.counted_terms.specs.Sharing.{Counts}
use Rattle.hub_database.proofs.ErasedClauses.{is_static_in, static_in}
use Rattle.hub_database.proofs.Fronts.{front_none, some_weaker}
use Rattle.hub_database.proofs.Open.{first_open, first_own}

-- what a map has, another one has that holds on it
same_on : (m n : Names) → HoldsOn m n → (a : ℕ) → IsSome (m a) → n a ≡ m a
same_on m n on a held = go (m a) refl held
  where
    go : (o : Option Chars) → m a ≡ o → IsSome o → n a ≡ o
    go None e some_ = absurd (false≢true some_)
    go (Some t) e some_ = on a t e

-- a stored clause says by the one map what it says by the texts that the keeper keeps
pub agreed_said : (v k : View) (agreed : Agreed v k) → k.fixed ≡ fixed_slots → ((a : ℕ) (u : Chars) → fixed a ≡ Some u → named fixed_slots a ≡ Some u) → (t : Tree) → IsCounted t k → said agreed.map t ≡ said (kept k) t
agreed_said v k agreed slots stands t counted =
    said_same agreed.map (kept k) t
    (λ a some_. same_on (kept k) agreed.map agreed.keeps a (kept_some k a (counted a some_)))
    (λ a u f. agreed.lawful.stand a u f ∙ sym (kept_fixed k a u slots (stands a u f)))

-- the first of a list that is found
found_first : (f : Tree → Clause) (ss : List (model.Stored Clause)) (place : ℕ) (t : Tree) (more : Bool) → Some (place, f t, more) ≡ first_named ss
    → (c : model.Stored Clause) × (cs : List (model.Stored Clause)) × (ss ≡ c ∷ cs) × (c.clause ≡ f t)
found_first f [] place t more e = absurd (cc)
found_first f (s ∷ ss) place t more e = (s, ss, refl, sym (ap (λ (x : ℕ × Clause × Bool). x.1) (same_Some _ _ e)))

-- THE PROCEDURE IS THE ONE THAT IS CALLED, where its first clause for the goal is of the predicate
module _ (f : Tree → Clause) (d : model.Database Clause) (all : AllOpen d.clauses) (g : ℕ) (q p : Proc) (t : Clause → Bool) (place : ℕ) (u : Tree) (more : Bool)
    (found : Some (place, f u, more) ≡ first_named (choices t g q d)) (own : proc_of (f u).head ≡ p) where
  pub found_own : q ≡ p
  found_own =
      let first = found_first f (choices t g q d) place u more found in
      first_own q g t d.clauses all first.0 first.1 first.2 ∙ (ap (λ (c : Clause). proc_of c.head) first.3 ∙ own)

  pub found_open : is_system p ≡ false
  found_open =
      let first = found_first f (choices t g q d) place u more found in
      subst (λ (r : Proc). is_system r ≡ false) found_own (first_open q g t d.clauses all first.0 first.1 first.2)

-- a procedure of the program is known
pub known_there : (d : model.Database Clause) (p : Proc) → is_some (program_access d p) ≡ true → is_known d p ≡ true
known_there d p is = go (is_system p)
  where
    go : (b : Bool) → is_some (cond b (Some model.static) (program_access d p)) ≡ true
    go true = refl
    go false = is

-- what was handed out
pub handed_out : (r : Result (Option (Found Tree)) NoRoom) (P : Option (Found Tree) → Type 0) → IfOk r P → HandsOut P (handed_row r)
handed_out (Ok f) P h = h
handed_out (Err e) P h = tt

pub handed_named : (m : Names) (r : Result (Option (Found Tree)) NoRoom) → IfOk r (λ f. All (λ a. IsSome (m a)) (found_names names_of f)) → All (λ a. IsSome (m a)) (row_names (handed_row r))
handed_named m (Ok f) h = h
handed_named m (Err e) h = All-nil (λ a. IsSome (m a))

-- what holds in any case
pub none_all : {X P : Type 0} (o : Option X) → P → IfNone o P
none_all None h = h
none_all (Some x) h = tt

-- what holds where there is none
pub none_weaker : {X P Q : Type 0} (o : Option X) → (P → Q) → IfNone o P → IfNone o Q
none_weaker None f h = f h
none_weaker (Some x) f h = tt

-- a keeper that keeps and counts the same
pub steady_then : (k l o : View) → IsSteady k l → IsSteady l o → IsSteady k o
steady_then k l o first second = record { keeps = second.keeps ∙ first.keeps; counts = λ a. second.counts a ∙ first.counts a }

pub counts_steady : (part : ℕ → ℕ) (k l : View) (n : ℕ) → Counts part k n → IsSteady k l → Counts part l n
counts_steady part k l n counts steady = record {
  rest = counts.rest;
  exact = λ a. steady.counts a ∙ counts.exact a;
  few = λ a. subst (λ (i : ℕ). i ≤ n) (sym (steady.counts a)) (counts.few a);
}

-- what holds of the member at a place within a list
pub at_part : {X : Type 0} (xs : List X) (i : ℕ) → i < length xs → (A B : X → Type 0) (P : Type 0) → IfSome (slice_get xs i) A → IfSome (slice_get xs i) B → ((x : X) → A x → B x → P) → P
at_part [] i within A B P a b f = absurd (omega arith)
at_part (x ∷ xs) zero within A B P a b f = f x a b
at_part (x ∷ xs) (suc i) within A B P a b f = at_part xs i (omega arith) A B P a b f

-- a procedure has one name by maps that have the same text for its atom
pub named_same : (m n : Names) (p : Procedure) → HoldsOn m n → IsSome (m p.name) → proc_named (text_of n) p ≡ proc_named (text_of m) p
named_same m n p on held = ap (λ (cs : Chars). proc_named (λ a. cs) p) (ap (or_no_text p.name) (same_on m n on p.name held))

-- WHAT IS FOUND AT AN INDEX, where the first clause there for the goal with this head is of the goal's predicate p
module _ (goals : ℕ) (h : History) (k : View) (db : Held Tree) (g : ℕ) (is : IsDatabase k db goals h) (head : Tree) (p : Proc) (text : ℕ → Chars) (row : Row)
    (place : ℕ) (u : Tree) (more : Bool) (own : proc_of (clause_by k u).head ≡ p)
    (front : (cs : List (model.Stored Clause)) → Some (place, clause_by k u, more) ≡ first_named cs → HandsOut (λ f. IsFront term_by text f cs) row) where
  abbrev tried : Proc → List (model.Stored Clause)
  tried q = choices (λ (c : Clause). is_excluded head c.head) g q (databases goals h g)

  abbrev Finds : Piece Tree → Type 0
  Finds x = Some (place, clause_by k u, more) ≡ first_named (tried (name_of x.name))

  is_called : (x : Piece Tree) → Finds x → name_of x.name ≡ p
  is_called x found = found_own (clause_by k) (databases goals h g) (is.open_only g) g (name_of x.name) p (λ (c : Clause). is_excluded head c.head) place u more found own

  pub found_is : (i : ℕ) → i < length db.parts → IfSome (slice_get db.parts i) Finds → IsFound goals h db i g p text head row
  found_is i within found = record {
    there = some_weaker (slice_get db.parts i) is_called found;
    open_ = at_part db.parts i within Finds Finds (is_system p ≡ false) found found
        (λ x a b. found_open (clause_by k) (databases goals h g) (is.open_only g) g (name_of x.name) p (λ (c : Clause). is_excluded head c.head) place u more a own);
    hands = at_part db.parts i within Finds Finds (HandsFirst goals h g p text head row) found found
        (λ x a b. subst (λ (q : Proc). HandsOut (λ f. IsFront term_by text f (tried q)) row) (is_called x a) (front (tried (name_of x.name)) a));
  }

-- THAT THERE IS NONE at an index, where the first clause that is seen there is of the goal's predicate p
module _ (goals : ℕ) (h : History) (k : View) (db : Held Tree) (g : ℕ) (is : IsDatabase k db goals h) (head : Tree) (p : Proc) (text : ℕ → Chars) (row : Row)
    (place : ℕ) (u : Tree) (more : Bool) (own : proc_of (clause_by k u).head ≡ p) (none_ : row ≡ Reads (Clauses None)) where
  abbrev FirstSeen : Piece Tree → Type 0
  FirstSeen x = Some (place, clause_by k u, more) ≡ first_named (choices (λ (c : Clause). false) g (name_of x.name) (databases goals h g))

  abbrev NoneFor : Proc → Type 0
  NoneFor q = None ≡ first_named (choices (λ (c : Clause). is_excluded head c.head) g q (databases goals h g))

  is_seen : (x : Piece Tree) → FirstSeen x → name_of x.name ≡ p
  is_seen x found = found_own (clause_by k) (databases goals h g) (is.open_only g) g (name_of x.name) p (λ (c : Clause). false) place u more found own

  pub none_is : (i : ℕ) → i < length db.parts → IfSome (slice_get db.parts i) FirstSeen → IfSome (slice_get db.parts i) (λ x. NoneFor (name_of x.name)) → IsFound goals h db i g p text head row
  none_is i within seen empty = record {
    there = some_weaker (slice_get db.parts i) is_seen seen;
    open_ = at_part db.parts i within FirstSeen FirstSeen (is_system p ≡ false) seen seen
        (λ x a b. found_open (clause_by k) (databases goals h g) (is.open_only g) g (name_of x.name) p (λ (c : Clause). false) place u more a own);
    hands = subst (HandsFirst goals h g p text head) (sym none_)
        (front_none text (choices (λ (c : Clause). is_excluded head c.head) g p (databases goals h g))
        (at_part db.parts i within FirstSeen (λ (x : Piece Tree). NoneFor (name_of x.name)) (NoneFor p) seen empty (λ x a b. subst NoneFor (is_seen x a) b)));
  }

-- A DYNAMIC PROCEDURE that is none of the system is not static
pub open_static : (d : model.Database Clause) (p : Proc) → is_system p ≡ false → program_access d p ≡ Some model.dynamic → is_static d p ≡ false
open_static d p sys access = is_static_in d p ∙ ap₂ (λ b o. static_in (cond b (Some model.static) o)) sys access

-- what the database says of the procedure where it stands
pub said_at : (db : Held Tree) (i : ℕ) (p : Proc) → i < length db.parts → IfSome (slice_get db.parts i) (λ x. name_of x.name ≡ p) → (Q : Proc → Type 0) → IfSome (slice_get db.parts i) (λ x. Q (name_of x.name)) → Q p
said_at db i p within there Q says = at_part db.parts i within (λ (x : Piece Tree). name_of x.name ≡ p) (λ (x : Piece Tree). Q (name_of x.name)) (Q p) there says (λ x a b. subst Q a b)
