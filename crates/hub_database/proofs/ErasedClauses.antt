-- What erasures and abolished procedures come to.
use Rattle.std.proofs.Common.{◌≡◌, ◌<◌, ◌≤◌, ◌^◌, ℕ, [], ◌∷◌, length, Option, Some, None, Bool, true, false, cond, ◌||◌, refl, sym, ap, subst, ◌∙◌}
use Rattle.std.specs.Prelude.{IsSome, codes, is_some}
use Rattle.std.specs.List.{All, list_any}
use Rattle.std.specs.Option.{MatchOption, option_map}
use Rattle.std.proofs.lemmas.Bool.{false≢true}
use Rattle.std.proofs.lemmas.List.Elements.{All-nil}
use Rattle.pl_term.specs.Tree.{Chars, Tree}
use Rattle.pl_model.specs.History.{Clause, History, Proc, abolish, erase}
use Rattle.pl_model.specs.Database as model
use Rattle.pl_model.specs.Database.{is_at, is_of, is_static, is_there, without_clause, without_procedure}
use Rattle.pl_model.specs.Errors.{static_procedure}
use Rattle.pl_model.specs.ErrorTerms.{resource_error}
use Rattle.pl_model.specs.Requests.{abolish_procedure, done, erase_clause, gone, refused}
use Rattle.pl_model.specs.Service.{answers}
use Rattle.pl_model.specs.SharedState.{state_at}
use Rattle.atom_api.specs.Names.{FixedStand, Names}
use Rattle.atom_words.specs.declared.view.View.{View}
use Rattle.clause_db.specs.Access.{access_of}
use Rattle.clause_db.specs.declared.access.Access.{Access}
use Rattle.clause_db.specs.declared.access.Access.TheVariants.{Static as Closed, Dynamic}
use Rattle.clause_db.specs.Faults.{change_fault, is_static_access}
use Rattle.clause_db.specs.declared.fault.DbFault.{DbFault}
use Rattle.clause_db.specs.declared.fault.DbFault.TheVariants.{Static}
use Rattle.clause_db.specs.Parts.{Held}
use Rattle.clause_db.specs.Reading.{SaysFor}
use Rattle.clause_db.specs.Stands.{then_at}
use Rattle.world_api.specs.Texts.{text_of}
use Rattle.world_api.specs.Visits.{clause_in, proc_named}
use Rattle.world_api.specs.declared.visit.Procedure.{Procedure}
use Rattle.world_api.specs.declared.reply.Reply.TheVariants.{Done, Gone}
use Rattle.counted_terms.specs.CountedTerms.{said}
use Rattle.counted_terms.specs.Keeping.{kept}
use Rattle.counted_terms.specs.Rows.{row_names}
use Rattle.counted_terms.specs.declared.row.Row.{Row}
use Rattle.counted_terms.specs.declared.row.Row.TheVariants.{Reads, Makes}
use Rattle.hub_database.specs.Clauses.{clause_by}
use Rattle.hub_database.specs.Database.{IsDatabase, databases}
use Rattle.hub_database.specs.Rows.{Decides, ErasesNone, Refuses, generation_after}
use Rattle.hub_database.proofs.Deciding.{database_then, refused_after, refused_by, refused_named, steady_database}
use Rattle.hub_database.proofs.Open.{open_erased}
use Rattle.hub_database.proofs.Served.{abolish_refused, abolish_worn, abolished, erased, erasure_worn, not_there}

module _ (goals e n : ℕ) (text : ℕ → Chars) (h : History) (k l : View) (old new : Held Tree) (at : length h ≡ n) (few : n < 2 ^ 47) (was : IsDatabase k old goals h) (keeps : kept l ≡ kept k) where
  under : length h < 2 ^ 47
  under = subst (λ (i : ℕ). i < 2 ^ 47) (sym at) few

  moved : (f : ℕ → model.Database Clause → model.Database Clause) → SaysFor (clause_by k) new (then_at n (f n) (databases goals h)) → SaysFor (clause_by l) new (then_at (length h) (f (length h)) (databases goals h))
  moved f says =
      subst (λ (m : Names). SaysFor (λ u. clause_in (said m u)) new (then_at (length h) (f (length h)) (databases goals h))) (sym keeps)
      (subst (λ (i : ℕ). SaysFor (clause_by k) new (then_at i (f i) (databases goals h))) (sym at) says)

  -- A CLAUSE IS ERASED
  pub erased_decides : (j : ℕ) → is_there j (databases goals h n) ≡ true → SaysFor (clause_by k) new (then_at n (without_clause j n) (databases goals h)) → new.flags ≡ old.flags → new.operators ≡ old.operators
      → Decides goals e text (erase_clause j) h (erase j) l new (Makes Done)
  erased_decides j there says flags operators = (
    record {
      reply = done;
      serves = erased e (state_at goals h (length h)) (length h) j (ap (λ (i : ℕ). is_there j (databases goals h i)) at ∙ there) under;
      says = refl;
    },
    database_then k l old new goals e h (erase j) (without_clause j (length h)) was (λ s. refl) (λ s. refl) (λ s. refl)
        (open_erased (is_at j) (length h) (databases goals h (length h)).clauses) flags operators (moved (λ i. without_clause j i) says),
  )

  -- IT WAS ERASED BEFORE
  pub gone_decides : (j : ℕ) → is_there j (databases goals h n) ≡ false → new ≡ old → Decides goals e text (erase_clause j) h (erase j) l new (Reads Gone)
  gone_decides j there same = (
    record {
      reply = gone;
      serves = not_there e (state_at goals h (length h)) (length h) j (ap (λ (i : ℕ). is_there j (databases goals h i)) at ∙ there);
      says = refl;
    },
    subst (λ (d : Held Tree). IsDatabase l d goals h) (sym same) (steady_database k l old goals h keeps was),
  )

  -- A PROCEDURE IS ABOLISHED
  pub abolished_decides : (p : Proc) → is_static (databases goals h n) p ≡ false → SaysFor (clause_by k) new (then_at n (without_procedure p n) (databases goals h)) → new.flags ≡ old.flags → new.operators ≡ old.operators
      → Decides goals e text (abolish_procedure p) h (abolish p) l new (Makes Done)
  abolished_decides p open_ says flags operators = (
    record {
      reply = done;
      serves = abolished e (state_at goals h (length h)) (length h) p (ap (λ (i : ℕ). is_static (databases goals h i) p) at ∙ open_) under;
      says = refl;
    },
    database_then k l old new goals e h (abolish p) (without_procedure p (length h)) was (λ s. refl) (λ s. refl) (λ s. refl)
        (open_erased (is_of p) (length h) (databases goals h (length h)).clauses) flags operators (moved (λ i. without_procedure p i) says),
  )

-- STATIC procedures, by how they may be used
abbrev pub static_in : Option model.Access → Bool
static_in None = false
static_in (Some model.static) = true
static_in (Some model.dynamic) = false

pub is_static_in : (d : model.Database Clause) (p : Proc) → is_static d p ≡ static_in (model.access_of d p)
is_static_in d p = go (model.access_of d p)
  where
    go : (o : Option model.Access) → elim o [ None ↦ false | Some a ↦ elim a [ model.static ↦ true | model.dynamic ↦ false ] ] ≡ static_in o
    go None = refl
    go (Some model.static) = refl
    go (Some model.dynamic) = refl

-- FROM THE LAST GENERATION ON no clause is erased
module _ (goals e n : ℕ) (m : Names) (stand : FixedStand m) (h : History) (k l : View) (db : Held Tree) (at : length h ≡ n) (many : 2 ^ 47 ≤ n) (was : IsDatabase k db goals h) (keeps : kept l ≡ kept k) where
  over : 2 ^ 47 ≤ length h
  over = subst (λ (i : ℕ). 2 ^ 47 ≤ i) (sym at) many

  still : IsDatabase l db goals h
  still = steady_database k l db goals h keeps was

  module _ (j : ℕ) (below : db.next ≤ n) where
    there_then : (there : Bool) → there ≡ is_there j (databases goals h db.next) → is_there j (databases goals h (length h)) ≡ there
    there_then there is = ap (λ (i : ℕ). is_there j (databases goals h i)) at ∙ ap (is_there j) (was.says.rests n below) ∙ sym is

    pub unerased_decides : (there : Bool) → there ≡ is_there j (databases goals h db.next) → (row : Row) → ErasesNone there row → Decides goals e (text_of m) (erase_clause j) h (erase j) l db row
    unerased_decides true is row r =
        refused_by goals e m (erase_clause j) h None (λ m. resource_error (codes "generations")) stand tt
        (erasure_worn e (state_at goals h (length h)) (length h) j (there_then true is) over) (erase j) l db still row r
    unerased_decides false is row r =
        subst (Decides goals e (text_of m) (erase_clause j) h (erase j) l db) (sym r)
        (record { reply = gone; serves = not_there e (state_at goals h (length h)) (length h) j (there_then false is); says = refl }, still)

  -- nor is a procedure abolished
  module _ (p q : Proc) (same : p ≡ q) where
    static_then : is_static (databases goals h (length h)) q ≡ is_static (databases goals h n) p
    static_then = ap (λ (i : ℕ). is_static (databases goals h i) q) at ∙ ap (is_static (databases goals h n)) (sym same)

    pub unabolished_decides : is_static (databases goals h n) p ≡ false → (row : Row) → Refuses None (λ m. resource_error (codes "generations")) row → Decides goals e (text_of m) (abolish_procedure q) h (abolish q) l db row
    unabolished_decides open_ row r =
        refused_by goals e m (abolish_procedure q) h None (λ m. resource_error (codes "generations")) stand tt
        (abolish_worn e (state_at goals h (length h)) (length h) q (static_then ∙ open_) over) (abolish q) l db still row r

pub unerased_named : (m : Names) → FixedStand m → (there : Bool) (row : Row) → ErasesNone there row → All (λ a. IsSome (m a)) (row_names row)
unerased_named m stand true row r = refused_named m None (λ m. resource_error (codes "generations")) stand tt row r
unerased_named m stand false row r = subst (λ (x : Row). All (λ a. IsSome (m a)) (row_names x)) (sym r) (All-nil (λ a. IsSome (m a)))

pub unerased_after : (there : Bool) (row : Row) (g : ℕ) → ErasesNone there row → generation_after row g ≡ g
unerased_after true row g r = refused_after None (λ m. resource_error (codes "generations")) row g r
unerased_after false row g r = ap (λ x. generation_after x g) r

-- A STATIC PROCEDURE IS NOT ABOLISHED, by the engine's names m
pub static_kept : (goals e n : ℕ) (m : Names) (stand : FixedStand m) (h : History) (k : View) (db : Held Tree) (at : length h ≡ n) (was : IsDatabase k db goals h) (p q : Proc) (same : p ≡ q)
    (procedure : Procedure) (held : IsSome (m procedure.name)) (named : q ≡ proc_named (text_of m) procedure) → is_static (databases goals h n) p ≡ true
    → (row : Row) → Refuses (Some procedure.name) (λ m. static_procedure (proc_named (text_of m) procedure)) row → Decides goals e (text_of m) (abolish_procedure q) h (abolish q) k db row
static_kept goals e n m stand h k db at was p q same procedure held named static_ row r =
    refused_by goals e m (abolish_procedure q) h (Some procedure.name) (λ m. static_procedure (proc_named (text_of m) procedure)) stand held
    (abolish_refused e (state_at goals h (length h)) (length h) q (ap (λ (i : ℕ). is_static (databases goals h i) q) at ∙ ap (is_static (databases goals h n)) (sym same) ∙ static_)
    ∙ ap (λ z. answers (refused (static_procedure z)) None) named)
    (abolish q) k db was row r

-- what an update of procedures that are not static says
pub granted_says : {F R : Type 0} {S : F → Type 0} (b : Bool) (x : F) → b ≡ false → ((x : F) → S x → ⊥) → MatchOption (cond b (Some x) None) R S → R
granted_says true x e no_ m = absurd (false≢true (sym e))
granted_says false x e no_ m = m

-- where nothing refuses the change, want of memory is the only cause
pub only_cause : {F R : Type 0} (b : Bool) (x : F) (S : F → Type 0) → b ≡ false → MatchOption (cond b (Some x) None) R S → R
only_cause true x S e m = absurd (false≢true (sym e))
only_cause false x S e m = m

pub no_static : (d : model.Database Clause) (p : Proc) → is_static d p ≡ false → list_any (is_static d) (p ∷ []) ≡ false
no_static d p e = ap (λ b. b || false) e

pub abolished_says : (f : Tree → Clause) (n : ℕ) (new : Held Tree) (d : ℕ → model.Database Clause) (p : Proc) → is_static (d n) p ≡ false → (S : DbFault → Type 0) → ((x : DbFault) → S x → ⊥)
    → MatchOption (change_fault (d n) (p ∷ [])) (SaysFor f new (then_at n (without_procedure p n) d)) S → SaysFor f new (then_at n (without_procedure p n) d)
abolished_says f n new d p open_ S no_ m = granted_says (list_any (is_static (d n)) (p ∷ [])) Static (no_static (d n) p open_) no_ m

-- how the database tells the access to a procedure
static_mapped : (r : Option Access) → is_static_access r ≡ static_in (option_map access_of r)
static_mapped None = refl
static_mapped (Some Closed) = refl
static_mapped (Some Dynamic) = refl

pub static_is : (r : Option Access) (d : model.Database Clause) (p : Proc) → option_map access_of r ≡ model.access_of d p → is_static_access r ≡ is_static d p
static_is r d p e = static_mapped r ∙ (ap static_in e ∙ sym (is_static_in d p))

pub known_mapped : (r : Option Access) → is_some r ≡ is_some (option_map access_of r)
known_mapped None = refl
known_mapped (Some a) = refl

pub known_is : (r : Option Access) (d : model.Database Clause) (p : Proc) → option_map access_of r ≡ model.access_of d p → is_some r ≡ model.is_known d p
known_is r d p e = known_mapped r ∙ ap (λ (o : Option model.Access). is_some o) e
