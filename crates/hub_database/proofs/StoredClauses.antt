-- A clause is stored, or it is stored nowhere and forgotten again.
use Rattle.std.proofs.Common.{◌≡◌, ◌<◌, ◌≤◌, ℕ, suc, ◌+◌, ◌++◌, length, Option, Some, None, refl, sym, ap, subst, ◌∙◌, inl, inr, arith}
use Rattle.std.specs.Prelude.{◌⊎◌}
use Rattle.std.specs.Option.{MatchOption}
use Rattle.std.specs.declared.result.Result.{Result}
use Rattle.std.specs.declared.result.Result.TheVariants.{Ok, Err}
use Rattle.pl_term.specs.Tree.{Tree}
use Rattle.pl_model.specs.History.{Clause, History, Proc}
use Rattle.pl_model.specs.Predicates.{proc_of}
use Rattle.pl_model.specs.Service.{clause_cells, entry_by}
use Rattle.pl_model.specs.SharedState.{SharedState, change}
use Rattle.atom_api.specs.Names.{Names}
use Rattle.atom_words.specs.declared.view.View.{View}
use Rattle.clause_db.specs.Faults.{addition_fault}
use Rattle.clause_db.specs.Parts.{Held}
use Rattle.clause_db.specs.Reading.{SaysFor}
use Rattle.clause_db.specs.Stands.{then_at}
use Rattle.clause_db.specs.Weights.{weight}
use Rattle.clause_db.specs.declared.fault.DbFault.{DbFault}
use Rattle.clause_db.specs.declared.fault.DbFault.TheVariants.{Memory as NoMemory}
use Rattle.world_api.specs.Visits.{clause_in}
use Rattle.counted_terms.specs.CountedTerms.{IsCounted, naming, said}
use Rattle.counted_terms.specs.Keeping.{kept, tally}
use Rattle.counted_terms.specs.Sharing.{Counts, IsWithin, Restored}
use Rattle.counted_terms.proofs.Sharing.{part_counted, rest_counted, restored_as, restored_same, restored_then, store_restores}
use Rattle.hub_database.specs.Adding.{adding_kind, origin_by, with_adding}
use Rattle.hub_database.specs.Clauses.{clause_by}
use Rattle.hub_database.specs.Database.{IsDatabase, clause_counts, databases}
use Rattle.hub_database.specs.declared.storing.Adding.{Adding}
use Rattle.hub_database.specs.declared.storing.Adding.TheVariants.{Text, First, Last}
use Rattle.hub_database.proofs.Deciding.{database_then}
use Rattle.hub_database.proofs.Open.{open_by, open_with}
use Rattle.hub_database.proofs.Readings.{says_carried}

-- what an addition does to the state
does : (by : Adding) (n e : ℕ) (p : Proc) (c : Clause) (s : SharedState) → (change n e (adding_kind by p c) s).database ≡ with_adding by n p c s.database
does Text n e p c s = refl
does First n e p c s = refl
does Last n e p c s = refl

flags_stay : (by : Adding) (n e : ℕ) (p : Proc) (c : Clause) (s : SharedState) → (change n e (adding_kind by p c) s).flags ≡ s.flags
flags_stay Text n e p c s = refl
flags_stay First n e p c s = refl
flags_stay Last n e p c s = refl

operators_stay : (by : Adding) (n e : ℕ) (p : Proc) (c : Clause) (s : SharedState) → (change n e (adding_kind by p c) s).operators ≡ s.operators
operators_stay Text n e p c s = refl
operators_stay First n e p c s = refl
operators_stay Last n e p c s = refl

-- the cause of a refusal by itself
abbrev pub cause : {T A : Type 0} → Result T (A × DbFault) → DbFault
cause (Ok x) = NoMemory
cause (Err e) = e.1

pub granted_says : {F R : Type 0} {S : F → Type 0} (o : Option F) → ((x : F) → S x → ⊥) → MatchOption o R S → (o ≡ None) × R
granted_says None no_ m = (refl, m)
granted_says (Some x) no_ m = absurd (no_ x m)

pub refused_says : {C Q : Type 0} (f : C → Option DbFault) (c d : C) (x : DbFault) (P : DbFault → Type 0) → c ≡ d → (Q → x ≡ NoMemory) → ((y : DbFault) → P y → x ≡ y) → MatchOption (f c) Q P → (x ≡ NoMemory) ⊎ (f d ≡ Some x)
refused_says {C} {Q} f c d x P is memory same m = go (f d) (subst (λ (u : C). MatchOption (f u) Q P) is m)
  where
    go : (o : Option DbFault) → MatchOption o Q P → (x ≡ NoMemory) ⊎ (o ≡ Some x)
    go None q = inl (memory q)
    go (Some y) q = inr (ap Some (sym (same y q)))

-- k: the keeper before, l: with the clause's atoms counted, o: after the load that shows that seat and keeper agree
module _ (old : Held Tree) (k l o : View) (n : ℕ) (t : Tree) (counts : Counts (clause_counts old) k n)
    (others : (u : Tree) → IsCounted u k → said (kept l) u ≡ said (kept k) u) (more : (a : ℕ) → tally l a ≡ naming a t + tally k a)
    (keeps : kept o ≡ kept l) (same : tally o ≡ tally l) where
  tally_same : (a : ℕ) → tally o a ≡ tally l a
  tally_same a = ap (λ (f : ℕ → ℕ). f a) same

  own_counted : (u : Tree) → IsWithin u (clause_counts old) → IsCounted u k
  own_counted u within = part_counted (clause_counts old) counts.rest k counts.exact u within

  own_same : (u : Tree) → IsWithin u (clause_counts old) → said (kept l) u ≡ said (kept k) u
  own_same u within = others u (own_counted u within)

  -- IT IS STORED
  pub stored_counts : (new : Held Tree) → ((w : Tree → ℕ) → weight w new ≡ w t + weight w old) → Restored (clause_counts old) (clause_counts new) k o n (suc n)
  stored_counts new weighs =
      restored_as (clause_counts old) (λ a. naming a t + clause_counts old a) (clause_counts new) k o n (suc n)
      (restored_then (clause_counts old) (λ a. naming a t + clause_counts old a) (λ a. naming a t + clause_counts old a) k l o n (suc n) (suc n)
      (store_restores (clause_counts old) k l n t others more)
      (restored_same (λ a. naming a t + clause_counts old a) l o (suc n) keeps tally_same))
      (λ a. weighs (naming a))

  pub says_stored : (goals : ℕ) (h : History) → IsDatabase k old goals h → SaysFor (clause_by l) old (databases goals h)
  says_stored goals h was = says_carried k l old (databases goals h) own_same was.says

  pub stored_database : (by : Adding) (p : Proc) (c : Clause) (goals e : ℕ) (h : History) (new : Held Tree) → p ≡ proc_of c.head
      → length h ≡ n → IsDatabase k old goals h → new.flags ≡ old.flags → new.operators ≡ old.operators
      → addition_fault clause_cells (databases goals h n) p (origin_by by) c ≡ None
      → SaysFor (clause_by l) new (then_at n (with_adding by n p c) (databases goals h))
      → IsDatabase o new goals (h ++ entry_by e (Some (adding_kind by p c)))
  stored_database by p c goals e h new own at was flags operators none says =
      database_then k o old new goals e h (adding_kind by p c) (with_adding by (length h) p c) was
      (does by (length h) e p c) (flags_stay by (length h) e p c) (operators_stay by (length h) e p c)
      (open_with by (length h) p c (databases goals h (length h)) (open_by by p c (databases goals h (length h)) (ap (λ (i : ℕ). addition_fault clause_cells (databases goals h i) p (origin_by by) c) at ∙ none)) own)
      flags operators
      (subst (λ (m : Names). SaysFor (λ u. clause_in (said m u)) new (then_at (length h) (with_adding by (length h) p c) (databases goals h))) (sym keeps)
      (subst (λ (i : ℕ). SaysFor (clause_by l) new (then_at i (with_adding by i p c) (databases goals h))) (sym at) says))

  pub stored_says : (by : Adding) (p : Proc) (c : Clause) (goals e : ℕ) (h : History) (new : Held Tree) (P : DbFault → Type 0) → ((x : DbFault) → P x → ⊥) → clause_by l t ≡ c
      → length h ≡ n → IsDatabase k old goals h → new.flags ≡ old.flags → new.operators ≡ old.operators
      → MatchOption (addition_fault clause_cells (databases goals h n) p (origin_by by) (clause_by l t)) (SaysFor (clause_by l) new (then_at n (with_adding by n p (clause_by l t)) (databases goals h))) P
      → (addition_fault clause_cells (databases goals h n) p (origin_by by) c ≡ None) × (p ≡ proc_of c.head → IsDatabase o new goals (h ++ entry_by e (Some (adding_kind by p c))))
  stored_says by p c goals e h new P bad is at was flags operators m =
      let both = granted_says (addition_fault clause_cells (databases goals h n) p (origin_by by) c) bad
      (subst (λ (u : Clause). MatchOption (addition_fault clause_cells (databases goals h n) p (origin_by by) u) (SaysFor (clause_by l) new (then_at n (with_adding by n p u) (databases goals h))) P) is m) in
      (both.0, λ own. stored_database by p c goals e h new own at was flags operators both.0 both.1)

  -- IT IS FORGOTTEN AGAIN, f: the keeper then
  module _ (f : View) (others_back : (u : Tree) → IsCounted u f → said (kept f) u ≡ said (kept o) u) (less : (a : ℕ) → naming a t + tally f a ≡ tally o a) where
    back : (a : ℕ) → tally f a ≡ tally k a
    back a = let x = more a in let y = tally_same a in let z = less a in omega arith

    as_before : (u : Tree) → IsCounted u k → said (kept f) u ≡ said (kept k) u
    as_before u counted =
        others_back u (λ a some_. subst (λ (i : ℕ). 0 < i) (sym (back a)) (counted a some_))
        ∙ (ap (λ (m : Names). said m u) keeps ∙ others u counted)

    pub forgotten_counts : Restored (clause_counts old) (clause_counts old) k f n n
    forgotten_counts = record {
      exact = λ rest sums a. back a ∙ sums a;
      says = λ rest sums u within. as_before u (rest_counted (clause_counts old) rest k sums u within);
      few = λ few a. subst (λ (i : ℕ). i ≤ n) (sym (back a)) (few a);
    }

    pub forgotten_database : (goals : ℕ) (h : History) → IsDatabase k old goals h → IsDatabase f old goals h
    forgotten_database goals h was = record {
      says = says_carried k f old (databases goals h) (λ u within. as_before u (own_counted u within)) was.says;
      flags = was.flags;
      operators = was.operators;
      open_only = was.open_only;
    }
