-- Predicates of the system have no clauses.
use Rattle.std.proofs.Common.{◌≡◌, ℕ, List, [], ◌∷◌, ◌++◌, map, Some, None, Bool, true, false, cond, refl, sym, ap, ap₂, ◌∙◌, rules}
use Rattle.std.specs.Prelude.{◌&&◌, ◌==◌, not, filter, bytes_eq, codes}
use Rattle.std.specs.Bool.{Decides}
use Rattle.std.proofs.lemmas.Bool.{false≢true}
use Rattle.std.proofs.lemmas.Bool.Decides.{Decides-like, Decides-and, Decides-eqb}
use Rattle.std.proofs.lemmas.Slice.Eq.{bytes_eq-Decides}
use Rattle.pl_term.specs.Tree.{Tree, var, int, atom, comp, none, more}
use Rattle.pl_model.specs.History.{Clause, Proc}
use Rattle.pl_model.specs.Predicates.{is_excluded, proc_of, same_proc}
use Rattle.pl_model.specs.FirstArguments.{head_of}
use Rattle.pl_model.specs.SystemPredicates.{system_predicates}
use Rattle.pl_model.specs.Database.{Stored, Database, choices, erased_where, has_room, is_erased, is_of, is_static, is_system, is_visible, used_cells}
use Rattle.pl_model.specs.Service.{clause_cells}
use Rattle.clause_db.specs.Faults.{addition_fault}
use Rattle.clause_db.specs.declared.fault.DbFault.TheVariants.{Static, CellsFull}
use Rattle.hub_database.specs.Database.{AllOpen, IsOwn}
use Rattle.hub_database.specs.Adding.{origin_by, with_adding}
use Rattle.hub_database.specs.declared.storing.Adding.{Adding}
use Rattle.hub_database.specs.declared.storing.Adding.TheVariants.{Text, First, Last}

-- the test for the same predicate is an equation
same_proc-Decides : (p q : Proc) → Decides (same_proc p q) (p ≡ q)
same_proc-Decides p q =
    Decides-like
    (same_proc p q)
    (λ e. ap₂ (λ n k. record { name = n; arity = k }) e.0 e.1)
    (λ e. (ap (λ r. r.name) e, ap (λ r. r.arity) e))
    (Decides-and
    (bytes_eq p.name q.name)
    (p.arity == q.arity)
    (bytes_eq-Decides p.name q.name)
    (Decides-eqb p.arity q.arity))

pub is_same : (p q : Proc) → same_proc p q ≡ true → p ≡ q
is_same p q e = (same_proc-Decides p q).0 e

rule_is_system : is_system (record { name = codes ":-"; arity = 2 }) ≡ true
unfolding system_predicates
rule_is_system = refl

-- a goal that is no rule is its own head
pub own_head : (goal : Tree) → is_system (proc_of goal) ≡ false → head_of goal ≡ goal
own_head (var x) e = refl
own_head (int i) e = refl
own_head (atom a) e = refl
own_head (comp f t none) e = refl
own_head (comp f t (more u none)) e = go (bytes_eq f (codes ":-")) refl
  where
    go : (b : Bool) → bytes_eq f (codes ":-") ≡ b → cond b t (comp f t (more u none)) ≡ comp f t (more u none)
    go true h = absurd (false≢true (sym e ∙ ap (λ n. is_system (record { name = n; arity = 2 })) ((bytes_eq-Decides f (codes ":-")).0 h) ∙ rule_is_system))
    go false h = refl
own_head (comp f t (more u (more v ts))) e = refl

-- none of a predicate of the system is seen
pub none_seen : (p : Proc) → is_system p ≡ true → (g : ℕ) (ss : List (Stored Clause))
    → AllOpen ss
    → filter (λ s. is_of p s && is_visible g s) ss ≡ []
none_seen p sys g [] all = refl
none_seen p sys g (s ∷ ss) all = go (same_proc s.procedure p) refl (none_seen p sys g ss all.1)
  where
    go : (b : Bool) → same_proc s.procedure p ≡ b
        → filter (λ s. is_of p s && is_visible g s) ss ≡ []
        → cond (b && is_visible g s) (s ∷ filter (λ s. is_of p s && is_visible g s) ss) (filter (λ s. is_of p s && is_visible g s) ss) ≡ []
    go true h rest = absurd (false≢true (sym all.0.open_ ∙ ap is_system (is_same s.procedure p h) ∙ sys))
    go false h rest = rest

-- CHANGES leave it so
pub open_erased : (test : Stored Clause → Bool) (k : ℕ) (ss : List (Stored Clause)) → AllOpen ss → AllOpen (map (erased_where test k) ss)
open_erased test k [] all = tt
open_erased test k (s ∷ ss) all = (go (test s && not (is_erased s)), open_erased test k ss all.1)
  where
    go : (b : Bool) → IsOwn (cond b (record s { erased = Some k }) s)
    go true = record { open_ = all.0.open_; own = all.0.own }
    go false = all.0

open_last : (s : Stored Clause) (ss : List (Stored Clause)) → IsOwn s → AllOpen ss → AllOpen (ss ++ s ∷ [])
open_last s [] one all = (one, tt)
open_last s (x ∷ ss) one all = (all.0, open_last s ss one all.1)

pub open_with : (by : Adding) (k : ℕ) (p : Proc) (c : Clause) (d : Database Clause) → is_system p ≡ false → p ≡ proc_of c.head → AllOpen d.clauses → AllOpen (with_adding by k p c d).clauses
open_with Text k p c d one own all = open_last _ d.clauses (record { open_ = one; own = own }) all
open_with First k p c d one own all = (record { open_ = one; own = own }, all)
open_with Last k p c d one own all = open_last _ d.clauses (record { open_ = one; own = own }) all

-- a clause that is granted is none of a predicate of the system
granted_open : (closed room : Bool) (used need : ℕ) → cond closed (Some Static) (cond room None (Some (CellsFull used need))) ≡ None → closed ≡ false
granted_open true room used need e = absurd (cc)
granted_open false room used need e = refl

static_system : (d : Database Clause) (p : Proc) → is_static d p ≡ false → is_system p ≡ false
static_system d p e = go (is_system p) refl
  where
    go : (b : Bool) → is_system p ≡ b → b ≡ false
    go true h = absurd (false≢true (sym e ∙ search (rules, h)))
    go false h = refl

pub open_by : (by : Adding) (p : Proc) (c : Clause) (d : Database Clause) → addition_fault clause_cells d p (origin_by by) c ≡ None → is_system p ≡ false
open_by Text p c d e = granted_open (is_system p) (has_room clause_cells c d) (used_cells clause_cells d) (clause_cells c) e
open_by First p c d e = static_system d p (granted_open (is_static d p) (has_room clause_cells c d) (used_cells clause_cells d) (clause_cells c) e)
open_by Last p c d e = static_system d p (granted_open (is_static d p) (has_room clause_cells c d) (used_cells clause_cells d) (clause_cells c) e)

-- THE LIST OF A GOAL is found by the goal's head
pub list_same : (goal : Tree) (g : ℕ) (d : Database Clause) → AllOpen d.clauses
    → choices (λ (c : Clause). is_excluded (head_of goal) c.head) g (proc_of goal) d ≡ choices (λ (c : Clause). is_excluded goal c.head) g (proc_of goal) d
list_same goal g d all = go (is_system (proc_of goal)) refl
  where
    go : (b : Bool) → is_system (proc_of goal) ≡ b
        → choices (λ (c : Clause). is_excluded (head_of goal) c.head) g (proc_of goal) d ≡ choices (λ (c : Clause). is_excluded goal c.head) g (proc_of goal) d
    go false e = ap (λ (t : Tree). choices (λ (c : Clause). is_excluded t c.head) g (proc_of goal) d) (own_head goal e)
    go true e =
        let empty = none_seen (proc_of goal) e g d.clauses all in
        ap (filter (λ (s : Stored Clause). not (is_excluded (head_of goal) s.clause.head))) empty
        ∙ sym (ap (filter (λ (s : Stored Clause). not (is_excluded goal s.clause.head))) empty)

-- THE FIRST OF A LIST is a clause of the procedure, and of its head's
pub first_own : (p : Proc) (g : ℕ) (t : Clause → Bool) (ss : List (Stored Clause)) → AllOpen ss → (c : Stored Clause) (cs : List (Stored Clause))
    → filter (λ (s : Stored Clause). not (t s.clause)) (filter (λ s. is_of p s && is_visible g s) ss) ≡ c ∷ cs → p ≡ proc_of c.clause.head
first_own p g t [] all c cs e = absurd (cc)
first_own p g t (s ∷ ss) all c cs e = go (same_proc s.procedure p) refl (is_visible g s) e (first_own p g t ss all.1 c cs)
  where
    go : (b : Bool) → same_proc s.procedure p ≡ b → (v : Bool)
        → filter (λ (s : Stored Clause). not (t s.clause)) (cond (b && v) (s ∷ filter (λ s. is_of p s && is_visible g s) ss) (filter (λ s. is_of p s && is_visible g s) ss)) ≡ c ∷ cs
        → (filter (λ (s : Stored Clause). not (t s.clause)) (filter (λ s. is_of p s && is_visible g s) ss) ≡ c ∷ cs → p ≡ proc_of c.clause.head)
        → p ≡ proc_of c.clause.head
    go true same true e rest = tried (t s.clause) e
      where
        tried : (x : Bool) → cond (not x) (s ∷ filter (λ (s : Stored Clause). not (t s.clause)) (filter (λ s. is_of p s && is_visible g s) ss)) (filter (λ (s : Stored Clause). not (t s.clause)) (filter (λ s. is_of p s && is_visible g s) ss)) ≡ c ∷ cs → p ≡ proc_of c.clause.head
        tried true e = rest e
        tried false e = let here : s ≡ c = cc in sym (is_same s.procedure p same) ∙ (all.0.own ∙ ap (λ (z : Stored Clause). proc_of z.clause.head) here)
    go true same false e rest = rest e
    go false same v e rest = rest e

-- and the procedure is none of the system
pub first_open : (p : Proc) (g : ℕ) (t : Clause → Bool) (ss : List (Stored Clause)) → AllOpen ss → (c : Stored Clause) (cs : List (Stored Clause))
    → filter (λ (s : Stored Clause). not (t s.clause)) (filter (λ s. is_of p s && is_visible g s) ss) ≡ c ∷ cs → is_system p ≡ false
first_open p g t ss all c cs e = go (is_system p) refl
  where
    go : (b : Bool) → is_system p ≡ b → b ≡ false
    go true sys = let empty : [] ≡ c ∷ cs = sym (ap (filter (λ (s : Stored Clause). not (t s.clause))) (none_seen p sys g ss all)) ∙ e in absurd (cc)
    go false sys = refl
