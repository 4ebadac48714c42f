-- Clause-terms, their parts, and the clauses that are kept.
use Rattle.std.proofs.Common.{◌≡◌, ℕ, zero, ◌+◌, Bool, true, false, cond, List, [], ◌∷◌, ◌++◌, length, Option, Some, None, Ok, Err, IsSome, codes, refl, sym, ap, ap₂, subst, ◌∙◌, append-nil}
use Rattle.std.specs.Prelude.{is_some}
use Rattle.std.specs.List.{All}
use Rattle.std.proofs.lemmas.List.Elements.{All-append, All-cons, All-nil}
use Rattle.std.proofs.lemmas.Option.{same_Some}
use Rattle.pl_term.specs.Tree.{Tree, var, int, atom, comp, none, more}
use Rattle.pl_term.specs.Variables.{distinct, occurrences, place, rename, rename_by, variables}
use Rattle.pl_model.specs.Balls.{instantiation_error, not_callable}
use Rattle.pl_model.specs.BodyChecks.{body_of, clause_of, clause_of_term, converted, numbered_clause, rule, with_body, or_not_callable}
use Rattle.pl_model.specs.Checks.{bound_error, callable_error, first_error}
use Rattle.pl_model.specs.History as history
use Rattle.pl_model.specs.History.{body_part, head_part}
use Rattle.atom_api.specs.FixedNames.{neck_name, true_name}
use Rattle.atom_api.specs.Names.{Names, FixedStand}
use Rattle.term_store.specs.declared.words.Place.{Place}
use Rattle.term_store.specs.Contents.{Contents, Holds, term_at}
use Rattle.term_store.specs.Heap.{atom_name}
use Rattle.term_store.specs.NumberedNames.{term_by}
use Rattle.world_api.specs.Texts as worlds
use Rattle.world_api.specs.Visits.{clause_in}
use Rattle.world_builtins.specs.Naming.{IsHeldAt, atoms_in}
use Rattle.world_builtins.specs.Spelling.{reads, spelled, text_of}
use Rattle.iso_search.specs.Conversions.{Grows}
use Rattle.shared_builtins.specs.declared.clauses.Body.{Body}
use Rattle.shared_builtins.specs.declared.clauses.Body.TheVariants as bodies
use Rattle.shared_builtins.specs.declared.clauses.Given.TheVariants.{Clause, Refused}
use Rattle.shared_builtins.specs.declared.faults.Fault.{Fault}
use Rattle.shared_builtins.specs.declared.parts.Parts.{Parts}
use Rattle.shared_builtins.specs.Clauses.{AreReadParts, ArePartsOf, IsBodyOf, IsClauseFault, IsClauseOf, IsGoalOf, body_fault, clause_read, is_rule}
use Rattle.shared_builtins.specs.Kept.{IsKept}
use Rattle.shared_builtins.proofs.FixedNames.{neck_is, true_is}
use Rattle.shared_builtins.proofs.Numbering.{variables-renamed}
use Rattle.shared_builtins.proofs.PairTerms.{fixed_read}

-- A rule

module _ {t h b : Tree} (e : t ≡ comp (codes ":-") h (more b none)) where
  pub rule_head_is : head_part t ≡ h
  rule_head_is = ap head_part e

  pub rule_body_is : body_part t ≡ b
  rule_body_is = ap body_part e

  pub rule_is : is_rule t ≡ true
  rule_is = ap is_rule e

-- No rule

pub no_rule_head : (t : Tree) → is_rule t ≡ false → head_part t ≡ t
no_rule_head (var x) e = refl
no_rule_head (int i) e = refl
no_rule_head (atom a) e = refl
no_rule_head (comp f h none) e = refl
no_rule_head (comp f h (more b none)) e = ap (λ c. cond c h (comp f h (more b none))) e
no_rule_head (comp f h (more b (more c ts))) e = refl

pub no_rule_body : (t : Tree) → is_rule t ≡ false → body_part t ≡ atom (codes "true")
no_rule_body (var x) e = refl
no_rule_body (int i) e = refl
no_rule_body (atom a) e = refl
no_rule_body (comp f h none) e = refl
no_rule_body (comp f h (more b none)) e = ap (λ c. cond c b (atom (codes "true"))) e
no_rule_body (comp f h (more b (more c ts))) e = refl

pub fact_read : (m : Names) → FixedStand m → (s : Contents) (term : Place) (ps : Parts) → ps.head ≡ term → term_at s ps.body ≡ atom (atom_name true_name) → ps.is_rule ≡ false
    → is_rule (reads m s term) ≡ false → IsHeldAt m s term → AreReadParts m s term ps
fact_read m stands s term ps head body fact plain held =
    let P : ℕ → Type 0 = λ a. IsSome (m a) in
    record {
      head = ap (reads m s) head ∙ sym (no_rule_head (reads m s term) plain);
      body =
          ap (spelled (text_of m)) body ∙ ap atom (fixed_read m stands true_name (codes "true") true_is)
          ∙ sym (no_rule_body (reads m s term) plain);
      rule = fact ∙ sym plain;
      head_held = subst (IsHeldAt m s) (sym head) held;
      body_held =
          subst (λ t. All P (atoms_in t)) (sym body)
          (All-cons P true_name [] (ap is_some (stands true_name (codes "true") true_is)) (All-nil P));
    }

-- The checks of a head

pub head_refused : (h b e : Tree) → first_error (bound_error h ∷ (callable_error h ∷ [])) ≡ Some e → clause_of h b ≡ Err e
head_refused (var x) b e is = ap Err (same_Some instantiation_error e is)
head_refused (int i) b e is = ap Err (same_Some (not_callable (int i)) e is)
head_refused (atom a) b e is = absurd cc
head_refused (comp f t ts) b e is = absurd cc

pub head_passed : (h b : Tree) → first_error (bound_error h ∷ (callable_error h ∷ [])) ≡ None → clause_of h b ≡ with_body h (body_of b)
head_passed (var x) b is = absurd cc
head_passed (int i) b is = absurd cc
head_passed (atom a) b is = refl
head_passed (comp f t ts) b is = refl

pub body_passed : (h b goal : Tree) → converted b ≡ Some goal → with_body h (body_of b) ≡ Ok (numbered_clause h goal)
body_passed h b goal e = ap (λ o. with_body h (or_not_callable b o)) e

pub body_refused : (h b : Tree) → converted b ≡ None → with_body h (body_of b) ≡ Err (not_callable b)
body_refused h b e = ap (λ o. with_body h (or_not_callable b o)) e

-- The clause that is kept

pub rule_kept : (h goal : Tree) → clause_in (rename zero (rule h goal)) ≡ numbered_clause h goal
rule_kept h goal =
    let vs = variables (rule h goal) in
    ap (λ n. let c : history.Clause = record { head = rename_by (λ x. zero + place x vs) h; body = rename_by (λ x. zero + place x vs) goal; variables = n } in c) (variables-renamed (rule h goal))

fact_variables : (t : Tree) → variables (rule t (atom (codes "true"))) ≡ variables t
fact_variables t = ap distinct (append-nil (occurrences t))

is_rule-renamed : (f : ℕ → ℕ) (t : Tree) → is_rule (rename_by f t) ≡ is_rule t
is_rule-renamed f (var x) = refl
is_rule-renamed f (int i) = refl
is_rule-renamed f (atom a) = refl
is_rule-renamed f (comp g h none) = refl
is_rule-renamed f (comp g h (more b none)) = refl
is_rule-renamed f (comp g h (more b (more c ts))) = refl

fact_numbered : (t : Tree) → is_rule t ≡ false → clause_in (rename zero t) ≡ numbered_clause t (atom (codes "true"))
fact_numbered t e =
    let u = rename zero t in
    let plain = is_rule-renamed (λ x. zero + place x (variables t)) t ∙ e in
    ap₂ (λ (h : Tree) (p : Tree × ℕ). let c : history.Clause = record { head = h; body = p.0; variables = p.1 } in c) (no_rule_head u plain)
    (ap₂ (λ (b : Tree) (n : ℕ). let p : Tree × ℕ = (b, n) in p) (no_rule_body u plain) (variables-renamed t))
    ∙ ap (λ (vs : List ℕ). let c : history.Clause = record { head = rename_by (λ x. zero + place x vs) t; body = atom (codes "true"); variables = length vs } in c)
    (sym (fact_variables t))

pub fact_kept : (t : Tree) → is_rule t ≡ false → (c : history.Clause) → clause_of t (atom (codes "true")) ≡ Ok c → clause_of t (atom (codes "true")) ≡ Ok (clause_in (rename zero t))
fact_kept (var x) plain c e = absurd cc
fact_kept (int i) plain c e = absurd cc
fact_kept (atom a) plain c e = ap Ok (sym (fact_numbered (atom a) plain))
fact_kept (comp f t ts) plain c e = ap Ok (sym (fact_numbered (comp f t ts) plain))

-- What is kept of a clause-term

module _ (m : Names) (s t : Contents) (term : Place) (ps : Parts) (grown : Grows s t) (inside : ArePartsOf s term ps) (term_in : Holds s term)
    (read : AreReadParts m s term ps) where
  given : clause_of_term (reads m s term) ≡ clause_of (reads m s ps.head) (reads m s ps.body)
  given = ap₂ clause_of (sym read.head) (sym read.body)

  same_head : reads m t ps.head ≡ reads m s ps.head
  same_head = ap (spelled (text_of m)) (grown.stays.others ps.head inside.head_holds)

  same_term : reads m t term ≡ reads m s term
  same_term = ap (spelled (text_of m)) (grown.stays.others term term_in)

  pub term_held : IsHeldAt m s term → IsHeldAt m t term
  term_held held = subst (λ u. All (λ a. IsSome (m a)) (atoms_in u)) (sym (grown.stays.others term term_in)) held

  pub head_held : IsHeldAt m t ps.head
  head_held = subst (λ u. All (λ a. IsSome (m a)) (atoms_in u)) (sym (grown.stays.others ps.head inside.head_holds)) read.head_held

  pub refused_clause : (f : Fault) → IsBodyOf m s ps t (bodies.Refused f) → IsClauseOf m s term (Refused f)
  refused_clause f h = (given ∙ h.0, h.1)

  pub kept_as : (goal : Place) (k : Tree) → IsBodyOf m s ps t (bodies.Goal goal) → IsKept m (clause_read m t term ps goal) k → IsClauseOf m s term (Clause k)
  kept_as goal k h kept = (go ps.is_rule refl, kept.held)
    where
      go : (b : Bool) → ps.is_rule ≡ b → clause_of_term (reads m s term) ≡ Ok (clause_in (term_by (worlds.text_of m) k))
      go true e =
          let shape : clause_read m t term ps goal ≡ rule (reads m s ps.head) (reads m t goal) =
          ap (λ b. cond b (rule (reads m t ps.head) (reads m t goal)) (reads m t term)) e ∙ ap (λ h. rule h (reads m t goal)) same_head in
          given ∙ h.0 ∙ ap Ok (sym (rule_kept (reads m s ps.head) (reads m t goal)) ∙ sym (ap (λ x. clause_in (rename zero x)) shape) ∙ sym (ap clause_in kept.stands))
      go false e =
          let shape : clause_read m t term ps goal ≡ reads m s term =
          ap (λ b. cond b (rule (reads m t ps.head) (reads m t goal)) (reads m t term)) e ∙ same_term in
          let plain : is_rule (reads m s term) ≡ false = sym read.rule ∙ e in
          let fact : clause_of_term (reads m s term) ≡ clause_of (reads m s term) (atom (codes "true")) =
          ap₂ clause_of (no_rule_head (reads m s term) plain) (no_rule_body (reads m s term) plain) in
          fact
          ∙ fact_kept (reads m s term) plain (numbered_clause (reads m s ps.head) (reads m t goal)) (sym fact ∙ given ∙ h.0)
          ∙ ap Ok (sym (ap (λ x. clause_in (rename zero x)) shape) ∙ sym (ap clause_in kept.stands))

  pub fault_of_clause : (b : Body) (o : Option Fault) → o ≡ body_fault b → IsBodyOf m s ps t b → IsClauseFault m s term o
  fault_of_clause b o e h = subst (IsClauseFault m s term) (sym e) (go b h)
    where
      go : (b : Body) → IsBodyOf m s ps t b → IsClauseFault m s term (body_fault b)
      go (bodies.Goal q) h = (numbered_clause (reads m s ps.head) (reads m t q), given ∙ h.0)
      go (bodies.Refused f) h = (given ∙ h.0, h.1)

-- A body, by its goal

pub body_from : (m : Names) (s t : Contents) (ps : Parts) (b : Body) → first_error (bound_error (reads m s ps.head) ∷ (callable_error (reads m s ps.head) ∷ [])) ≡ None
    → IsGoalOf m s ps.body t b → IsBodyOf m s ps t b
body_from m s t ps (bodies.Goal q) e h =
    (head_passed (reads m s ps.head) (reads m s ps.body) e ∙ body_passed (reads m s ps.head) (reads m s ps.body) (reads m t q) h.0, h.1)
body_from m s t ps (bodies.Refused f) e h =
    (head_passed (reads m s ps.head) (reads m s ps.body) e ∙ body_refused (reads m s ps.head) (reads m s ps.body) h.0 ∙ ap Err h.1.0, h.1.1)

-- The clause as one term
pub rule_made : (m : Names) → FixedStand m → (s t : Contents) (term : Place) (ps : Parts) (goal p : Place) → ps.is_rule ≡ true
    → term_at t p ≡ comp (atom_name neck_name) (term_at s ps.head) (more (term_at s goal) none) → reads m t p ≡ clause_read m s term ps goal
rule_made m stands s t term ps goal p e is =
    ap (spelled (text_of m)) is ∙ ap (λ f. comp f (reads m s ps.head) (more (reads m s goal) none)) (fixed_read m stands neck_name (codes ":-") neck_is)
    ∙ sym (ap (λ b. cond b (rule (reads m s ps.head) (reads m s goal)) (reads m s term)) e)

pub rule_held : (m : Names) → FixedStand m → (s t : Contents) (head goal p : Place) → term_at t p ≡ comp (atom_name neck_name) (term_at s head) (more (term_at s goal) none)
    → IsHeldAt m s head → IsHeldAt m s goal → IsHeldAt m t p
rule_held m stands s t head goal p is hh hg =
    let P : ℕ → Type 0 = λ a. IsSome (m a) in
    subst (λ u. All P (atoms_in u)) (sym is)
    (All-cons P neck_name (atoms_in (term_at s head) ++ (atoms_in (term_at s goal) ++ [])) (ap is_some (stands neck_name (codes ":-") neck_is))
    (All-append P (atoms_in (term_at s head)) (atoms_in (term_at s goal) ++ []) hh (All-append P (atoms_in (term_at s goal)) [] hg (All-nil P))))
