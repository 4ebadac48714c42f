-- What operators that are put into the table come to.
use Rattle.std.proofs.Common.{◌≡◌, ℕ, zero, suc, List, [], ◌∷◌, ◌++◌, map, take, Option, Some, None, Bool, false, refl, sym, ap, ◌∙◌}
use Rattle.std.specs.Prelude.{codes, is_some, IsSome}
use Rattle.std.specs.Option.{option_and_then, option_map}
use Rattle.std.specs.List.{list_any, slice_get}
use Rattle.std.proofs.lemmas.Bool.{false≢true}
use Rattle.std.proofs.lemmas.Option.{same_Some}
use Rattle.pl_term.specs.Tree.{Chars, Tree, atom}
use Rattle.pl_model.specs.OperatorTable.{OperatorTable, Refusal, comma, infix_postfix, priority, refusal, reserved, specifier, specifier_of}
use Rattle.pl_model.specs.Operators as definitions
use Rattle.pl_model.specs.Service.{operator_error, operators_error}
use Rattle.pl_model.specs.declared.operators.Kind.{Kind}
use Rattle.atom_api.specs.Fixed.{fixed, fixed_texts}
use Rattle.atom_api.specs.Names.{Names}
use Rattle.op_table.specs.Faults.{fault_of}
use Rattle.op_table.specs.declared.fault.OpFault.{OpFault}
use Rattle.op_table.specs.declared.fault.OpFault.TheVariants as faults
use Rattle.op_table.specs.declared.operator.Operator.{Operator}
use Rattle.clause_db.specs.Operators.{shown}
use Rattle.world_api.specs.Texts.{or_no_text, text_of}
use Rattle.counted_terms.specs.CountedTerms.{said}
use Rattle.hub_database.specs.Operators.{fault_in, operators_by}
use Rattle.hub_database.proofs.Served.{neither}

pub create_fixed : fixed 68 ≡ Some (codes "create")
unfolding fixed_texts
create_fixed = refl

pub operator_fixed : fixed 137 ≡ Some (codes "operator")
unfolding fixed_texts
operator_fixed = refl

pub domain_fixed : fixed 77 ≡ Some (codes "domain_error")
unfolding fixed_texts
domain_fixed = refl

pub priority_fixed : fixed 138 ≡ Some (codes "operator_priority")
unfolding fixed_texts
priority_fixed = refl

-- each cause has its own answer
abbrev refusal_in : OpFault → Refusal
refusal_in faults.Priority = priority
refusal_in faults.Kind = specifier
refusal_in faults.Comma = comma
refusal_in faults.Reserved = reserved
refusal_in faults.InfixPostfix = infix_postfix
refusal_in faults.Memory = priority

refusal_same : (r : Refusal) → refusal_in (fault_of r) ≡ r
refusal_same priority = refl
refusal_same specifier = refl
refusal_same comma = refl
refusal_same reserved = refl
refusal_same infix_postfix = refl

pub fault_one : (r s : Refusal) → fault_of r ≡ fault_of s → r ≡ s
fault_one r s e = sym (refusal_same r) ∙ (ap refusal_in e ∙ refusal_same s)

-- the term that is an atom
pub atom_told : (m : Names) (a : ℕ) (e : Tree) → ((t : Chars) → m a ≡ Some t → said m e ≡ atom t) → IsSome (m a) → said m e ≡ atom (text_of m a)
atom_told m a e says held = go (m a) refl held
  where
    go : (o : Option Chars) → m a ≡ o → IsSome o → said m e ≡ atom (or_no_text a o)
    go None is some_ = absurd (false≢true some_)
    go (Some t) is some_ = says t is

-- the operators as the history has them
pub shown_by : (p : ℕ) (k : Kind) (fs : List Chars) → map shown (operators_by p k fs) ≡ map (λ (f : Chars). record { name = f; priority = p; specifier = specifier_of k }) fs
shown_by p k [] = refl
shown_by p k (f ∷ fs) = ap (λ (l : List definitions.Operator). record { name = f; priority = p; specifier = specifier_of k } ∷ l) (shown_by p k fs)

-- one operator more
pub operators_more : (p : ℕ) (k : Kind) (fs : List Chars) (f : Chars) → operators_by p k (fs ++ f ∷ []) ≡ operators_by p k fs ++ record { name = f; priority = p; kind = k } ∷ []
operators_more p k [] f = refl
operators_more p k (g ∷ fs) f = ap (λ (l : List Operator). record { name = g; priority = p; kind = k } ∷ l) (operators_more p k fs f)

module _ (t : OperatorTable) (p : ℕ) (k : Kind) where
  abbrev refused_in : Operator → Bool
  refused_in o = is_some (fault_in t o)

  open_refusal : (o : Option Refusal) → is_some (option_map fault_of o) ≡ false → o ≡ None
  open_refusal None e = refl
  open_refusal (Some r) e = absurd (false≢true (sym e))

  -- NONE IS REFUSED
  pub no_error : (fs : List Chars) → list_any refused_in (operators_by p k fs) ≡ false → operators_error t p k fs ≡ None
  no_error [] none = refl
  no_error (f ∷ fs) none =
      let both = neither (refused_in (record { name = f; priority = p; kind = k })) (list_any refused_in (operators_by p k fs)) none in
      passed f fs (refusal t p (Some k) f) refl (open_refusal (refusal t p (Some k) f) both.0) ∙ no_error fs both.1
    where
      passed : (f : Chars) (fs : List Chars) (o : Option Refusal) → refusal t p (Some k) f ≡ o → o ≡ None → operators_error t p k (f ∷ fs) ≡ operators_error t p k fs
      passed f fs o is none = ap (λ (o : Option Refusal). elim o [ None ↦ operators_error t p k fs | Some r ↦ Some (operator_error p f r) ]) (is ∙ none)

  -- THE FIRST that is refused
  pub first_error : (fs : List Chars) (i : ℕ) (f : Chars) (r : Refusal) → slice_get fs i ≡ Some f → list_any refused_in (take i (operators_by p k fs)) ≡ false → refusal t p (Some k) f ≡ Some r
      → operators_error t p k fs ≡ Some (operator_error p f r)
  first_error [] i f r at none is = absurd (cc)
  first_error (h ∷ fs) zero f r at none is =
      let same : h ≡ f = same_Some h f at in
      ap (λ (g : Chars). operators_error t p k (g ∷ fs)) same ∙ ap (λ (o : Option Refusal). elim o [ None ↦ operators_error t p k fs | Some s ↦ Some (operator_error p f s) ]) is
  first_error (h ∷ fs) (suc i) f r at none is =
      let both = neither (refused_in (record { name = h; priority = p; kind = k })) (list_any refused_in (take i (operators_by p k fs))) none in
      ap (λ (o : Option Refusal). elim o [ None ↦ operators_error t p k fs | Some s ↦ Some (operator_error p h s) ]) (open_refusal (refusal t p (Some k) h) both.0)
      ∙ first_error fs i f r at both.1 is

  -- the cause at an index
  pub cause_at : (fs : List Chars) (i : ℕ) (f : Chars) (x : OpFault) → slice_get fs i ≡ Some f → option_and_then (fault_in t) (slice_get (operators_by p k fs) i) ≡ Some x
      → (r : Refusal) × (refusal t p (Some k) f ≡ Some r) × (x ≡ fault_of r)
  cause_at [] i f x at is = absurd (cc)
  cause_at (h ∷ fs) zero f x at is = found (refusal t p (Some k) f) refl (ap (λ (g : Chars). option_map fault_of (refusal t p (Some k) g)) (sym (same_Some h f at)) ∙ is)
    where
      found : (o : Option Refusal) → refusal t p (Some k) f ≡ o → option_map fault_of o ≡ Some x → (r : Refusal) × (refusal t p (Some k) f ≡ Some r) × (x ≡ fault_of r)
      found None e m = absurd (cc)
      found (Some r) e m = (r, e, sym (same_Some (fault_of r) x m))
  cause_at (h ∷ fs) (suc i) f x at is = cause_at fs i f x at is
