-- By what the clauses for a goal are asked for.
use Rattle.std.proofs.Common.{◌≡◌, ℕ, ℤ, suc, ◌<◌, ◌≤◌, ◌==◌, false, List, [], length, get_or, Option, Some, None, IfSome, refl, sym, ap, ap₂, subst, ◌∙◌, arith, codes}
use Rattle.pl_term.specs.Tree.{Tree, var, int, atom, comp, compound}
use Rattle.pl_model.specs.History.{Proc}
use Rattle.pl_model.specs.Predicates.{proc_of}
use Rattle.atom_api.specs.FixedNames.{call_name}
use Rattle.term_store.specs.declared.argument_key.ArgumentKey.TheVariants.{Any}
use Rattle.term_store.specs.ArgumentKeys.{argument_key}
use Rattle.term_store.specs.Heap.{atom_name}
use Rattle.term_store.specs.NumberedNames.{neck}
use Rattle.world_api.specs.declared.visit.Procedure.{Procedure}
use Rattle.iso_search.specs.Reading.{IsView, View}
use Rattle.iso_search.specs.Spelling.{spelled, text_of}
use Rattle.iso_search.proofs.Naming.{call_is, text_is}
use Rattle.iso_search.proofs.Spelt.{count-spelled}
use Rattle.iso_engine.specs.declared.call.goals.Request.{Request}
use Rattle.iso_engine.specs.CalledGoals.{HasPredicate, IsRequest}
use Rattle.iso_engine.specs.Following.{proc_in}
use Rattle.iso_engine.proofs.FreeNames.{apart, named_as}
use Rattle.iso_engine.proofs.Looks.{compound_predicate, goal_key, other_name}

pub atom_request : (t : Tree) (a : ℕ) (o : Option Request) → t ≡ atom (atom_name a) → IfSome o (λ r. r.procedure ≡ named_as a 0) → IfSome o (λ r. r.first ≡ Any)
    → IfSome o (IsRequest t)
atom_request t a None is named key = tt
atom_request t a (Some r) is named key =
    subst (λ x. IsRequest x r) (sym is) ((sym (ap (λ (p : Procedure). atom_name p.name) named), ap (λ (p : Procedure). p.arity) named), key)

-- A name that is no fixed atom is not the neck.
no_neck : (f : ℕ) → 203 ≤ f → (f == neck) ≡ false
no_neck f high = apart f neck (omega (arith, high))

pub compound_request : (f k : ℕ) (ts : List Tree) (t : Tree) (o : Option Request) → t ≡ compound (atom_name f) ts → length ts ≡ k → 0 < k
    → IfSome o (λ r. r.procedure ≡ named_as f k) → IfSome o (λ r. 203 ≤ f) → IfSome o (λ r. r.first ≡ argument_key (get_or ts 0 (atom [])))
    → IfSome o (IsRequest t)
compound_request f k ts t None is long some named own key = tt
compound_request f k ts t (Some r) is long some named own key = (
  compound_predicate f k ts t r.procedure is long some (ap (λ (p : Procedure). p.name) named) (ap (λ (p : Procedure). p.arity) named),
  goal_key f k ts t (get_or ts 0 (atom [])) r.first is long some (other_name f k (no_neck f own)) refl key,
)

-- The predicate by which a goal is asked for is that of the goal as it is read.
pub procedure_by : (v : View) → IsView v → (t : Tree) (p : Procedure) → HasPredicate t p → proc_of (spelled (text_of v.names) t) ≡ proc_in v p
procedure_by v view (var x) p is =
    sym (ap₂ (λ f k. let q : Proc = record { name = f; arity = k } in q)
    (ap (λ a. text_of v.names (atom_name a)) is.0 ∙ text_is v view call_name (codes "call") call_is) is.1)
procedure_by v view (int i) p is = absurd is
procedure_by v view (atom a) p is =
    ap₂ (λ f k. let q : Proc = record { name = f; arity = k } in q) (ap (text_of v.names) is.0) (sym is.1)
procedure_by v view (comp f t ts) p is =
    ap₂ (λ f k. let q : Proc = record { name = f; arity = k } in q) (ap (text_of v.names) is.0)
    (ap suc (count-spelled (text_of v.names) ts) ∙ sym is.1)

-- An integer is no goal.
pub no_integer : (t : Tree) (r : Request) → IsRequest t r → (i : ℤ) → t ≡ int i → ⊥
no_integer t r is i e = subst (λ x. HasPredicate x r.procedure) e is.0
