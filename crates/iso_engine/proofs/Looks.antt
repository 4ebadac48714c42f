-- What is seen of goals and of clauses.
use Rattle.std.proofs.Common.{◌≡◌, ℕ, suc, ◌<◌, Bool, true, false, cond, ◌==◌, ◌&&◌, List, [], ◌∷◌, length, get_or, refl, sym, ap, subst, ◌∙◌, arith}
use Rattle.std.proofs.lemmas.Bool.{false≢true}
use Rattle.pl_term.specs.Tree.{Tree, atom, comp, none, more, compound}
use Rattle.iso_search.proofs.Constructing.{count-trees}
use Rattle.term_store.specs.declared.argument_key.ArgumentKey.{ArgumentKey}
use Rattle.term_store.specs.declared.argument_key.ArgumentKey.TheVariants.{Compound}
use Rattle.term_store.specs.ArgumentKeys.{argument_key, clause_key, head_key}
use Rattle.term_store.specs.Heap.{atom_name}
use Rattle.term_store.specs.NumberedNames.{neck}
use Rattle.world_api.specs.declared.visit.Procedure.{Procedure}
use Rattle.iso_engine.specs.CalledGoals.{HasPredicate}

pub compound_key : (f k : ℕ) (ts : List Tree) (t : Tree) → t ≡ compound (atom_name f) ts → length ts ≡ k → 0 < k → Compound f k ≡ argument_key t
compound_key f k [] t is long some = absurd (omega (arith, long, some))
compound_key f k (u ∷ us) t is long some =
    ap (Compound f) (sym long ∙ ap suc (sym (count-trees us))) ∙ sym (ap argument_key is)

pub compound_predicate : (f k : ℕ) (ts : List Tree) (t : Tree) (p : Procedure) → t ≡ compound (atom_name f) ts → length ts ≡ k → 0 < k
    → p.name ≡ f → p.arity ≡ k → HasPredicate t p
compound_predicate f k [] t p is long some name arity = absurd (omega (arith, long, some))
compound_predicate f k (u ∷ us) t p is long some name arity =
    subst (λ x. HasPredicate x p) (sym is) (ap atom_name (sym name), arity ∙ sym long ∙ ap suc (sym (count-trees us)))

-- No rule.
abbrev pub IsFact : ℕ → ℕ → Type 0
IsFact f k = ((f == neck) && (k == 2)) ≡ false

pub other_name : (f k : ℕ) → (f == neck) ≡ false → IsFact f k
other_name f k e = ap (λ b. b && (k == 2)) e

pub other_count : (f k : ℕ) → (k == 2) ≡ false → IsFact f k
other_count f k e = go (f == neck)
  where
    go : (b : Bool) → (b && (k == 2)) ≡ false
    go true = e
    go false = refl

fact_key : (f : ℕ) (ts : List Tree) → IsFact f (length ts) → 0 < length ts → argument_key (get_or ts 0 (atom [])) ≡ clause_key (compound (atom_name f) ts)
fact_key f [] fact some = absurd (omega (arith, some))
fact_key f (x ∷ []) fact some = refl
fact_key f (x ∷ (y ∷ [])) fact some = go (f == neck) fact
  where
    go : (b : Bool) → (b && true) ≡ false → argument_key x ≡ head_key (cond b x (comp (atom_name f) x (more y none)))
    go true e = absurd (false≢true (sym e))
    go false e = refl
fact_key f (x ∷ (y ∷ (z ∷ zs))) fact some = refl

pub goal_key : (f k : ℕ) (ts : List Tree) (t u : Tree) (r : ArgumentKey) → t ≡ compound (atom_name f) ts → length ts ≡ k → 0 < k → IsFact f k
    → u ≡ get_or ts 0 (atom []) → r ≡ argument_key u → r ≡ clause_key t
goal_key f k ts t u r is long some fact first key =
    key ∙ ap argument_key first
    ∙ fact_key f ts (subst (IsFact f) (sym long) fact) (omega (arith, long, some))
    ∙ sym (ap clause_key is)

rule_key : (f : ℕ) (ts : List Tree) → (f == neck) ≡ true → length ts ≡ 2 → head_key (get_or ts 0 (atom [])) ≡ clause_key (compound (atom_name f) ts)
rule_key f [] is long = absurd (omega (arith, long))
rule_key f (x ∷ []) is long = absurd (omega (arith, long))
rule_key f (x ∷ (y ∷ [])) is long = sym (ap (λ b. head_key (cond b x (comp (atom_name f) x (more y none)))) is)
rule_key f (x ∷ (y ∷ (z ∷ zs))) is long = absurd (omega (arith, long))

pub rule_goal_key : (f : ℕ) (ts : List Tree) (t u : Tree) (r : ArgumentKey) → t ≡ compound (atom_name f) ts → (f == neck) ≡ true → length ts ≡ 2
    → u ≡ get_or ts 0 (atom []) → r ≡ head_key u → r ≡ clause_key t
rule_goal_key f ts t u r is rule long first key = key ∙ ap head_key first ∙ rule_key f ts rule long ∙ sym (ap clause_key is)
