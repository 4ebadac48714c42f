-- Instances of terms, and bindings put into them.
use Rattle.std.proofs.Common.{◌≡◌, ℕ, zero, suc, ◌+◌, Bool, true, false, cond, List, [], ◌∷◌, ◌++◌, map, Option, Some, None, refl, sym, ap, ap₂, subst, ◌∙◌, arith, append-nil, append_assoc}
use Rattle.pl_term.specs.Tree.{Chars, Tree, Trees, var, int, atom, comp, none, more, trees, compound}
use Rattle.pl_term.specs.Variables.{has, replace, replace_all, rename_by, rename_all_by}
use Rattle.pl_model.specs.Unify.{Bindings, Difference, same, clash, binds, bound, bound_all, difference, differences, or_later, turn, solve, unify, instance, instances}
use Rattle.pl_model.proofs.UnifyDifference.{Pairs, difference-says}
use Rattle.pl_model.proofs.UnifyLaws.{no_unifier}
use Rattle.pl_model.proofs.UnifySolved.{solved}
use Rattle.pl_model.proofs.UnifyTurns.{solve-skip}
use Rattle.term_store.specs.Entering.{Comes, Never}
use Rattle.term_store.proofs.Equations.{bound-int, bound-atom, bound-comp}

mutual
  pub instance_same : (s r : ℕ → Tree) → ((x : ℕ) → s x ≡ r x) → (t : Tree) → instance s t ≡ instance r t
  instance_same s r e (var x) = e x
  instance_same s r e (int i) = refl
  instance_same s r e (atom a) = refl
  instance_same s r e (comp f t ts) = ap₂ (comp f) (instance_same s r e t) (instances_same s r e ts)

  instances_same : (s r : ℕ → Tree) → ((x : ℕ) → s x ≡ r x) → (ts : Trees) → instances s ts ≡ instances r ts
  instances_same s r e none = refl
  instances_same s r e (more t ts) = ap₂ more (instance_same s r e t) (instances_same s r e ts)

mutual
  pub instance_new : (f : ℕ → ℕ) (t : Tree) → instance (λ x. var (f x)) t ≡ rename_by f t
  instance_new f (var x) = refl
  instance_new f (int i) = refl
  instance_new f (atom a) = refl
  instance_new f (comp g t ts) = ap₂ (comp g) (instance_new f t) (instances_new f ts)

  instances_new : (f : ℕ → ℕ) (ts : Trees) → instances (λ x. var (f x)) ts ≡ rename_all_by f ts
  instances_new f none = refl
  instances_new f (more t ts) = ap₂ more (instance_new f t) (instances_new f ts)

bound_all-none : (bs : Bindings) → bound_all bs none ≡ none
bound_all-none [] = refl
bound_all-none (b ∷ bs) = bound_all-none bs

pub bound_all-more : (bs : Bindings) (t : Tree) (ts : Trees) → bound_all bs (more t ts) ≡ more (bound bs t) (bound_all bs ts)
bound_all-more [] t ts = refl
bound_all-more (b ∷ bs) t ts = bound_all-more bs (replace b.0 b.1 t) (replace_all b.0 b.1 ts)

pub bound_all-append : (bs cs : Bindings) (ts : Trees) → bound_all (bs ++ cs) ts ≡ bound_all cs (bound_all bs ts)
bound_all-append [] cs ts = refl
bound_all-append (b ∷ bs) cs ts = bound_all-append bs cs (replace_all b.0 b.1 ts)

-- Bindings put into an instance.
mutual
  pub bound_instance : (bs : Bindings) (s : ℕ → Tree) (t : Tree) → bound bs (instance s t) ≡ instance (λ x. bound bs (s x)) t
  bound_instance bs s (var x) = refl
  bound_instance bs s (int i) = bound-int bs i
  bound_instance bs s (atom a) = bound-atom bs a
  bound_instance bs s (comp f t ts) =
      bound-comp bs f (instance s t) (instances s ts) ∙ ap₂ (comp f) (bound_instance bs s t) (bound_instances bs s ts)

  bound_instances : (bs : Bindings) (s : ℕ → Tree) (ts : Trees) → bound_all bs (instances s ts) ≡ instances (λ x. bound bs (s x)) ts
  bound_instances bs s none = bound_all-none bs
  bound_instances bs s (more t ts) =
      bound_all-more bs (instance s t) (instances s ts) ∙ ap₂ more (bound_instance bs s t) (bound_instances bs s ts)

-- A term under bindings is its instance by what they make of the variables.
mutual
  pub instance_bound : (bs : Bindings) (t : Tree) → bound bs t ≡ instance (λ x. bound bs (var x)) t
  instance_bound bs (var x) = refl
  instance_bound bs (int i) = bound-int bs i
  instance_bound bs (atom a) = bound-atom bs a
  instance_bound bs (comp f t ts) = bound-comp bs f t ts ∙ ap₂ (comp f) (instance_bound bs t) (instances_bound bs ts)

  instances_bound : (bs : Bindings) (ts : Trees) → bound_all bs ts ≡ instances (λ x. bound bs (var x)) ts
  instances_bound bs none = bound_all-none bs
  instances_bound bs (more t ts) = bound_all-more bs t ts ∙ ap₂ more (instance_bound bs t) (instances_bound bs ts)

pub instances-trees : (s : ℕ → Tree) (ts : List Tree) → instances s (trees ts) ≡ trees (map (instance s) ts)
instances-trees s [] = refl
instances-trees s (t ∷ ts) = ap (more (instance s t)) (instances-trees s ts)

pub instance-compound : (s : ℕ → Tree) (f : Chars) (ts : List Tree) → instance s (compound f ts) ≡ compound f (map (instance s) ts)
instance-compound s f [] = refl
instance-compound s f (t ∷ ts) = ap (comp f (instance s t)) (instances-trees s ts)

-- Two terms that stand in front of others are unified first.
abbrev pub Agrees : Tree → Tree → Bindings → Type 0
Agrees t u made = (ts us : Trees) → Comes (more t ts) (more u us) made (bound_all made ts) (bound_all made us)

pub record Front (bs r : Bindings) (t u : Tree) : Type 0 where
  pub later : Bindings
  pub parts : r ≡ bs ++ later
  pub agrees : Agrees t u later

pub agrees_same : (t u : Tree) → t ≡ u → Agrees t u []
agrees_same t u e ts us =
    record {
      turns = zero;
      same = λ n bs.
          ap (λ m. solve m bs (more t ts) (more u us)) (zero_plus n)
          ∙ ap (λ v. solve n bs (more v ts) (more u us)) e ∙ solve-skip n bs u ts us ∙ ap (λ cs. solve n cs ts us) (sym (append-nil bs));
    }
  where
    zero_plus : (n : ℕ) → zero + n ≡ n
    zero_plus n = omega arith

agrees_turn : (t u : Tree) (x : ℕ) (s : Tree) (later : Bindings) → difference t u ≡ binds x s → has x s ≡ false
    → Agrees (replace x s t) (replace x s u) later → Agrees t u ((x, s) ∷ later)
agrees_turn t u x s later d absent agrees ts us =
    let c = agrees (replace_all x s ts) (replace_all x s us) in
    record {
      turns = suc c.turns;
      same = λ n bs.
          ap (λ m. solve m bs (more t ts) (more u us)) (suc_plus c.turns n)
          ∙ ap (λ e. turn (solve (c.turns + n)) bs (more t ts) (more u us) (or_later e (differences ts us))) d
          ∙ ap (λ b. cond b None (solve (c.turns + n) (bs ++ (x, s) ∷ []) (replace_all x s (more t ts)) (replace_all x s (more u us)))) absent
          ∙ c.same n (bs ++ (x, s) ∷ [])
          ∙ ap (λ cs. solve n cs (bound_all later (replace_all x s ts)) (bound_all later (replace_all x s us))) (append_assoc bs ((x, s) ∷ []) later);
    }
  where
    suc_plus : (i n : ℕ) → suc i + n ≡ suc (i + n)
    suc_plus i n = omega arith

pub front_first : (n : ℕ) (bs r : Bindings) (t u : Tree) → solve n bs (more t none) (more u none) ≡ Some r → Front bs r t u
front_first zero bs r t u e = cc
front_first (suc n) bs r t u e =
    go (λ x s k. front_first n (bs ++ (x, s) ∷ []) r (replace x s t) (replace x s u) k) (difference t u) refl e
  where
    go : ((x : ℕ) (s : Tree) → solve n (bs ++ (x, s) ∷ []) (more (replace x s t) none) (more (replace x s u) none) ≡ Some r
        → Front (bs ++ (x, s) ∷ []) r (replace x s t) (replace x s u))
        → (d : Difference) → difference t u ≡ d → turn (solve n) bs (more t none) (more u none) (or_later d same) ≡ Some r → Front bs r t u
    go ih same d k =
        record { later = []; parts = some_of k ∙ sym (append-nil bs); agrees = agrees_same t u (subst (λ v. Pairs v t u) d (difference-says t u)) }
      where
        some_of : Some bs ≡ Some r → r ≡ bs
        some_of e = cc
    go ih clash d k = cc
    go ih (binds x s) d k = held (has x s) refl k
      where
        held : (b : Bool) → has x s ≡ b
            → cond b None (solve n (bs ++ (x, s) ∷ []) (replace_all x s (more t none)) (replace_all x s (more u none))) ≡ Some r → Front bs r t u
        held true h k = cc
        held false h k =
            let f = ih x s k in
            record {
              later = (x, s) ∷ f.later;
              parts = f.parts ∙ append_assoc bs ((x, s) ∷ []) f.later;
              agrees = agrees_turn t u x s f.later d h f.agrees;
            }

first_of : (t u : Tree) (ts us : Trees) → more t ts ≡ more u us → t ≡ u
first_of t u ts us e = cc

-- Two terms that nothing unifies are never unified, whatever stands behind them.
pub never_unified : (t u : Tree) → unify t u ≡ None → Never t u
never_unified t u e ts us n bs = go (solve n bs (more t ts) (more u us)) refl
  where
    go : (r : Option Bindings) → solve n bs (more t ts) (more u us) ≡ r → r ≡ None
    go None k = refl
    go (Some r) k =
        let s = solved n bs r (more t ts) (more u us) k in
        let equal : bound s.later t ≡ bound s.later u =
        first_of (bound s.later t) (bound s.later u) (bound_all s.later ts) (bound_all s.later us)
        (sym (bound_all-more s.later t ts) ∙ s.equal ∙ bound_all-more s.later u us) in
        absurd (no_unifier t u e (λ x. bound s.later (var x)) (sym (instance_bound s.later t) ∙ equal ∙ instance_bound s.later u))
