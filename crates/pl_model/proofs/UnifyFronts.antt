-- The first terms of two lists that are read side by side.
use Rattle.std.proofs.Common.{◌≡◌, ◌≢◌, ℕ, suc, ◌<◌, Bool, true, false, cond, ◌&&◌, ◌==◌, nat_lt, ◌⊎◌, List, ◌++◌, length, get_or, Option, Some, None, refl, sym, ap, ap₂, ◌∙◌, inl, inr, arith}
use Rattle.std.proofs.lemmas.Bool.Decides.{Decides-eqb, Decides-int_eq}
use Rattle.std.proofs.lemmas.Slice.Eq.{bytes_eq-Decides}
use Rattle.std.specs.Ordering.{int_eq}
use Rattle.std.specs.Str.{bytes_eq}
use Rattle.pl_term.specs.declared.node.Node.{Node}
use Rattle.pl_term.specs.declared.node.Node.TheVariants.{Int, Atom, Comp}
use Rattle.pl_term.specs.Tree.{Tree, Trees, var, int, atom, comp, none, more, count}
use Rattle.pl_term.specs.Nodes.{nodes, nodes_all, forest, tree, head_or_empty}
use Rattle.pl_model.specs.Unify.{clash, binds, difference}
use Rattle.pl_model.proofs.UnifyReplace.{cond_cases, eqb_same, replace-absent}
use Rattle.pl_model.proofs.UnifyDifference.{and-true}
use Rattle.pl_term.specs.Variables.{has, replace}
use Rattle.pl_model.specs.laws.Subterms.{StartsTerm}
use Rattle.pl_model.specs.laws.UnifySides.{variable_at}
use Rattle.pl_model.proofs.UnifyNodes.{first_node}

-- The first term of a list, and the others.
pub record Front (ns : List Node) : Type 0 where
  pub term : Tree
  pub others : Trees
  pub whole : forest ns ≡ more term others
  pub parts : ns ≡ nodes term ++ nodes_all others
  pub is_first : tree ns ≡ term
  pub node : (d : Node) → get_or ns 0 d ≡ first_node term

get_or-front : (t : Tree) (ns : List Node) (d : Node) → get_or (nodes t ++ ns) 0 d ≡ first_node t
get_or-front (var x) ns d = refl
get_or-front (int i) ns d = refl
get_or-front (atom a) ns d = refl
get_or-front (comp f t ts) ns d = refl

pub front : (ns : List Node) → nodes_all (forest ns) ≡ ns → 0 < length ns → Front ns
front ns e h = go (forest ns) refl e
  where
    go : (ts : Trees) → forest ns ≡ ts → nodes_all ts ≡ ns → Front ns
    go none f e = absurd (omega (arith, ap (length {A = Node}) e))
    go (more t ts) f e =
        record {
          term = t;
          others = ts;
          whole = f;
          parts = sym e;
          is_first = ap head_or_empty f;
          node = λ d. ap (λ l. get_or l 0 d) (sym e) ∙ get_or-front t (nodes_all ts) d;
        }

pub StartsTerm-front : {ns : List Node} → Front ns → StartsTerm ns
StartsTerm-front f = record { term = f.term; rest = nodes_all f.others; parts = f.parts }

pub left_binds : (t u : Tree) (x : ℕ) → variable_at (first_node t) ≡ Some x → variable_at (first_node u) ≡ None → (difference t u ≡ binds x u) × (length (nodes t) ≡ 1)
left_binds (var y) (var z) x e k = cc
left_binds (var y) (int i) x e k = (ap (λ v. binds v (int i)) cc, refl)
left_binds (var y) (atom a) x e k = (ap (λ v. binds v (atom a)) cc, refl)
left_binds (var y) (comp f t ts) x e k = (ap (λ v. binds v (comp f t ts)) cc, refl)
left_binds (int i) u x e k = absurd cc
left_binds (atom a) u x e k = absurd cc
left_binds (comp f t ts) u x e k = absurd cc

pub right_binds : (t u : Tree) (x : ℕ) → variable_at (first_node t) ≡ None → variable_at (first_node u) ≡ Some x → (difference t u ≡ binds x t) × (length (nodes u) ≡ 1)
right_binds (var z) (var y) x e k = absurd cc
right_binds (int i) (var y) x e k = (ap (λ v. binds v (int i)) cc, refl)
right_binds (atom a) (var y) x e k = (ap (λ v. binds v (atom a)) cc, refl)
right_binds (comp f t ts) (var y) x e k = (ap (λ v. binds v (comp f t ts)) cc, refl)
right_binds t (int i) x e k = absurd cc
right_binds t (atom a) x e k = absurd cc
right_binds t (comp f u us) x e k = absurd cc

pub variable_is : (t : Tree) (x : ℕ) → variable_at (first_node t) ≡ Some x → t ≡ var x
variable_is (var y) x e = ap var cc
variable_is (int i) x e = absurd cc
variable_is (atom a) x e = absurd cc
variable_is (comp f t ts) x e = absurd cc

-- Two terms that are no variables clash where their first nodes differ.
pub none_binds : (t u : Tree) → variable_at (first_node t) ≡ None → variable_at (first_node u) ≡ None → first_node t ≢ first_node u → difference t u ≡ clash
none_binds (var x) u e k h = absurd cc
none_binds (int i) (var y) e k h = absurd cc
none_binds (int i) (int j) e k h =
    cond_cases (λ d. d ≡ clash) (int_eq i j) (λ b. absurd (h (ap Int ((Decides-int_eq i j).0 b)))) (λ b. refl)
none_binds (int i) (atom b) e k h = refl
none_binds (int i) (comp g u us) e k h = refl
none_binds (atom a) (var y) e k h = absurd cc
none_binds (atom a) (int j) e k h = refl
none_binds (atom a) (atom b) e k h =
    cond_cases (λ d. d ≡ clash) (bytes_eq a b) (λ l. absurd (h (ap Atom ((bytes_eq-Decides a b).0 l)))) (λ l. refl)
none_binds (atom a) (comp g u us) e k h = refl
none_binds (comp f t ts) (var y) e k h = absurd cc
none_binds (comp f t ts) (int j) e k h = refl
none_binds (comp f t ts) (atom b) e k h = refl
none_binds (comp f t ts) (comp g u us) e k h =
    cond_cases (λ d. d ≡ clash) (bytes_eq f g && (count ts == count us))
    (λ l.
    let p = and-true (bytes_eq f g) (count ts == count us) l in
    absurd (h (ap₂ Comp ((bytes_eq-Decides f g).0 p.0) (ap suc ((Decides-eqb (count ts) (count us)).0 p.1)))))
    (λ l. refl)

-- Of two variables one is bound to the other.
pub variables_bind : (y z : ℕ) → y ≢ z → (difference (var y) (var z) ≡ binds z (var y)) ⊎ (difference (var y) (var z) ≡ binds y (var z))
variables_bind y z h = go (nat_lt y z) refl
  where
    other : (b : Bool) → nat_lt y z ≡ b → difference (var y) (var z) ≡ cond b (binds z (var y)) (binds y (var z))
    other b e =
        cond_cases (λ d. d ≡ cond b (binds z (var y)) (binds y (var z))) (y == z) (λ k. absurd (h ((Decides-eqb y z).0 k)))
        (λ _. ap (λ v. cond v (binds z (var y)) (binds y (var z))) e)

    go : (b : Bool) → nat_lt y z ≡ b → (difference (var y) (var z) ≡ binds z (var y)) ⊎ (difference (var y) (var z) ≡ binds y (var z))
    go true e = inl (other true e)
    go false e = inr (other false e)

-- Once a variable at the front is bound, the two first terms are the same.
pub replace-binds : (t u : Tree) (x : ℕ) (s : Tree) → first_node t ≢ first_node u → difference t u ≡ binds x s → has x s ≡ false
    → replace x s t ≡ replace x s u
replace-binds t u x s h e absent = go (variable_at (first_node t)) (variable_at (first_node u)) refl refl
  where
    put : (v : Tree) → v ≡ var x → replace x s v ≡ s
    put v e = ap (replace x s) e ∙ ap (λ b. cond b s (var x)) (eqb_same x)

    absent_same : (v : Tree) → v ≡ s → replace x s v ≡ s
    absent_same v e = ap (replace x s) e ∙ replace-absent s x s absent

    both : (y z : ℕ) → t ≡ var y → u ≡ var z → replace x s t ≡ replace x s u
    both y z k l =
        let apart : y ≢ z = λ m. h (ap first_node (k ∙ ap var m ∙ sym l)) in
        let here : difference (var y) (var z) ≡ binds x s = ap₂ difference (sym k) (sym l) ∙ e in
        elim (variables_bind y z apart) [
          | inl b ↦ sides_right y z k l (sym b ∙ here)
          | inr b ↦ sides_left y z k l (sym b ∙ here)
        ]
      where
        sides_right : (y z : ℕ) → t ≡ var y → u ≡ var z → binds z (var y) ≡ binds x s → replace x s t ≡ replace x s u
        sides_right y z k l d =
            let same_variable : z ≡ x = cc in
            let same_term : var y ≡ s = cc in
            absent_same t (k ∙ same_term) ∙ sym (put u (l ∙ ap var same_variable))

        sides_left : (y z : ℕ) → t ≡ var y → u ≡ var z → binds y (var z) ≡ binds x s → replace x s t ≡ replace x s u
        sides_left y z k l d =
            let same_variable : y ≡ x = cc in
            let same_term : var z ≡ s = cc in
            put t (k ∙ ap var same_variable) ∙ sym (absent_same u (l ∙ same_term))

    go : (m n : Option ℕ) → variable_at (first_node t) ≡ m → variable_at (first_node u) ≡ n → replace x s t ≡ replace x s u
    go None None k l = absurd (clashes (sym (none_binds t u k l h) ∙ e))
      where
        clashes : clash ≡ binds x s → ⊥
        clashes e = cc
    go (Some y) None k l =
        let d : binds y u ≡ binds x s = sym (left_binds t u y k l).0 ∙ e in
        let same_variable : y ≡ x = cc in
        let same_term : u ≡ s = cc in
        put t (variable_is t y k ∙ ap var same_variable) ∙ sym (replace-absent s x s absent) ∙ ap (replace x s) (sym same_term)
    go None (Some y) k l =
        let d : binds y t ≡ binds x s = sym (right_binds t u y k l).0 ∙ e in
        let same_variable : y ≡ x = cc in
        let same_term : t ≡ s = cc in
        ap (replace x s) same_term ∙ replace-absent s x s absent ∙ sym (put u (variable_is u y l ∙ ap var same_variable))
    go (Some y) (Some z) k l = both y z (variable_is t y k) (variable_is u z l)
