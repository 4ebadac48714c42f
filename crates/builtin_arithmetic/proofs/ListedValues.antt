-- The values of the terms that a list of nodes spells.
use Rattle.std.proofs.Common.{◌≡◌, ℕ, zero, suc, ◌+◌, ◌<◌, ◌≤◌, List, [], ◌∷◌, ◌++◌, drop, length, get_or, refl, sym, ap, ◌∙◌, arith, append_assoc, append-nil, length-append, length-drop, ◌-◌, take, zero-le, subst}
use Rattle.std.specs.Prelude.{reverse}
use Rattle.std.proofs.Math.Seq.{drop-cons}
use Rattle.std.proofs.lemmas.List.{drop_at, take-append-drop, length-reverse, reverse-append}
use Rattle.pl_term.specs.declared.node.Node.{Node}
use Rattle.pl_term.specs.declared.node.Node.TheVariants.{Comp}
use Rattle.pl_term.specs.Tree.{Tree, Trees, var, int, atom, comp, none, more, count}
use Rattle.pl_term.specs.Nodes.{nodes, nodes_all}
use Rattle.pl_model.specs.Evaluables.{Evaluated, evaluated, evaluated_all, no_evaluable}
use Rattle.builtin_arithmetic.specs.NodeValues.{arity, compound_value, with_value, values_of}

length_all : (ts : Trees) → length (evaluated_all ts) ≡ count ts
length_all none = refl
length_all (more t ts) = ap suc (length_all ts)

drop_all : (ts : Trees) (vs : List Evaluated) → drop (count ts) (evaluated_all ts ++ vs) ≡ vs
drop_all none vs = refl
drop_all (more t ts) vs = drop_all ts vs

-- The value of a compound term from the values of its arguments.
of_arguments : (f : List ℕ) (t : Tree) (ts : Trees) (vs : List Evaluated)
    → compound_value f (suc (count ts)) (evaluated t ∷ (evaluated_all ts ++ vs)) ≡ evaluated (comp f t ts)
of_arguments f t none vs = refl
of_arguments f t (more u none) vs = refl
of_arguments f t (more u (more v ws)) vs = ap (λ n. no_evaluable f (3 + n)) (sym (length_all ws))

mutual
  -- The nodes of a term give its value, before those of the terms that follow.
  pub values-nodes : (t : Tree) (ns : List Node) → values_of (nodes t ++ ns) ≡ evaluated t ∷ values_of ns
  values-nodes (var x) ns = refl
  values-nodes (int i) ns = refl
  values-nodes (atom a) ns = refl
  values-nodes (comp f t ts) ns =
      ap (λ ms. with_value (Comp f (suc (count ts))) (values_of ms)) (append_assoc (nodes t) (nodes_all ts) ns)
      ∙ ap (with_value (Comp f (suc (count ts)))) (values-nodes t (nodes_all ts ++ ns))
      ∙ ap (λ vs. with_value (Comp f (suc (count ts))) (evaluated t ∷ vs)) (values-nodes_all ts ns)
      ∙ ap (λ v. v ∷ drop (count ts) (evaluated_all ts ++ values_of ns)) (of_arguments f t ts (values_of ns))
      ∙ ap (λ vs. evaluated (comp f t ts) ∷ vs) (drop_all ts (values_of ns))

  pub values-nodes_all : (ts : Trees) (ns : List Node) → values_of (nodes_all ts ++ ns) ≡ evaluated_all ts ++ values_of ns
  values-nodes_all none ns = refl
  values-nodes_all (more t ts) ns =
      ap values_of (append_assoc (nodes t) (nodes_all ts) ns)
      ∙ values-nodes t (nodes_all ts ++ ns)
      ∙ ap (λ vs. evaluated t ∷ vs) (values-nodes_all ts ns)

-- The value of the only term that the nodes spell.
pub value-nodes : (t : Tree) → values_of (nodes t) ≡ evaluated t ∷ []
value-nodes t = sym (ap values_of (append-nil (nodes t))) ∙ values-nodes t []

-- Each node has the values of its arguments after it.
abbrev pub HasArguments : List Node → Type 0
HasArguments [] = Unit {0}
HasArguments (n ∷ ns) = (arity n ≤ length (values_of ns)) × HasArguments ns

length_values : (ts : Trees) (ns : List Node) → length (values_of (nodes_all ts ++ ns)) ≡ count ts + length (values_of ns)
length_values ts ns =
    ap length (values-nodes_all ts ns)
    ∙ length-append (evaluated_all ts) (values_of ns)
    ∙ ap (λ k. k + length (values_of ns)) (length_all ts)

mutual
  has-nodes : (t : Tree) (ns : List Node) → HasArguments ns → HasArguments (nodes t ++ ns)
  has-nodes (var x) ns h = (zero-le, h)
  has-nodes (int i) ns h = (zero-le, h)
  has-nodes (atom a) ns h = (zero-le, h)
  has-nodes (comp f t ts) ns h =
      let e : (nodes t ++ nodes_all ts) ++ ns ≡ nodes t ++ (nodes_all ts ++ ns) = append_assoc (nodes t) (nodes_all ts) ns in
      let l = length_values ts ns in
      let k : length (values_of (nodes t ++ (nodes_all ts ++ ns))) ≡ suc (length (values_of (nodes_all ts ++ ns))) =
      ap length (values-nodes t (nodes_all ts ++ ns)) in (
        rw e (omega arith),
        rw e (has-nodes t (nodes_all ts ++ ns) (has-nodes_all ts ns h)),
      )

  has-nodes_all : (ts : Trees) (ns : List Node) → HasArguments ns → HasArguments (nodes_all ts ++ ns)
  has-nodes_all none ns h = h
  has-nodes_all (more t ts) ns h =
      let e : (nodes t ++ nodes_all ts) ++ ns ≡ nodes t ++ (nodes_all ts ++ ns) = append_assoc (nodes t) (nodes_all ts) ns in
      rw e (has-nodes t (nodes_all ts ++ ns) (has-nodes_all ts ns h))

has_all : (t : Tree) → HasArguments (nodes t)
has_all t = rw (append-nil (nodes t)) at (has-nodes t [] tt)

has_at : (ns : List Node) (i : ℕ) (d : Node) → i < length ns → HasArguments ns
    → arity (get_or ns i d) ≤ length (values_of (drop (suc i) ns))
has_at [] i d lt h = absurd (omega arith)
has_at (n ∷ ns) zero d lt h = h.0
has_at (n ∷ ns) (suc i) d lt h = has_at ns i d (omega arith) h.1

-- What the walk from the right knows at a node, and what it has after it.
pub arguments_at : (t : Tree) (ns : List Node) (i : ℕ) (d : Node) → ns ≡ nodes t → 0 < i → i ≤ length ns
    → arity (get_or ns (i - 1) d) ≤ length (values_of (drop i ns))
arguments_at t ns i d e lt le =
    let h : suc (i - 1) ≡ i = omega arith in
    subst
    (λ k. arity (get_or ns (i - 1) d) ≤ length (values_of (drop k ns)))
    h
    (has_at ns (i - 1) d (omega arith) (rw e (has_all t)))

pub values_at : (ns : List Node) (i : ℕ) (d : Node) → 0 < i → i ≤ length ns
    → values_of (drop (i - 1) ns) ≡ with_value (get_or ns (i - 1) d) (values_of (drop i ns))
values_at ns i d lt le =
    let h : suc (i - 1) ≡ i = omega arith in
    ap values_of (drop-cons ns (i - 1) d (omega arith))
    ∙ ap (λ k. with_value (get_or ns (i - 1) d) (values_of (drop k ns))) h

-- A list without its last members, from the other end.
pub reverse-take : {A : Type 0} (xs : List A) (k : ℕ) → k ≤ length xs → reverse (take (length xs - k) xs) ≡ drop k (reverse xs)
reverse-take xs k le =
    let a = take (length xs - k) xs in
    let b = drop (length xs - k) xs in
    let l : length (reverse b) ≡ k = length-reverse b ∙ length-drop (length xs - k) xs ∙ omega arith in
    sym
    (ap (λ ys. drop k (reverse ys)) (sym (take-append-drop (length xs - k) xs))
    ∙ ap (drop k) (reverse-append a b)
    ∙ drop_at (reverse b) (reverse a) k l)

-- What the walk has when it is done.
pub all_values : (t : Tree) (ns : List Node) (i : ℕ) (vs : List Evaluated) → ns ≡ nodes t → i ≤ 0 → vs ≡ values_of (drop i ns)
    → vs ≡ evaluated t ∷ []
all_values t ns i vs e le h =
    let z : i ≡ 0 = omega arith in
    h ∙ ap (λ k. values_of (drop k ns)) z ∙ ap values_of e ∙ value-nodes t
