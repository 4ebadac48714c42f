-- The nodes of a term from its last node to its first.
use Rattle.std.proofs.Common.{◌≡◌, ℕ, zero, suc, ◌+◌, ◌<◌, ◌≤◌, List, [], ◌∷◌, ◌++◌, length, take, drop, refl, sym, ap, ap₂, ◌∙◌, arith, append_assoc, append-nil}
use Rattle.pl_term.specs.declared.node.Node.{Node}
use Rattle.pl_term.specs.declared.node.Node.TheVariants as terms
use Rattle.pl_term.specs.Tree.{Chars, Tree, Trees, var, int, atom, comp, none, more, count, join, first, after, trees, compound}
use Rattle.pl_term.specs.Nodes.{build, forest, nodes, nodes_all, forest-nodes_all}
use Rattle.pl_term.specs.Variables.{rename_by, rename_all_by}
use Rattle.term_store.specs.declared.nodes.AtomNode.{AtomNode}
use Rattle.term_store.specs.declared.nodes.AtomNode.TheVariants.{Var, Int, Atom, Comp}
use Rattle.term_store.specs.Heap.{atom_name}
use Rattle.term_store.specs.Nodes.{node_view, IsNodeReady, placed}

count-join : (ts us : Trees) → count (join ts us) ≡ count ts + count us
count-join none us = sym (zero_left (count us))
  where
    zero_left : (n : ℕ) → zero + n ≡ n
    zero_left n = omega arith
count-join (more t ts) us = ap suc (count-join ts us) ∙ one_up (count ts) (count us)
  where
    one_up : (m n : ℕ) → suc (m + n) ≡ suc m + n
    one_up m n = omega arith

nodes_all-join : (ts us : Trees) → nodes_all (join ts us) ≡ nodes_all ts ++ nodes_all us
nodes_all-join none us = refl
nodes_all-join (more t ts) us = ap (λ ns. nodes t ++ ns) (nodes_all-join ts us) ∙ sym (append_assoc (nodes t) (nodes_all ts) (nodes_all us))

-- What stands after the first node of a compound term are the nodes of its arguments and of the terms after it.
behind : (t : Tree) (ts rest : Trees) → (nodes t ++ nodes_all ts) ++ nodes_all rest ≡ nodes_all (more t (join ts rest))
behind t ts rest = append_assoc (nodes t) (nodes_all ts) (nodes_all rest) ∙ ap (λ ns. nodes t ++ ns) (sym (nodes_all-join ts rest))

-- From each place on the nodes are those of some terms.
pub suffix : (i : ℕ) (us : Trees) → (ws : Trees) × (drop i (nodes_all us) ≡ nodes_all ws)
suffix zero us = (us, refl)
suffix (suc i) none = (none, refl)
suffix (suc i) (more (var x) rest) = suffix i rest
suffix (suc i) (more (int n) rest) = suffix i rest
suffix (suc i) (more (atom a) rest) = suffix i rest
suffix (suc i) (more (comp f t ts) rest) =
    let s = suffix i (more t (join ts rest)) in
    (s.0, ap (drop i) (behind t ts rest) ∙ s.1)

ready_node : (ws : Trees) (f : Chars) (k : ℕ) (ms : List Node) → nodes_all ws ≡ terms.Comp f k ∷ ms → (0 < k) × (k ≤ count (forest ms))
ready_node none f k ms e = cc
ready_node (more (var x) rest) f k ms e = cc
ready_node (more (int n) rest) f k ms e = cc
ready_node (more (atom a) rest) f k ms e = cc
ready_node (more (comp g t ts) rest) f k ms e =
    let same_count : suc (count ts) ≡ k = cc in
    let same_rest : (nodes t ++ nodes_all ts) ++ nodes_all rest ≡ ms = cc in
    let spelled : forest ms ≡ more t (join ts rest) =
    ap forest (sym same_rest ∙ behind t ts rest ∙ sym (append-nil (nodes_all (more t (join ts rest))))) ∙ forest-nodes_all (more t (join ts rest)) []
    ∙ join-none (more t (join ts rest)) in
    (omega arith, omega (arith, ap count spelled, count-join ts rest))
  where
    join-none : (us : Trees) → join us none ≡ us
    join-none none = refl
    join-none (more u us) = ap (more u) (join-none us)

-- A compound term's node has as many terms after it as it has arguments.
pub node_ready : (n : AtomNode) (t : Tree) (i : ℕ) (ms : List Node) → drop i (nodes t) ≡ node_view n ∷ ms → IsNodeReady (count (forest ms)) n
node_ready (Var x) t i ms e = tt
node_ready (Int j) t i ms e = tt
node_ready (Atom a) t i ms e = tt
node_ready (Comp a k) t i ms e =
    let s = suffix i (more t none) in
    ready_node s.0 (atom_name a) k ms (sym s.1 ∙ ap (drop i) (append-nil (nodes t)) ∙ e)

first-rename : (f : ℕ → ℕ) (k : ℕ) (ts : Trees) → rename_all_by f (first k ts) ≡ first k (rename_all_by f ts)
first-rename f zero ts = refl
first-rename f (suc k) none = refl
first-rename f (suc k) (more t ts) = ap (more (rename_by f t)) (first-rename f k ts)

after-rename : (f : ℕ → ℕ) (k : ℕ) (ts : Trees) → rename_all_by f (after k ts) ≡ after k (rename_all_by f ts)
after-rename f zero ts = refl
after-rename f (suc k) none = refl
after-rename f (suc k) (more t ts) = after-rename f k ts

build-rename : (f : ℕ → ℕ) (g : Chars) (k : ℕ) (ts : Trees) → rename_all_by f (build g k ts) ≡ build g k (rename_all_by f ts)
build-rename f g zero ts = refl
build-rename f g (suc k) none = refl
build-rename f g (suc k) (more t ts) = ap₂ (λ us ws. more (comp g (rename_by f t) us) ws) (first-rename f k ts) (after-rename f k ts)

-- The terms that the nodes spell, with one more node in front.
pub forest-placed : (f : ℕ → ℕ) (n : AtomNode) (ms : List Node) → rename_all_by f (forest (node_view n ∷ ms)) ≡ placed f n (rename_all_by f (forest ms))
forest-placed f (Var x) ms = refl
forest-placed f (Int i) ms = refl
forest-placed f (Atom a) ms = refl
forest-placed f (Comp a k) ms = build-rename f (atom_name a) k (forest ms)

first-trees : (k : ℕ) (ts : List Tree) → first k (trees ts) ≡ trees (take k ts)
first-trees zero ts = refl
first-trees (suc k) [] = refl
first-trees (suc k) (t ∷ ts) = ap (more t) (first-trees k ts)

after-trees : (k : ℕ) (ts : List Tree) → after k (trees ts) ≡ trees (drop k ts)
after-trees zero ts = refl
after-trees (suc k) [] = refl
after-trees (suc k) (t ∷ ts) = after-trees k ts

-- A compound term is made of the first terms of the list.
pub build-trees : (g : Chars) (k : ℕ) (ts : List Tree) → 0 < k → k ≤ length ts → build g k (trees ts) ≡ more (compound g (take k ts)) (trees (drop k ts))
build-trees g zero ts some le = absurd (omega arith)
build-trees g (suc k) [] some le = absurd (omega arith)
build-trees g (suc k) (t ∷ ts) some le = ap₂ (λ us ws. more (comp g t us) ws) (first-trees k ts) (after-trees k ts)
