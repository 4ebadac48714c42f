-- A term as the list of its nodes in prefix order: each node stands before those of its arguments, which
-- follow from left to right. Reading such a list back is a fold from its right end onto a list of trees.
use Rattle.std.specs.Prelude.{◌≡◌, ◌⊎◌, ℕ, ℤ, List, [], ◌∷◌, ◌++◌, suc, zero, refl}
use Rattle.std.specs.Coded.{Coded, code_by, coded_list, coded_ℕ, coded_ℤ, coded×, coded⊎}
use Rattle.std.proofs.Common.{sym, ◌∙◌, ap, inl, inr, append_assoc, append-nil}
use Rattle.pl_term.specs.declared.node.Node.{Node}
use Rattle.pl_term.specs.declared.node.Node.TheVariants.{Var, Int, Atom, Comp}
use Rattle.pl_term.specs.Tree.{Chars, Tree, Trees, var, int, atom, comp, none, more, count, join, first, after}

-- The nodes of a term and of a list of terms, in prefix order.
abbrev mutual
  pub nodes : Tree → List Node
  nodes (var x) = Var x ∷ []
  nodes (int i) = Int i ∷ []
  nodes (atom a) = Atom a ∷ []
  nodes (comp f t ts) = Comp f (suc (count ts)) ∷ (nodes t ++ nodes_all ts)

  pub nodes_all : Trees → List Node
  nodes_all none = []
  nodes_all (more t ts) = nodes t ++ nodes_all ts

-- The list with its first `k` trees made the arguments of one compound term.
abbrev pub build : Chars → ℕ → Trees → Trees
build f zero ts = more (atom f) ts
build f (suc k) none = more (atom f) none
build f (suc k) (more t ts) = more (comp f t (first k ts)) (after k ts)

-- The terms that a list of nodes spells, one after the other.
abbrev pub forest : List Node → Trees
forest [] = none
forest (Var x ∷ ns) = more (var x) (forest ns)
forest (Int i ∷ ns) = more (int i) (forest ns)
forest (Atom a ∷ ns) = more (atom a) (forest ns)
forest (Comp f k ∷ ns) = build f k (forest ns)

-- The first tree of a list, or the atom with the empty name.
abbrev pub head_or_empty : Trees → Tree
head_or_empty none = atom []
head_or_empty (more t ts) = t

-- The first term that a list of nodes spells.
abbrev pub tree : List Node → Tree
tree ns = head_or_empty (forest ns)

pub first-join : (ts us : Trees) → first (count ts) (join ts us) ≡ ts
first-join none us = refl
first-join (more t ts) us = ap (more t) (first-join ts us)

pub after-join : (ts us : Trees) → after (count ts) (join ts us) ≡ us
after-join none us = refl
after-join (more t ts) us = after-join ts us

mutual
  -- The nodes of a term, and others after them, spell this term and what the others spell.
  pub forest-nodes : (t : Tree) (ns : List Node) → forest (nodes t ++ ns) ≡ more t (forest ns)
  forest-nodes (var x) ns = refl
  forest-nodes (int i) ns = refl
  forest-nodes (atom a) ns = refl
  forest-nodes (comp f t ts) ns =
      ap (λ ms. build f (suc (count ts)) (forest ms)) (append_assoc (nodes t) (nodes_all ts) ns)
      ∙ ap (build f (suc (count ts))) (forest-nodes t (nodes_all ts ++ ns))
      ∙ ap (λ us. build f (suc (count ts)) (more t us)) (forest-nodes_all ts ns)
      ∙ ap (λ us. more (comp f t us) (after (count ts) (join ts (forest ns)))) (first-join ts (forest ns))
      ∙ ap (more (comp f t ts)) (after-join ts (forest ns))

  pub forest-nodes_all : (ts : Trees) (ns : List Node) → forest (nodes_all ts ++ ns) ≡ join ts (forest ns)
  forest-nodes_all none ns = refl
  forest-nodes_all (more t ts) ns =
      ap forest (append_assoc (nodes t) (nodes_all ts) ns)
      ∙ forest-nodes t (nodes_all ts ++ ns)
      ∙ ap (more t) (forest-nodes_all ts ns)

-- A term is read back from its nodes.
pub tree-nodes : (t : Tree) → tree (nodes t) ≡ t
tree-nodes t =
    sym (ap tree (append-nil (nodes t))) ∙ ap head_or_empty (forest-nodes t [])

abbrev pub NodeParts : Type 0
NodeParts = (ℕ ⊎ ℤ) ⊎ (Chars ⊎ (Chars × ℕ))

abbrev pub node_parts : Node → NodeParts
node_parts (Var x) = inl (inl x)
node_parts (Int i) = inl (inr i)
node_parts (Atom a) = inr (inl a)
node_parts (Comp f k) = inr (inr (f, k))

abbrev pub node_of : NodeParts → Node
node_of (inl (inl x)) = Var x
node_of (inl (inr i)) = Int i
node_of (inr (inl a)) = Atom a
node_of (inr (inr (f, k))) = Comp f k

pub node_back : (n : Node) → node_of (node_parts n) ≡ n
node_back (Var x) = refl
node_back (Int i) = refl
node_back (Atom a) = refl
node_back (Comp f k) = refl

-- A node is stored as its parts, and a term as the list of its nodes.
abbrev pub coded_node : Coded Node
coded_node =
    code_by
    NodeParts
    (coded⊎ (coded⊎ coded_ℕ coded_ℤ) (coded⊎ (coded_list coded_ℕ) (coded× (coded_list coded_ℕ) coded_ℕ)))
    node_parts
    node_of
    node_back

abbrev pub coded_tree : Coded Tree
coded_tree = code_by (List Node) (coded_list coded_node) nodes tree tree-nodes
