-- Lists of trees and their nodes in prefix order.
use Rattle.std.proofs.Common.{◌≡◌, suc, ◌+◌, ◌<◌, ◌≤◌, List, ◌∷◌, ◌++◌, length, get_or, refl, sym, ap, ◌∙◌, append_assoc, arith, length-append}
use Rattle.pl_term.specs.declared.node.Node.{Node}
use Rattle.pl_term.specs.declared.node.Node.TheVariants.{Var, Int, Atom, Comp}
use Rattle.pl_term.specs.Tree.{Tree, Trees, var, int, atom, comp, none, more, count, join}
use Rattle.pl_term.specs.Nodes.{nodes, nodes_all, forest-nodes, head_or_empty, tree}
use Rattle.pl_model.specs.laws.Subterms.{arity_of}

pub nodes_all-join : (ts us : Trees) → nodes_all (join ts us) ≡ nodes_all ts ++ nodes_all us
nodes_all-join none us = refl
nodes_all-join (more t ts) us =
    ap (λ ns. nodes t ++ ns) (nodes_all-join ts us) ∙ sym (append_assoc (nodes t) (nodes_all ts) (nodes_all us))

pub count-join : (ts us : Trees) → count (join ts us) ≡ count ts + count us
count-join none us = omega arith
count-join (more t ts) us = omega (arith, count-join ts us)

pub length-nodes_pos : (t : Tree) → 0 < length (nodes t)
length-nodes_pos (var x) = omega arith
length-nodes_pos (int i) = omega arith
length-nodes_pos (atom a) = omega arith
length-nodes_pos (comp f t ts) = omega arith

-- Each tree has a node.
pub count-le : (ts : Trees) → count ts ≤ length (nodes_all ts)
count-le none = omega arith
count-le (more t ts) =
    omega (arith, length-append (nodes t) (nodes_all ts), length-nodes_pos t, count-le ts)

abbrev pub first_node : Tree → Node
first_node (var x) = Var x
first_node (int i) = Int i
first_node (atom a) = Atom a
first_node (comp f t ts) = Comp f (suc (count ts))

-- The trees after the first node of this one and the others.
abbrev pub opened : Tree → Trees → Trees
opened (var x) us = us
opened (int i) us = us
opened (atom a) us = us
opened (comp f t ts) us = more t (join ts us)

pub nodes-opened : (t : Tree) (us : Trees) → nodes t ++ nodes_all us ≡ first_node t ∷ nodes_all (opened t us)
nodes-opened (var x) us = refl
nodes-opened (int i) us = refl
nodes-opened (atom a) us = refl
nodes-opened (comp f t ts) us =
    ap (◌∷◌ (Comp f (suc (count ts)))) (append_assoc (nodes t) (nodes_all ts) (nodes_all us)
    ∙ ap (λ ns. nodes t ++ ns) (sym (nodes_all-join ts us)))

pub count-opened : (t : Tree) (us : Trees) → count (opened t us) ≡ count us + arity_of (first_node t)
count-opened (var x) us = omega arith
count-opened (int i) us = omega arith
count-opened (atom a) us = omega arith
count-opened (comp f t ts) us = omega (arith, count-join ts us)

-- The first term of a list that begins with the nodes of one.
pub tree-front : (t : Tree) (rest : List Node) → tree (nodes t ++ rest) ≡ t
tree-front t rest = ap head_or_empty (forest-nodes t rest)

pub get_or-nodes : (t : Tree) (d : Node) → get_or (nodes t) 0 d ≡ first_node t
get_or-nodes (var x) d = refl
get_or-nodes (int i) d = refl
get_or-nodes (atom a) d = refl
get_or-nodes (comp f t ts) d = refl
