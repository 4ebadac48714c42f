-- What a list of nodes spells that is known to be the nodes of a term.
use Rattle.std.proofs.Common.{◌≡◌, ◌<◌, ◌≤◌, ◌+◌, ℕ, List, [], ◌∷◌, ◌++◌, length, take, get_or, suc, refl, sym, ◌∙◌, ap, append_assoc, append-nil, arith}
use Rattle.std.proofs.lemmas.List.{take_more, take_all}
use Rattle.pl_term.specs.declared.node.Node.{Node}
use Rattle.pl_term.specs.declared.node.Node.TheVariants.{Comp}
use Rattle.pl_term.specs.Tree.{Chars, Tree, count, trees, compound}
use Rattle.pl_term.specs.Nodes.{nodes, nodes_all, tree, tree-nodes}

pub tree_spelled : (ns : List Node) (t : Tree) → ns ≡ nodes t → tree ns ≡ t
tree_spelled ns t e = ap tree e ∙ tree-nodes t

pub nodes_spelled : (ns : List Node) (t : Tree) → ns ≡ nodes t → nodes (tree ns) ≡ ns
nodes_spelled ns t e = ap nodes (tree_spelled ns t e) ∙ sym e

pub nodes_spelled_some : (ns : List Node) → (t : Tree) × (ns ≡ nodes t) → nodes (tree ns) ≡ ns
nodes_spelled_some ns (t, e) = nodes_spelled ns t e

pub count-trees : (ts : List Tree) → count (trees ts) ≡ length ts
count-trees [] = refl
count-trees (t ∷ ts) = ap suc (count-trees ts)

-- Copies of a term's nodes that were put after nothing are the term's nodes.
pub copied : (from more to : List Node) (t : Tree)
    → from ≡ []
    → more ≡ nodes t
    → to ≡ from ++ more
    → to ≡ nodes t
copied from more to t none some all = all ∙ ap (λ ns. ns ++ more) none ∙ some

pub nodes_all-push : (ts : List Tree) (t : Tree)
    → nodes_all (trees (ts ++ t ∷ [])) ≡ nodes_all (trees ts) ++ nodes t
nodes_all-push [] t = append-nil (nodes t)
nodes_all-push (u ∷ ts) t =
    ap (λ ns. nodes u ++ ns) (nodes_all-push ts t) ∙ sym (append_assoc (nodes u) (nodes_all (trees ts)) (nodes t))

-- One argument more.
pub argument_more : (n : Node) (args : List Tree) (i : ℕ) (t : Tree) (from more to : List Node)
    → i < length args
    → t ≡ get_or args i t
    → from ≡ n ∷ nodes_all (trees (take i args))
    → more ≡ nodes t
    → to ≡ from ++ more
    → to ≡ n ∷ nodes_all (trees (take (i + 1) args))
argument_more n args i t from more to below item all some put =
    put
    ∙ ap (λ ns. ns ++ more) all
    ∙ ap (λ ns. n ∷ (nodes_all (trees (take i args)) ++ ns)) some
    ∙ ap (λ ns. n ∷ ns) (sym (nodes_all-push (take i args) t))
    ∙ ap (λ u. n ∷ nodes_all (trees (take i args ++ u ∷ []))) item
    ∙ ap (λ ts. n ∷ nodes_all (trees ts)) (sym (take_more args i t below))

-- All arguments.
pub arguments_all : (f : Chars) (args : List Tree) (i : ℕ) (ns : List Node)
    → 0 < length args
    → length args ≤ i
    → ns ≡ Comp f (length args) ∷ nodes_all (trees (take i args))
    → ns ≡ nodes (compound f args)
arguments_all f [] i ns some past all = absurd (omega arith)
arguments_all f (t ∷ ts) i ns some past all =
    all
    ∙ ap (λ us. Comp f (length (t ∷ ts)) ∷ nodes_all (trees us)) (take_all i (t ∷ ts) past)
    ∙ ap (λ k. Comp f (suc k) ∷ nodes_all (trees (t ∷ ts))) (sym (count-trees ts))
