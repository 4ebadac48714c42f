-- Names that are put behind others leave the nodes that were named.
use Rattle.std.proofs.Common.{◌≡◌, ◌<◌, ℕ, List, [], ◌∷◌, ◌++◌, length, map, refl, sym, ap, ap₂, subst, ◌∙◌, arith}
use Rattle.std.specs.List.{All, AllByRecursion}
use Rattle.std.proofs.Math.Seq.{get_or-append_seam}
use Rattle.std.proofs.lemmas.List.{get_or_append_left, length-append, map-append}
use Rattle.std.proofs.lemmas.List.Elements.{All-push, All-same, All-weaker, recursion_from_All}
use Rattle.pl_term.specs.declared.node.Node.{Node}
use Rattle.pl_term.specs.declared.node.Node.TheVariants.{Atom, Comp}
use Rattle.pl_term.specs.Nodes.{nodes, tree, tree-nodes}
use Rattle.pl_term.specs.Tree.{Chars, Tree}
use Rattle.named_terms.specs.declared.node.NumberedNode.{NumberedNode}
use Rattle.named_terms.specs.declared.node.NumberedNode.TheVariants as numbered
use Rattle.named_terms.specs.NamedNodes.{Extends, IsNodeNamed, node_by, nodes_by, text_by}

-- The text that was put last.
pub last_text : (names : List Chars) (text : Chars) → text_by (names ++ text ∷ []) (length names) ≡ text
last_text names text = get_or-append_seam names text [] []

module _ (names added : List Chars) where
  pub text_stays : (k : ℕ) → k < length names → text_by (names ++ added) k ≡ text_by names k
  text_stays k below = get_or_append_left names added [] k below

  node_stays : (n : NumberedNode) → IsNodeNamed (length names) n → node_by (names ++ added) n ≡ node_by names n
  node_stays (numbered.Var x) h = refl
  node_stays (numbered.Int i) h = refl
  node_stays (numbered.Atom a) h = ap Atom (text_stays a h)
  node_stays (numbered.Comp f k) h = ap (λ t. Comp t k) (text_stays f h)

  nodes_stay : (ns : List NumberedNode) → AllByRecursion (IsNodeNamed (length names)) ns → nodes_by (names ++ added) ns ≡ nodes_by names ns
  nodes_stay [] h = refl
  nodes_stay (n ∷ ns) h = ap₂ ◌∷◌ (node_stays n h.0) (nodes_stay ns h.1)

  named_stays : (n : NumberedNode) → IsNodeNamed (length names) n → IsNodeNamed (length (names ++ added)) n
  named_stays (numbered.Var x) h = tt
  named_stays (numbered.Int i) h = tt
  named_stays (numbered.Atom a) h = omega (arith, h, length-append names added)
  named_stays (numbered.Comp f k) h = omega (arith, h, length-append names added)

-- One node more, whose name is there or was put.
pub one_more : (old new : List Chars) (before after : List NumberedNode) (n : NumberedNode) (front : List Node) (node : Node) → Extends old new
    → after ≡ before ++ n ∷ [] → All (IsNodeNamed (length old)) before → nodes_by old before ≡ front → node_by new n ≡ node
    → nodes_by new after ≡ front ++ node ∷ []
one_more old new before after n front node extends e named is one =
    let stay = nodes_stay old extends.0 before (recursion_from_All (IsNodeNamed (length old)) before named) in
    ap (nodes_by new) e
    ∙ map-append (node_by new) before (n ∷ [])
    ∙ ap₂ (λ xs x. xs ++ x ∷ []) (ap (λ names. nodes_by names before) extends.1 ∙ stay ∙ is) one

pub all_named : (old new : List Chars) (before after : List NumberedNode) (n : NumberedNode) → Extends old new → after ≡ before ++ n ∷ []
    → All (IsNodeNamed (length old)) before → IsNodeNamed (length new) n → All (IsNodeNamed (length new)) after
all_named old new before after n extends e named one =
    let P = IsNodeNamed (length new) in
    let stay : All P before =
    All-weaker (IsNodeNamed (length old)) P (λ m h. subst (λ names. IsNodeNamed (length names) m) (sym extends.1) (named_stays old extends.0 m h)) before named in
    All-same P after (before ++ n ∷ []) e (All-push P before n stay one)

-- Terms with the same nodes are the same.
pub same_tree : (t u : Tree) (all : List Node) → nodes t ≡ all → all ≡ nodes u → t ≡ u
same_tree t u all e is = sym (tree-nodes t) ∙ ap tree (e ∙ is) ∙ tree-nodes u

-- A name that was put behind others: its place is one of theirs, and its text is the one that was put.
pub put_last : (old new : List Chars) (text : Chars) (place : ℕ) → place ≡ length old → new ≡ old ++ text ∷ [] → (place < length new) × (text_by new place ≡ text)
put_last old new text place at is = (
  omega (arith, at, ap length is, length-append old (text ∷ [])),
  ap (λ names. text_by names place) is ∙ ap (λ k. text_by (old ++ text ∷ []) k) at ∙ last_text old text,
)
