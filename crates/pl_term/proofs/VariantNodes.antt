-- Variants by their lists of nodes.
use Rattle.std.proofs.Common.{◌≡◌, ◌<◌, ◌≤◌, ◌+◌, ◌++◌, ℕ, List, [], ◌∷◌, length, map, take, get_or, sym, ◌∙◌, ap, arith}
use Rattle.std.proofs.lemmas.List.{map-append, take_more, take_all, length-map, get_or_default}
use Rattle.std.proofs.Math.ListN.{get_or-map}
use Rattle.pl_term.specs.declared.node.Node.{Node}
use Rattle.pl_term.specs.Tree.{Tree}
use Rattle.pl_term.specs.Nodes.{nodes}
use Rattle.pl_term.specs.Variables.{place, variables}
use Rattle.pl_term.specs.Variant.{IsVariant}
use Rattle.pl_term.specs.NodeLists.{rename_node, numbered_node, met_with}
use Rattle.pl_term.proofs.NodeLemmas.{met, met-nodes, rename_nodes, same_from_nodes}
use Rattle.pl_term.proofs.Renaming.{placed}
use Rattle.pl_term.proofs.Variants.{numbered, variant_from, same_from_variant}

-- The nodes in which each variable goes by its place among those of the list.
abbrev pub all_numbered : List Node → List Node
all_numbered ns = map (rename_node (λ x. place x (met ns))) ns

all_numbered-nodes : (t : Tree) → all_numbered (nodes t) ≡ nodes (numbered t)
all_numbered-nodes t =
    ap (λ xs. map (rename_node (λ x. place x xs)) (nodes t)) (met-nodes t) ∙ rename_nodes (λ x. place x (variables t)) t

same_numbered : (t u : Tree) (ns ms : List Node)
    → ns ≡ nodes t
    → ms ≡ nodes u
    → IsVariant t u
    → all_numbered ns ≡ all_numbered ms
same_numbered t u ns ms p q v =
    ap all_numbered p
    ∙ all_numbered-nodes t
    ∙ ap nodes (same_from_variant t u v)
    ∙ sym (ap all_numbered q ∙ all_numbered-nodes u)

-- Terms with lists of nodes of different lengths are no variants.
pub other_length : (t u : Tree) (ns ms : List Node)
    → ns ≡ nodes t
    → ms ≡ nodes u
    → (length ns ≡ length ms → ⊥)
    → IsVariant t u
    → ⊥
other_length t u ns ms p q other v =
    other
    (sym (length-map ns (rename_node (λ x. place x (met ns))))
    ∙ ap length (same_numbered t u ns ms p q v)
    ∙ length-map ms (rename_node (λ x. place x (met ms))))

number_at : (ns : List Node) (i : ℕ) (n d : Node)
    → i < length ns
    → n ≡ get_or ns i n
    → numbered_node n (met_with n (met (take i ns))) ≡ get_or (all_numbered ns) i d
number_at ns i n d h e =
    let f : Node → Node = rename_node (λ x. place x (met ns)) in
    let below : i < length (map f ns) = omega (arith, length-map ns f) in
    placed n ns i (λ k. k) h e
    ∙ ap f e
    ∙ sym (get_or-map f ns i n)
    ∙ get_or_default (map f ns) i (f n) d below

-- Terms with a pair of nodes that are not alike are no variants.
pub other_node : (t u : Tree) (ns ms : List Node) (i : ℕ) (n m : Node) (xs ys : List ℕ)
    → ns ≡ nodes t
    → ms ≡ nodes u
    → i < length ns
    → i < length ms
    → n ≡ get_or ns i n
    → m ≡ get_or ms i m
    → xs ≡ met (take i ns)
    → ys ≡ met (take i ms)
    → (numbered_node n (met_with n xs) ≡ numbered_node m (met_with m ys) → ⊥)
    → IsVariant t u
    → ⊥
other_node t u ns ms i n m xs ys p q h k e f here there other v =
    other
    (ap (λ zs. numbered_node n (met_with n zs)) here
    ∙ number_at ns i n n h e
    ∙ ap (λ ps. get_or ps i n) (same_numbered t u ns ms p q v)
    ∙ sym (number_at ms i m n k f)
    ∙ ap (λ zs. numbered_node m (met_with m zs)) (sym there))

front_more : (ns : List Node) (i : ℕ) (n : Node) (xs : List ℕ)
    → i < length ns
    → n ≡ get_or ns i n
    → xs ≡ met (take i ns)
    → map (rename_node (λ x. place x (met ns))) (take (i + 1) ns)
    ≡ map (rename_node (λ x. place x (met ns))) (take i ns) ++ numbered_node n (met_with n xs) ∷ []
front_more ns i n xs h e here =
    let f : Node → Node = rename_node (λ x. place x (met ns)) in
    ap (map f) (take_more ns i n h ∙ ap (λ m. take i ns ++ m ∷ []) (sym e))
    ∙ map-append f (take i ns) (n ∷ [])
    ∙ ap (λ m. map f (take i ns) ++ m ∷ [])
    (sym (ap (λ zs. numbered_node n (met_with n zs)) here ∙ placed n ns i (λ k. k) h e))

-- One more pair of nodes that are alike.
pub alike_more : (ns ms : List Node) (i : ℕ) (n m : Node) (xs ys : List ℕ)
    → i < length ns
    → i < length ms
    → n ≡ get_or ns i n
    → m ≡ get_or ms i m
    → xs ≡ met (take i ns)
    → ys ≡ met (take i ms)
    → numbered_node n (met_with n xs) ≡ numbered_node m (met_with m ys)
    → map (rename_node (λ x. place x (met ns))) (take i ns) ≡ map (rename_node (λ x. place x (met ms))) (take i ms)
    → map (rename_node (λ x. place x (met ns))) (take (i + 1) ns)
    ≡ map (rename_node (λ x. place x (met ms))) (take (i + 1) ms)
alike_more ns ms i n m xs ys h k e f here there same front =
    front_more ns i n xs h e here
    ∙ ap (λ ps. ps ++ numbered_node n (met_with n xs) ∷ []) front
    ∙ ap (λ p. map (rename_node (λ x. place x (met ms))) (take i ms) ++ p ∷ []) same
    ∙ sym (front_more ms i m ys k f there)

-- Terms all of whose nodes are alike are variants.
pub all_alike : (t u : Tree) (ns ms : List Node) (i : ℕ)
    → ns ≡ nodes t
    → ms ≡ nodes u
    → length ns ≤ i
    → length ms ≤ i
    → map (rename_node (λ x. place x (met ns))) (take i ns) ≡ map (rename_node (λ x. place x (met ms))) (take i ms)
    → IsVariant t u
all_alike t u ns ms i p q past beyond front =
    let f : Node → Node = rename_node (λ x. place x (met ns)) in
    let g : Node → Node = rename_node (λ x. place x (met ms)) in
    variant_from t u
    (same_from_nodes (numbered t) (numbered u)
    (sym (ap all_numbered p ∙ all_numbered-nodes t)
    ∙ sym (ap (map f) (take_all i ns past))
    ∙ front
    ∙ ap (map g) (take_all i ms beyond)
    ∙ ap all_numbered q
    ∙ all_numbered-nodes u))
