-- Trees and pieces: what the nodes of several terms spell, and fronts, which spell a term with a last subterm.
use Rattle.std.proofs.Common.{◌≡◌, ℕ, zero, suc, ◌+◌, ◌≤◌, List, [], ◌∷◌, ◌++◌, length, take, drop, Vec, codes, refl, sym, ap, ◌∙◌, arith, append_assoc, append-nil}
use Rattle.std.specs.Prelude.{reverse}
use Rattle.std.proofs.lemmas.List.{reverse-append, take-append-drop, drop-append-le, length-take-le}
use Rattle.pl_term.specs.Tree.{Chars, Tree, Trees, comp, none, more, count, join}
use Rattle.pl_term.specs.Nodes.{nodes, nodes_all, tree, forest, forest-nodes_all, tree-nodes}
use Rattle.pl_term.specs.declared.node.Node.{Node}
use Rattle.pl_term.specs.declared.node.Node.TheVariants.{Comp}
use Rattle.pl_term.proofs.Spelled.{tree_spelled, nodes_spelled}
use Rattle.pl_model.specs.TermGrammar.{cons}
use Rattle.prolog_reader.specs.Pieces.{spelled}
use Rattle.prolog_reader.specs.Stack.{compound_of, behind, IsFront}

pub join-none : (ts : Trees) → join ts none ≡ ts
join-none none = refl
join-none (more t ts) = ap (more t) (join-none ts)

pub join-assoc : (ts us vs : Trees) → join (join ts us) vs ≡ join ts (join us vs)
join-assoc none us vs = refl
join-assoc (more t ts) us vs = ap (more t) (join-assoc ts us vs)

pub count-join : (ts us : Trees) → count (join ts us) ≡ count ts + count us
count-join none us = omega arith
count-join (more t ts) us = ap suc (count-join ts us) ∙ omega arith

pub nodes_all-join : (ts us : Trees) → nodes_all (join ts us) ≡ nodes_all ts ++ nodes_all us
nodes_all-join none us = refl
nodes_all-join (more t ts) us =
    ap (λ ns. nodes t ++ ns) (nodes_all-join ts us) ∙ sym (append_assoc (nodes t) (nodes_all ts) (nodes_all us))

-- Some terms and one more.
pub nodes_all-push : (ts : Trees) (t : Tree) → nodes_all (join ts (more t none)) ≡ nodes_all ts ++ nodes t
nodes_all-push ts t = nodes_all-join ts (more t none) ∙ ap (λ ns. nodes_all ts ++ ns) (append-nil (nodes t))

pub nodes-compound : (f : Chars) (ts : Trees) (t : Tree)
    → nodes (compound_of f (join ts (more t none))) ≡ Comp f (count ts + 1) ∷ (nodes_all ts ++ nodes t)
nodes-compound f none t =
    ap (λ k. Comp f k ∷ (nodes t ++ [])) (omega arith) ∙ ap (λ ns. Comp f (zero + 1) ∷ ns) (append-nil (nodes t))
nodes-compound f (more u us) t =
    let number : suc (count (join us (more t none))) ≡ suc (count us) + 1 = omega (arith, count-join us (more t none)) in
    ap (λ k. Comp f k ∷ (nodes u ++ nodes_all (join us (more t none)))) number
    ∙ ap (λ ns. Comp f (suc (count us) + 1) ∷ (nodes u ++ ns)) (nodes_all-push us t)
    ∙ ap (λ ns. Comp f (suc (count us) + 1) ∷ ns) (sym (append_assoc (nodes u) (nodes_all us) (nodes t)))

pub forest-all : (ts : Trees) → forest (nodes_all ts) ≡ ts
forest-all ts = ap forest (sym (append-nil (nodes_all ts))) ∙ forest-nodes_all ts [] ∙ join-none ts

pub spelled-append : {Z : Type 0} (ps qs : List (Vec Node Z)) → spelled (ps ++ qs) ≡ spelled ps ++ spelled qs
spelled-append [] qs = refl
spelled-append (p ∷ ps) qs =
    ap (λ ns. reverse p.items ++ ns) (spelled-append ps qs) ∙ sym (append_assoc (reverse p.items) (spelled ps) (spelled qs))

-- The pieces from a place on are those before a later one and those from there on.
pub spelled-split : {Z : Type 0} (ps : List (Vec Node Z)) (m n : ℕ) → m ≤ n → n ≤ length ps
    → spelled (drop m ps) ≡ spelled (drop m (take n ps)) ++ spelled (drop n ps)
spelled-split ps m n h within =
    let whole = take-append-drop n ps in
    let first : m ≤ length (take n ps) = omega (arith, length-take-le n ps within) in
    ap (λ qs. spelled (drop m qs)) (sym whole) ∙ ap spelled (drop-append-le m (take n ps) (drop n ps) first)
    ∙ spelled-append (drop m (take n ps)) (drop n ps)

pub reverse-push : {X : Type 0} (xs : List X) (x : X) → reverse (xs ++ x ∷ []) ≡ x ∷ reverse xs
reverse-push xs x = reverse-append xs (x ∷ [])

-- What a front and the nodes of a last subterm spell.

pub behind-spelled : (front : List Node) (t u : Tree) → front ++ nodes t ≡ nodes u → behind front t ≡ u
behind-spelled front t u e = tree_spelled (front ++ nodes t) u e

pub front-spelled : (front : List Node) (f : Tree → Tree) → ((t : Tree) → front ++ nodes t ≡ nodes (f t)) → IsFront front
front-spelled front f h t = nodes_spelled (front ++ nodes t) (f t) (h t)

-- Nothing stands in front.
pub behind-none : (ns : List Node) → ns ≡ [] → (t : Tree) → behind ns t ≡ t
behind-none ns e t = ap (λ ms. tree (ms ++ nodes t)) e ∙ tree-nodes t

pub front-none : (ns : List Node) → ns ≡ [] → IsFront ns
front-none ns e = front-spelled ns (λ t. t) (λ t. ap (λ ms. ms ++ nodes t) e)

-- A name with one argument.
prefix_nodes : (ns : List Node) (f : Chars) → ns ≡ Comp f 1 ∷ [] → (t : Tree) → ns ++ nodes t ≡ nodes (comp f t none)
prefix_nodes ns f e t = ap (λ ms. ms ++ nodes t) e ∙ ap (λ ms. Comp f 1 ∷ ms) (sym (append-nil (nodes t)))

pub behind-prefix : (ns : List Node) (f : Chars) → ns ≡ Comp f 1 ∷ [] → (t : Tree) → behind ns t ≡ comp f t none
behind-prefix ns f e t = behind-spelled ns t (comp f t none) (prefix_nodes ns f e t)

pub front-prefix : (ns : List Node) (f : Chars) → ns ≡ Comp f 1 ∷ [] → IsFront ns
front-prefix ns f e = front-spelled ns (λ t. comp f t none) (prefix_nodes ns f e)

-- A name with two arguments, and the first of them.
infix_nodes : (ns : List Node) (f : Chars) (l : Tree) → ns ≡ Comp f 2 ∷ nodes l → (t : Tree) → ns ++ nodes t ≡ nodes (comp f l (more t none))
infix_nodes ns f l e t =
    ap (λ ms. ms ++ nodes t) e ∙ ap (λ ms. Comp f 2 ∷ (nodes l ++ ms)) (sym (append-nil (nodes t)))

pub behind-infix : (ns : List Node) (f : Chars) (l : Tree) → ns ≡ Comp f 2 ∷ nodes l → (t : Tree) → behind ns t ≡ comp f l (more t none)
behind-infix ns f l e t = behind-spelled ns t (comp f l (more t none)) (infix_nodes ns f l e t)

pub front-infix : (ns : List Node) (f : Chars) (l : Tree) → ns ≡ Comp f 2 ∷ nodes l → IsFront ns
front-infix ns f l e = front-spelled ns (λ t. comp f l (more t none)) (infix_nodes ns f l e)

-- A list cell more, with its element.
cell_nodes : (front ns : List Node) (h : Tree) → ns ≡ front ++ (Comp (codes ".") 2 ∷ nodes h) → (t : Tree) → ns ++ nodes t ≡ front ++ nodes (cons h t)
cell_nodes front ns h e t =
    ap (λ ms. ms ++ nodes t) e ∙ append_assoc front (Comp (codes ".") 2 ∷ nodes h) (nodes t)
    ∙ ap (λ ms. front ++ (Comp (codes ".") 2 ∷ (nodes h ++ ms))) (sym (append-nil (nodes t)))

pub behind-cell : (front ns : List Node) (h : Tree) → ns ≡ front ++ (Comp (codes ".") 2 ∷ nodes h) → (t : Tree) → behind ns t ≡ behind front (cons h t)
behind-cell front ns h e t = ap tree (cell_nodes front ns h e t)

pub front-cell : (front ns : List Node) (h : Tree) → IsFront front → ns ≡ front ++ (Comp (codes ".") 2 ∷ nodes h) → IsFront ns
front-cell front ns h is e t = ap (λ ms. nodes (tree ms)) (cell_nodes front ns h e t) ∙ is (cons h t) ∙ sym (cell_nodes front ns h e t)
