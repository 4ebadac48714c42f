-- The definitions on terms and what they are on the lists of their nodes.
use Rattle.std.proofs.Common.{◌≡◌, ◌<◌, ◌≤◌, ◌+◌, ◌++◌, ℕ, suc, List, [], ◌∷◌, length, map, take, drop, get_or, refl, sym, ◌∙◌, ap, arith, append_assoc, append-nil, length-append}
use Rattle.std.proofs.lemmas.List.{map-append, take_more, take_all, take-append-drop}
use Rattle.pl_term.specs.declared.node.Node.{Node}
use Rattle.pl_term.specs.declared.node.Node.TheVariants.{Var, Int, Atom, Comp}
use Rattle.pl_term.specs.Tree.{Tree, Trees, var, int, atom, comp, none, more, count}
use Rattle.pl_term.specs.Nodes.{nodes, nodes_all, tree, tree-nodes}
use Rattle.pl_term.specs.Variables.{distinct, occurrences, occurrences_all, variables, rename_by, rename_all_by}
use Rattle.pl_term.specs.Cells.{compound_cells, compound_cells_all}
use Rattle.pl_term.specs.NodeLists.{variable_of, variables_of, compound_cells_of, rename_node, met_with}
use Rattle.pl_term.proofs.Distinct.{distinct-push, distinct-append}

-- Terms with the same nodes are the same.
pub same_from_nodes : (t u : Tree) → nodes t ≡ nodes u → t ≡ u
same_from_nodes t u e = sym (tree-nodes t) ∙ ap tree e ∙ tree-nodes u

pub variables_of-append : (ns ms : List Node) → variables_of (ns ++ ms) ≡ variables_of ns ++ variables_of ms
variables_of-append [] ms = refl
variables_of-append (n ∷ ns) ms =
    ap (λ xs. variable_of n ++ xs) (variables_of-append ns ms)
    ∙ sym (append_assoc (variable_of n) (variables_of ns) (variables_of ms))

mutual
  pub variables_of-nodes : (t : Tree) → variables_of (nodes t) ≡ occurrences t
  variables_of-nodes (var x) = refl
  variables_of-nodes (int i) = refl
  variables_of-nodes (atom a) = refl
  variables_of-nodes (comp f t ts) =
      variables_of-append (nodes t) (nodes_all ts)
      ∙ ap (λ xs. xs ++ variables_of (nodes_all ts)) (variables_of-nodes t)
      ∙ ap (λ xs. occurrences t ++ xs) (variables_of-nodes_all ts)

  pub variables_of-nodes_all : (ts : Trees) → variables_of (nodes_all ts) ≡ occurrences_all ts
  variables_of-nodes_all none = refl
  variables_of-nodes_all (more t ts) =
      variables_of-append (nodes t) (nodes_all ts)
      ∙ ap (λ xs. xs ++ variables_of (nodes_all ts)) (variables_of-nodes t)
      ∙ ap (λ xs. occurrences t ++ xs) (variables_of-nodes_all ts)

pub compound_cells_of-append : (ns ms : List Node)
    → compound_cells_of (ns ++ ms) ≡ compound_cells_of ns + compound_cells_of ms
compound_cells_of-append [] ms = omega arith
compound_cells_of-append (n ∷ ns) ms = omega (arith, compound_cells_of-append ns ms)

mutual
  pub compound_cells_of-nodes : (t : Tree) → compound_cells_of (nodes t) ≡ compound_cells t
  compound_cells_of-nodes (var x) = refl
  compound_cells_of-nodes (int i) = refl
  compound_cells_of-nodes (atom a) = refl
  compound_cells_of-nodes (comp f t ts) =
      omega (
        arith,
        compound_cells_of-append (nodes t) (nodes_all ts),
        compound_cells_of-nodes t,
        compound_cells_of-nodes_all ts,
      )

  pub compound_cells_of-nodes_all : (ts : Trees) → compound_cells_of (nodes_all ts) ≡ compound_cells_all ts
  compound_cells_of-nodes_all none = refl
  compound_cells_of-nodes_all (more t ts) =
      compound_cells_of-append (nodes t) (nodes_all ts)
      ∙ ap (λ n. n + compound_cells_of (nodes_all ts)) (compound_cells_of-nodes t)
      ∙ ap (λ n. compound_cells t + n) (compound_cells_of-nodes_all ts)

pub count-rename_all_by : (f : ℕ → ℕ) (ts : Trees) → count (rename_all_by f ts) ≡ count ts
count-rename_all_by f none = refl
count-rename_all_by f (more t ts) = ap suc (count-rename_all_by f ts)

mutual
  pub rename_nodes : (f : ℕ → ℕ) (t : Tree) → map (rename_node f) (nodes t) ≡ nodes (rename_by f t)
  rename_nodes f (var x) = refl
  rename_nodes f (int i) = refl
  rename_nodes f (atom a) = refl
  rename_nodes f (comp g t ts) =
      ap (λ ns. Comp g (suc (count ts)) ∷ ns) (map-append (rename_node f) (nodes t) (nodes_all ts))
      ∙ ap (λ ns. Comp g (suc (count ts)) ∷ (ns ++ map (rename_node f) (nodes_all ts))) (rename_nodes f t)
      ∙ ap (λ ns. Comp g (suc (count ts)) ∷ (nodes (rename_by f t) ++ ns)) (rename_nodes_all f ts)
      ∙ ap
      (λ k. Comp g (suc k) ∷ (nodes (rename_by f t) ++ nodes_all (rename_all_by f ts)))
      (sym (count-rename_all_by f ts))

  pub rename_nodes_all : (f : ℕ → ℕ) (ts : Trees) → map (rename_node f) (nodes_all ts) ≡ nodes_all (rename_all_by f ts)
  rename_nodes_all f none = refl
  rename_nodes_all f (more t ts) =
      map-append (rename_node f) (nodes t) (nodes_all ts)
      ∙ ap (λ ns. ns ++ map (rename_node f) (nodes_all ts)) (rename_nodes f t)
      ∙ ap (λ ns. nodes (rename_by f t) ++ ns) (rename_nodes_all f ts)

-- The variables that the nodes in front of a place have, and then the node there.
abbrev pub met : List Node → List ℕ
met ns = distinct (variables_of ns)

pub met-push : (ns : List Node) (n : Node) → met (ns ++ n ∷ []) ≡ met_with n (met ns)
met-push ns (Var x) = ap distinct (variables_of-append ns (Var x ∷ [])) ∙ distinct-push (variables_of ns) x
met-push ns (Int i) = ap distinct (variables_of-append ns (Int i ∷ []) ∙ append-nil (variables_of ns))
met-push ns (Atom a) = ap distinct (variables_of-append ns (Atom a ∷ []) ∙ append-nil (variables_of ns))
met-push ns (Comp f k) = ap distinct (variables_of-append ns (Comp f k ∷ []) ∙ append-nil (variables_of ns))

pub met_more : (ns : List Node) (i : ℕ) (n : Node)
    → i < length ns
    → n ≡ get_or ns i n
    → met (take (i + 1) ns) ≡ met_with n (met (take i ns))
met_more ns i n h e =
    ap met (take_more ns i n h ∙ ap (λ m. take i ns ++ m ∷ []) (sym e)) ∙ met-push (take i ns) n

-- The variables met in front are the front of all of them.
pub met-append : (ns ms : List Node) → (xs : List ℕ) × (met (ns ++ ms) ≡ met ns ++ xs)
met-append ns ms =
    let (xs, e) = distinct-append (variables_of ns) (variables_of ms) in
    (xs, ap distinct (variables_of-append ns ms) ∙ e)

pub met-take : (ns : List Node) (i : ℕ) → (xs : List ℕ) × (met ns ≡ met (take i ns) ++ xs)
met-take ns i =
    let (xs, e) = met-append (take i ns) (drop i ns) in
    (xs, ap met (sym (take-append-drop i ns)) ∙ e)

pub length-met_take : (ns : List Node) (i : ℕ) → length (met (take i ns)) ≤ length (met ns)
length-met_take ns i =
    let (xs, e) = met-take ns i in
    omega (arith, ap length e ∙ length-append (met (take i ns)) xs)

pub met-nodes : (t : Tree) → met (nodes t) ≡ distinct (occurrences t)
met-nodes t = ap distinct (variables_of-nodes t)

-- What is met up to a place is no longer than what is met at all.
pub length-met_with : (ns : List Node) (i : ℕ) (n : Node) (xs : List ℕ)
    → i < length ns
    → n ≡ get_or ns i n
    → xs ≡ met (take i ns)
    → length (met_with n xs) ≤ length (met ns)
length-met_with ns i n xs h e is =
    let here : length (met_with n xs) ≡ length (met (take (i + 1) ns)) =
    ap (λ ys. length (met_with n ys)) is ∙ ap length (sym (met_more ns i n h e)) in
    omega (arith, length-met_take ns (i + 1))

-- After all nodes of a term its variables are met.
pub met_all : (t : Tree) (ns : List Node) (i : ℕ) (xs : List ℕ)
    → ns ≡ nodes t
    → length ns ≤ i
    → xs ≡ met (take i ns)
    → xs ≡ variables t
met_all t ns i xs is past e = e ∙ ap met (take_all i ns past ∙ is) ∙ met-nodes t
