-- The cells of a term, counted node by node.
use Rattle.std.proofs.Common.{◌≡◌, ◌<◌, ◌≤◌, ◌+◌, ◌*◌, ◌^◌, ◌++◌, ◌==◌, not, ℕ, suc, Bool, true, false, cond, List, [], ◌∷◌, length, take, drop, get_or, sym, ◌∙◌, ap, arith, length-append}
use Rattle.std.proofs.lemmas.List.{take_more, take_all, take-append-drop}
use Rattle.pl_term.specs.declared.node.Node.{Node}
use Rattle.pl_term.specs.declared.node.Node.TheVariants.{Var, Int, Atom, Comp}
use Rattle.pl_term.specs.Tree.{Tree, Trees, var, int, atom, comp, none, more, count}
use Rattle.pl_term.specs.Nodes.{nodes, nodes_all}
use Rattle.pl_term.specs.Variables.{is_in, distinct, without, occurrences, occurrences_all}
use Rattle.pl_term.specs.Cells.{compound_cells, compound_cells_all, cells}
use Rattle.pl_term.specs.NodeLists.{variables_of, node_cells, compound_cells_of, cells_of, added_cells, added_variables, with, met_with}
use Rattle.pl_term.proofs.Distinct.{is_in-distinct}
use Rattle.pl_term.proofs.NodeLemmas.{met, met_more, met-push, met-nodes, length-met_take, compound_cells_of-append, compound_cells_of-nodes}

length-with : (x : ℕ) (xs : List ℕ) → length (with x xs) ≡ length xs + cond (is_in x xs) 0 1
length-with x xs =
    elim (is_in x xs) as (λ b. length (cond b xs (xs ++ x ∷ [])) ≡ length xs + cond b 0 1) [
      | true ↦ omega arith
      | false ↦ length-append xs (x ∷ [])
    ]

cells_of-push : (ns : List Node) (n : Node) → cells_of (ns ++ n ∷ []) ≡ cells_of ns + added_cells n ns
cells_of-push ns (Var x) =
    let one : Bool → ℕ = λ b. cond b 0 1 in
    let seen : one (is_in x (met ns)) ≡ one (is_in x (variables_of ns)) =
    ap one (is_in-distinct x (variables_of ns)) in
    omega (
      arith,
      compound_cells_of-append ns (Var x ∷ []),
      ap length (met-push ns (Var x)),
      length-with x (met ns),
      seen,
    )
cells_of-push ns (Int i) = omega (arith, compound_cells_of-append ns (Int i ∷ []), ap length (met-push ns (Int i)))
cells_of-push ns (Atom a) = omega (arith, compound_cells_of-append ns (Atom a ∷ []), ap length (met-push ns (Atom a)))
cells_of-push ns (Comp f k) = omega (arith, compound_cells_of-append ns (Comp f k ∷ []), ap length (met-push ns (Comp f k)))

-- One node more.
pub cells_more : (ns : List Node) (i : ℕ) (n : Node)
    → i < length ns
    → n ≡ get_or ns i n
    → cells_of (take (i + 1) ns) ≡ cells_of (take i ns) + added_cells n (take i ns)
cells_more ns i n h e =
    ap cells_of (take_more ns i n h ∙ ap (λ m. take i ns ++ m ∷ []) (sym e)) ∙ cells_of-push (take i ns) n

cells_of-nodes : (t : Tree) → cells_of (nodes t) ≡ cells t
cells_of-nodes t = omega (arith, compound_cells_of-nodes t, ap length (met-nodes t))

pub cells_end : (t : Tree) (ns : List Node) (i sum : ℕ)
    → ns ≡ nodes t
    → length ns ≤ i
    → sum ≡ cells_of (take i ns)
    → sum ≡ cells t
cells_end t ns i sum is past e = e ∙ ap cells_of (take_all i ns past ∙ is) ∙ cells_of-nodes t

-- Part of a list costs no more than the list.
cells_of-take : (ns : List Node) (i : ℕ) → cells_of (take i ns) ≤ cells_of ns
cells_of-take ns i =
    omega (
      arith,
      ap compound_cells_of (take-append-drop i ns),
      compound_cells_of-append (take i ns) (drop i ns),
      length-met_take ns i,
    )

length-without : (x : ℕ) (ys : List ℕ) → length (without x ys) ≤ length ys
length-without x [] = omega arith
length-without x (y ∷ ys) =
    elim (x == y) as (λ b. length (cond (not b) (y ∷ without x ys) (without x ys)) ≤ suc (length ys)) [
      | true ↦ omega (arith, length-without x ys)
      | false ↦ omega (arith, length-without x ys)
    ]

length-distinct : (xs : List ℕ) → length (distinct xs) ≤ length xs
length-distinct [] = omega arith
length-distinct (x ∷ xs) = omega (arith, length-without x (distinct xs), length-distinct xs)

mutual
  -- A term takes fewer than two cells for each node.
  size : (t : Tree) → compound_cells t + length (occurrences t) + 1 ≤ 2 * length (nodes t)
  size (var x) = omega arith
  size (int i) = omega arith
  size (atom a) = omega arith
  size (comp f t ts) =
      omega (
        arith,
        size t,
        size_all ts,
        length-append (nodes t) (nodes_all ts),
        length-append (occurrences t) (occurrences_all ts),
      )

  size_all : (ts : Trees) → compound_cells_all ts + length (occurrences_all ts) + count ts ≤ 2 * length (nodes_all ts)
  size_all none = omega arith
  size_all (more t ts) =
      omega (
        arith,
        size t,
        size_all ts,
        length-append (nodes t) (nodes_all ts),
        length-append (occurrences t) (occurrences_all ts),
      )

cells-below : (t : Tree) → cells t < 2 * length (nodes t)
cells-below t = omega (arith, size t, length-distinct (occurrences t))

-- The cells of the nodes in front of a place, and those that the next node adds, are few.
pub cells_fit : (t : Tree) (ns : List Node) (i : ℕ) (n : Node)
    → ns ≡ nodes t
    → length ns < 2 ^ 63
    → i < length ns
    → n ≡ get_or ns i n
    → cells_of (take i ns) + added_cells n (take i ns) < 2 ^ 64
cells_fit t ns i n is few h e =
    omega (
      arith,
      cells_more ns i n h e,
      cells_of-take ns (i + 1),
      ap cells_of is,
      cells_of-nodes t,
      cells-below t,
      ap length is,
    )

node_cells-le : (n : Node) (ns : List Node) → node_cells n ≤ added_cells n ns
node_cells-le (Var x) ns = omega arith
node_cells-le (Int i) ns = omega arith
node_cells-le (Atom a) ns = omega arith
node_cells-le (Comp f k) ns = omega arith

pub node_fits : (t : Tree) (ns : List Node) (i : ℕ) (n : Node)
    → ns ≡ nodes t
    → length ns < 2 ^ 63
    → i < length ns
    → n ≡ get_or ns i n
    → node_cells n < 2 ^ 64
node_fits t ns i n is few h e = omega (arith, cells_fit t ns i n is few h e, node_cells-le n (take i ns))

count_by : (n : Node) (ns : List Node) → length (met_with n (met ns)) ≡ length (met ns) + added_variables n ns
count_by (Var x) ns =
    let one : Bool → ℕ = λ b. cond b 0 1 in
    let seen : one (is_in x (met ns)) ≡ one (is_in x (variables_of ns)) =
    ap one (is_in-distinct x (variables_of ns)) in
    omega (arith, length-with x (met ns), seen)
count_by (Int i) ns = omega arith
count_by (Atom a) ns = omega arith
count_by (Comp f k) ns = omega arith

-- The variables of one node more.
pub count_more : (ns : List Node) (i : ℕ) (n : Node)
    → i < length ns
    → n ≡ get_or ns i n
    → length (met (take (i + 1) ns)) ≡ length (met (take i ns)) + added_variables n (take i ns)
count_more ns i n h e = ap length (met_more ns i n h e) ∙ count_by n (take i ns)

length-variables_of : (ns : List Node) → length (variables_of ns) ≤ length ns
length-variables_of [] = omega arith
length-variables_of (Var x ∷ ns) = omega (arith, length-variables_of ns)
length-variables_of (Int i ∷ ns) = omega (arith, length-variables_of ns)
length-variables_of (Atom a ∷ ns) = omega (arith, length-variables_of ns)
length-variables_of (Comp f k ∷ ns) = omega (arith, length-variables_of ns)

pub length-met : (ns : List Node) → length (met ns) ≤ length ns
length-met ns = omega (arith, length-distinct (variables_of ns), length-variables_of ns)
