-- A term whose variables are numbered in the order in which they first occur.
use Rattle.std.proofs.Common.{◌≡◌, ◌==◌, ◌||◌, ℕ, zero, suc, ◌+◌, ◌<◌, ◌≤◌, true, false, not, cond, List, [], ◌∷◌, ◌++◌, length, map, get_or, take, refl, sym, ap, subst, ◌∙◌, ⊎_elim, arith, zero-add}
use Rattle.std.specs.List.{All}
use Rattle.std.proofs.Math.ListN.{get_or-map}
use Rattle.std.proofs.lemmas.Bool.{eq-eqb, ne_eqb, cases_eq, or_right}
use Rattle.std.proofs.lemmas.List.{length-map, map-append, take-take}
use Rattle.std.proofs.lemmas.List.Elements.{All-push, All-weaker}
use Rattle.pl_term.specs.declared.node.Node.{Node}
use Rattle.pl_term.specs.Tree.{Tree}
use Rattle.pl_term.specs.Cells.{cells, compound_cells}
use Rattle.pl_term.specs.Nodes.{nodes, tree}
use Rattle.pl_term.specs.NodeLists.{compound_cells_of, met_with, node_cells, rename_node}
use Rattle.pl_term.specs.Variables.{is_in, place, without, distinct, occurrences, variables, rename, rename_by}
use Rattle.pl_term.proofs.Distinct.{is_in-distinct, get_or-place}
use Rattle.pl_term.proofs.NodeLemmas.{compound_cells_of-append, compound_cells_of-nodes, met, met_more, met_all, length-met_take}
use Rattle.pl_term.proofs.Renaming.{occurrences-rename_by, placed_more, rename_same, rename_twice, renamed_all}
use Rattle.pl_term.proofs.Spelled.{nodes_spelled, tree_spelled}
use Rattle.pl_term.proofs.Variants.{same_from_variant}
use Rattle.term_store.specs.declared.nodes.AtomNode.{AtomNode}
use Rattle.term_store.specs.declared.nodes.AtomNode.TheVariants.{Var, Int, Atom, Comp}
use Rattle.term_store.specs.Nodes.{IsNodeBelow, node_view, node_views}
use Rattle.term_store.specs.StoredTerms.{IsStored}

-- Each number of the list comes back.
abbrev Returns : (ℕ → ℕ) → (ℕ → ℕ) → List ℕ → Type 0
Returns to back [] = Unit {0}
Returns to back (x ∷ xs) = (back (to x) ≡ x) × Returns to back xs

returns_from : (to back : ℕ → ℕ) (xs : List ℕ) → ((x : ℕ) → is_in x xs ≡ true → back (to x) ≡ x) → Returns to back xs
returns_from to back [] h = tt
returns_from to back (y ∷ ys) h =
    (h y (ap (λ b. b || is_in y ys) (eq-eqb y y refl)), returns_from to back ys (λ x e. h x (or_right (x == y) (is_in x ys) e)))

Returns-without : (to back : ℕ → ℕ) (x : ℕ) (ys : List ℕ) → Returns to back ys → Returns to back (without x ys)
Returns-without to back x [] r = tt
Returns-without to back x (y ∷ ys) r =
    elim (x == y) as (λ b. Returns to back (cond (not b) (y ∷ without x ys) (without x ys))) [
      | true ↦ Returns-without to back x ys r.1
      | false ↦ (r.0, Returns-without to back x ys r.1)
    ]

Returns-distinct : (to back : ℕ → ℕ) (xs : List ℕ) → Returns to back xs → Returns to back (distinct xs)
Returns-distinct to back [] r = tt
Returns-distinct to back (x ∷ xs) r = (r.0, Returns-without to back x (distinct xs) (Returns-distinct to back xs r.1))

eqb-to : (to back : ℕ → ℕ) (x y : ℕ) → back (to x) ≡ x → back (to y) ≡ y → (to x == to y) ≡ (x == y)
eqb-to to back x y p q =
    ⊎_elim
    (λ e. eq-eqb (to x) (to y) (ap to e) ∙ sym (eq-eqb x y e))
    (λ ne. ne_eqb (to x) (to y) (λ e. ne (sym p ∙ ap back e ∙ q)) ∙ sym (ne_eqb x y ne))
    (cases_eq x y)

without-map : (to back : ℕ → ℕ) (x : ℕ) (ys : List ℕ) → back (to x) ≡ x → Returns to back ys → without (to x) (map to ys) ≡ map to (without x ys)
without-map to back x [] p r = refl
without-map to back x (y ∷ ys) p r =
    ap (λ b. cond (not b) (to y ∷ without (to x) (map to ys)) (without (to x) (map to ys))) (eqb-to to back x y p r.0)
    ∙ elim (x == y) as
    (λ b. cond (not b) (to y ∷ without (to x) (map to ys)) (without (to x) (map to ys)) ≡ map to (cond (not b) (y ∷ without x ys) (without x ys))) [
      | true ↦ without-map to back x ys p r.1
      | false ↦ ap (λ zs. to y ∷ zs) (without-map to back x ys p r.1)
    ]

distinct-map : (to back : ℕ → ℕ) (xs : List ℕ) → Returns to back xs → distinct (map to xs) ≡ map to (distinct xs)
distinct-map to back [] r = refl
distinct-map to back (x ∷ xs) r =
    ap (λ ys. to x ∷ without (to x) ys) (distinct-map to back xs r.1)
    ∙ ap (λ ys. to x ∷ ys) (without-map to back x (distinct xs) r.0 (Returns-distinct to back xs r.1))

-- The variable comes back from its number.
number_back : (t : Tree) (x : ℕ) → is_in x (occurrences t) ≡ true → get_or (variables t) (zero + place x (variables t)) 0 ≡ x
number_back t x h =
    ap (λ k. get_or (variables t) k 0) (zero-add (place x (variables t))) ∙ get_or-place x (variables t) (is_in-distinct x (occurrences t) ∙ h)

-- There are as many variables as before.
pub length-variables_renamed : (t : Tree) → length (variables (rename zero t)) ≡ length (variables t)
length-variables_renamed t =
    let to : ℕ → ℕ = λ x. zero + place x (variables t) in
    let back : ℕ → ℕ = λ k. get_or (variables t) k 0 in
    ap (λ xs. length (distinct xs)) (occurrences-rename_by to t)
    ∙ ap length (distinct-map to back (occurrences t) (returns_from to back (occurrences t) (number_back t)))
    ∙ length-map (variables t) to

-- A term numbered from any number on is the numbered term with its variables raised.
pub rename-raised : (n : ℕ) (t : Tree) → rename_by (λ x. n + x) (rename zero t) ≡ rename n t
rename-raised n t =
    rename_twice (λ x. zero + place x (variables t)) (λ x. n + x) t
    ∙ rename_same (λ x. n + (zero + place x (variables t))) (λ x. n + place x (variables t)) t (λ x _. ap (λ k. n + k) (zero-add (place x (variables t))))

-- A term that is numbered already is only raised.
pub raised_numbered : (n : ℕ) (t : Tree) → rename zero t ≡ t → rename_by (λ x. n + x) t ≡ rename n t
raised_numbered n t e = ap (rename_by (λ x. n + x)) (sym e) ∙ rename-raised n t

-- What is numbered already stays.
pub rename-rename : (t : Tree) → rename zero (rename zero t) ≡ rename zero t
rename-rename t =
    unzero (rename zero t)
    ∙ sym
    (unzero t
    ∙ same_from_variant t (rename zero t)
    (record {
      to = λ x. zero + place x (variables t);
      back = λ k. get_or (variables t) k 0;
      becomes = refl;
      one_to_one = λ x h. number_back t x h;
    }))
  where
    unzero : (u : Tree) → rename zero u ≡ rename_by (λ x. place x (variables u)) u
    unzero u = rename_same (λ x. zero + place x (variables u)) (λ x. place x (variables u)) u (λ x _. zero-add (place x (variables u)))

weaker_node : (n m : ℕ) (a : AtomNode) → n ≤ m → IsNodeBelow n a → IsNodeBelow m a
weaker_node n m (Var x) le h = omega arith
weaker_node n m (Int i) le h = tt
weaker_node n m (Atom a) le h = tt
weaker_node n m (Comp a k) le h = tt

-- Within a list what stands at a place does not depend on the default.
pub same_default : {X : Type 0} (xs : List X) (i : ℕ) (d e : X) → i < length xs → get_or xs i d ≡ get_or xs i e
same_default [] i d e lt = absurd (omega arith)
same_default (x ∷ xs) zero d e lt = refl
same_default (x ∷ xs) (suc i) d e lt = same_default xs i d e (omega arith)

-- What is known when the first nodes were numbered.
pub record Numbered (ns : List AtomNode) (i : ℕ) (xs : List ℕ) (all : List AtomNode) (sum : ℕ) : Type 0 where
  pub variables_met : xs ≡ met (take i (node_views ns))
  pub renamed : node_views all ≡ map (rename_node (λ x. zero + place x (met (node_views ns)))) (take i (node_views ns))
  pub below : All (IsNodeBelow (length xs)) all
  pub cells_are : sum ≡ compound_cells_of (node_views all)

pub numbered_more : (ns : List AtomNode) (i : ℕ) (xs ys : List ℕ) (all all' : List AtomNode) (sum sum' : ℕ) (n d m : AtomNode)
    → Numbered ns i xs all sum → i < length ns → n ≡ get_or ns i d → ys ≡ met_with (node_view n) xs
    → node_view m ≡ rename_node (λ x. zero + place x ys) (node_view n) → IsNodeBelow (length ys) m → sum' ≡ sum + node_cells (node_view m) → all' ≡ all ++ m ∷ []
    → Numbered ns (i + 1) ys all' sum'
numbered_more ns i xs ys all all' sum sum' n d m k lt e0 met_is m_is m_below s a =
    record {
      variables_met = here ∙ sym (met_more views i (node_view n) lt' e');
      renamed =
          placed_more (node_view m) (node_view n) views i (λ j. zero + j) ys (node_views all) (node_views all') lt' e' here m_is k.renamed all_is;
      below =
          subst (λ bs. All (IsNodeBelow (length ys)) bs) (sym a)
          (All-push (IsNodeBelow (length ys)) all m (All-weaker (IsNodeBelow (length xs)) (IsNodeBelow (length ys)) (λ b h. weaker_node (length xs) (length ys) b longer h) all k.below) m_below);
      cells_are = s ∙ ap (λ j. j + node_cells (node_view m)) k.cells_are ∙ sym (ap compound_cells_of all_is ∙ compound_cells_of-append (node_views all) (node_view m ∷ []) ∙ one_node (compound_cells_of (node_views all)) (node_cells (node_view m)));
    }
  where
    views : List Node
    views = node_views ns

    lt' : i < length (node_views ns)
    lt' = omega (arith, length-map ns node_view)

    e' : node_view n ≡ get_or (node_views ns) i (node_view n)
    e' = ap node_view (e0 ∙ same_default ns i d n lt) ∙ sym (get_or-map node_view ns i n)

    here : ys ≡ met_with (node_view n) (met (take i (node_views ns)))
    here = met_is ∙ ap (met_with (node_view n)) k.variables_met

    all_is : node_views all' ≡ node_views all ++ node_view m ∷ []
    all_is = ap node_views a ∙ map-append node_view all (m ∷ [])

    longer : length xs ≤ length ys
    longer =
        omega (
          arith,
          ap length k.variables_met,
          ap length (here ∙ sym (met_more (node_views ns) i (node_view n) (omega (arith, length-map ns node_view)) (ap node_view (e0 ∙ same_default ns i d n lt) ∙ sym (get_or-map node_view ns i n)))),
          ap (λ zs. length (met zs)) (take-take i (i + 1) (node_views ns) (omega arith)),
          length-met_take (take (i + 1) (node_views ns)) i,
        )

    one_node : (p q : ℕ) → p + (q + 0) ≡ p + q
    one_node p q = omega arith

-- All nodes were numbered.
module _ (t : Tree) (ns : List AtomNode) (spelled : node_views ns ≡ nodes t) (i : ℕ) (xs : List ℕ) (all : List AtomNode) (sum : ℕ) (k : Numbered ns i xs all sum)
    (past : length ns ≤ i) where
  all_views : node_views all ≡ nodes (rename zero t)
  all_views = renamed_all t (node_views ns) zero i (node_views all) spelled (omega (arith, length-map ns node_view)) k.renamed

  pub numbered_tree : tree (node_views all) ≡ rename zero (tree (node_views ns))
  numbered_tree =
      tree_spelled (node_views all) (rename zero t) all_views ∙ ap (rename zero) (sym (tree_spelled (node_views ns) t spelled))

  all_met : xs ≡ variables t
  all_met = met_all t (node_views ns) i xs spelled (omega (arith, length-map ns node_view)) k.variables_met

  pub numbered_stored : (count total : ℕ) → count ≡ length xs → total ≡ sum + count → IsStored all count total
  numbered_stored count total c s =
      let is : tree (node_views all) ≡ rename zero t = tree_spelled (node_views all) (rename zero t) all_views in
      let vars : count ≡ length (variables (rename zero t)) = c ∙ ap length all_met ∙ sym (length-variables_renamed t) in
      record {
        spelled = nodes_spelled (node_views all) (rename zero t) all_views;
        numbered = ap (rename zero) is ∙ rename-rename t ∙ sym is;
        below = subst (λ n. All (IsNodeBelow n) all) (sym c) k.below;
        variables_are = vars ∙ ap (λ u. length (variables u)) (sym is);
        cells_are =
            s ∙ ap (λ j. j + count) (k.cells_are ∙ ap compound_cells_of all_views ∙ compound_cells_of-nodes (rename zero t))
            ∙ ap (λ j. compound_cells (rename zero t) + j) vars ∙ ap cells (sym is);
      }
