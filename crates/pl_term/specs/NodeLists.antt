-- What the definitions on terms are on the lists of their nodes.
use Rattle.std.specs.Prelude.{Option, Some, None, ℕ, ◌+◌, List, [], ◌∷◌, ◌++◌, length, if◌then◌else◌}
use Rattle.std.specs.Ordering.{nat_cmp, int_cmp, ordering_then}
use Rattle.std.specs.declared.cmp.Ordering.{Ordering}
use Rattle.pl_term.specs.declared.node.Node.{Node}
use Rattle.pl_term.specs.declared.node.Node.TheVariants.{Var, Int, Atom, Comp}
use Rattle.pl_term.specs.Order.{text_order}
use Rattle.pl_term.specs.Variables.{is_in, place, distinct}

-- A variable comes before an integer, that before an atom, and that before a compound term.
abbrev pub node_rank : Node → ℕ
node_rank (Var x) = 0
node_rank (Int i) = 1
node_rank (Atom a) = 2
node_rank (Comp f k) = 3

-- The standard order of what two nodes say by themselves.
abbrev pub node_order : Node → Node → Ordering
node_order (Var x) (Var y) = nat_cmp x y
node_order (Int i) (Int j) = int_cmp i j
node_order (Atom a) (Atom b) = text_order a b
node_order (Comp f k) (Comp g l) = ordering_then (nat_cmp k l) (text_order f g)
node_order m n = nat_cmp (node_rank m) (node_rank n)

-- The variables among the nodes, in their order.
abbrev pub variable_of : Node → List ℕ
variable_of (Var x) = x ∷ []
variable_of (Int i) = []
variable_of (Atom a) = []
variable_of (Comp f k) = []

abbrev pub variables_of : List Node → List ℕ
variables_of [] = []
variables_of (n ∷ ns) = variable_of n ++ variables_of ns

-- The cells of the compound terms that the nodes begin.
abbrev pub node_cells : Node → ℕ
node_cells (Var x) = 0
node_cells (Int i) = 0
node_cells (Atom a) = 0
node_cells (Comp f k) = k + 1

abbrev pub compound_cells_of : List Node → ℕ
compound_cells_of [] = 0
compound_cells_of (n ∷ ns) = node_cells n + compound_cells_of ns

-- The cells of the terms whose nodes these are.
abbrev pub cells_of : List Node → ℕ
cells_of ns = compound_cells_of ns + length (distinct (variables_of ns))

-- The node in which a variable has the number that the function gives.
abbrev pub rename_node : (ℕ → ℕ) → Node → Node
rename_node f (Var x) = Var (f x)
rename_node f (Int i) = Int i
rename_node f (Atom a) = Atom a
rename_node f (Comp g k) = Comp g k

-- The list with the number after it where it is not in it.
abbrev pub with : ℕ → List ℕ → List ℕ
with x xs = if is_in x xs then xs else xs ++ x ∷ []

-- The list of the variables met so far after a further node.
abbrev pub met_with : Node → List ℕ → List ℕ
met_with (Var x) xs = with x xs
met_with (Int i) xs = xs
met_with (Atom a) xs = xs
met_with (Comp f k) xs = xs

-- How many variables a node adds to those of the nodes before it.
abbrev pub added_variables : Node → List Node → ℕ
added_variables (Var x) ns = if is_in x (variables_of ns) then 0 else 1
added_variables (Int i) ns = 0
added_variables (Atom a) ns = 0
added_variables (Comp f k) ns = 0

-- The cells that a node adds to those of the nodes before it.
abbrev pub added_cells : Node → List Node → ℕ
added_cells (Var x) ns = if is_in x (variables_of ns) then 0 else 1
added_cells (Int i) ns = 0
added_cells (Atom a) ns = 0
added_cells (Comp f k) ns = k + 1

-- The place of a number that is in the list.
abbrev pub place_if : ℕ → List ℕ → Option ℕ
place_if x xs = if is_in x xs then Some (place x xs) else None

-- The node in which a variable goes by its place among those met.
abbrev pub numbered_node : Node → List ℕ → Node
numbered_node n xs = rename_node (λ x. place x xs) n
