-- Nodes whose names stand in a list, as nodes over texts.
use Rattle.std.specs.Prelude.{◌≡◌, ℕ, ◌<◌, ◌++◌, List, [], map, get_or}
use Rattle.pl_term.specs.declared.node.Node.{Node}
use Rattle.pl_term.specs.declared.node.Node.TheVariants.{Var, Int, Atom, Comp}
use Rattle.pl_term.specs.Tree.{Chars}
use Rattle.named_terms.specs.declared.node.NumberedNode.{NumberedNode}
use Rattle.named_terms.specs.declared.node.NumberedNode.TheVariants as numbered

-- The text at a place of the list.
abbrev pub text_by : List Chars → ℕ → Chars
text_by names k = get_or names k []

abbrev pub node_by : List Chars → NumberedNode → Node
node_by names (numbered.Var x) = Var x
node_by names (numbered.Int i) = Int i
node_by names (numbered.Atom a) = Atom (text_by names a)
node_by names (numbered.Comp f k) = Comp (text_by names f) k

abbrev pub nodes_by : List Chars → List NumberedNode → List Node
nodes_by names ns = map (node_by names) ns

-- The place of the name is one of so many.
abbrev pub IsNodeNamed : ℕ → NumberedNode → Type 0
IsNodeNamed count (numbered.Var x) = Unit {0}
IsNodeNamed count (numbered.Int i) = Unit {0}
IsNodeNamed count (numbered.Atom a) = a < count
IsNodeNamed count (numbered.Comp f k) = f < count

-- Names were put behind those before.
abbrev pub Extends : List Chars → List Chars → Type 0
Extends old new = (added : List Chars) × (new ≡ old ++ added)
