-- The head and the first argument of a clause that is kept as the list of its nodes.
use Rattle.std.specs.Prelude.{Bool, false, List, [], ◌∷◌, bytes_eq, codes, if◌then◌else◌, ◌==◌, ◌&&◌}
use Rattle.pl_term.specs.declared.node.Node.{Node}
use Rattle.pl_term.specs.declared.node.Node.TheVariants.{Var, Int, Atom, Comp}
use Rattle.pl_model.specs.declared.first_argument.FirstArgument.{FirstArgument}
use Rattle.pl_model.specs.declared.first_argument.FirstArgument.TheVariants as key

-- Whether a rule begins with this node.
abbrev pub is_rule_node : Node → Bool
is_rule_node (Var x) = false
is_rule_node (Int i) = false
is_rule_node (Atom a) = false
is_rule_node (Comp f k) = (k == 2) && bytes_eq f (codes ":-")

-- The nodes from the head's first one on.
abbrev pub head_nodes : List Node → List Node
head_nodes [] = []
head_nodes (n ∷ ns) = if is_rule_node n then ns else n ∷ ns

-- The key of an argument whose first node this is.
abbrev pub node_key : Node → FirstArgument
node_key (Var x) = key.Any
node_key (Int i) = key.Int i
node_key (Atom a) = key.Atom a
node_key (Comp f k) = key.Compound f k

-- The key of the first argument of the term that these nodes begin with.
abbrev pub first_key : List Node → FirstArgument
first_key (Comp f k ∷ (n ∷ ns)) = node_key n
first_key _ = key.Any
