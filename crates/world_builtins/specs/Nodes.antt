-- Nodes of terms over atoms, as nodes of terms over texts.
use Rattle.std.specs.Prelude.{IsSome}
use Rattle.pl_term.specs.declared.node.Node.{Node}
use Rattle.pl_term.specs.declared.node.Node.TheVariants.{Var, Int, Atom, Comp}
use Rattle.pl_term.specs.Tree.{Chars}
use Rattle.atom_api.specs.Names.{Names}
use Rattle.world_builtins.specs.Naming.{number_of}

-- The node whose name is spelled as the function says.
abbrev pub spelled_node : (Chars → Chars) → Node → Node
spelled_node g (Var x) = Var x
spelled_node g (Int i) = Int i
spelled_node g (Atom a) = Atom (g a)
spelled_node g (Comp f k) = Comp (g f) k

-- The atom that a node names is held.
abbrev pub IsNodeHeld : Names → Node → Type 0
IsNodeHeld m (Var x) = Unit {0}
IsNodeHeld m (Int i) = Unit {0}
IsNodeHeld m (Atom a) = IsSome (m (number_of a))
IsNodeHeld m (Comp f k) = IsSome (m (number_of f))
