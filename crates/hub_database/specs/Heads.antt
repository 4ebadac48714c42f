-- The predicate of a clause's head, by the number of its name.
use Rattle.std.specs.Prelude.{suc, Option, Some, None}
use Rattle.pl_term.specs.declared.node.Node.{Node}
use Rattle.pl_term.specs.declared.node.Node.TheVariants as nodes
use Rattle.pl_term.specs.Tree.{Tree, var, int, atom, comp, count}
use Rattle.term_store.specs.NumberedNames.{number_of}
use Rattle.world_api.specs.declared.visit.Procedure.{Procedure}

-- A variable stands for call/1 of it, and an integer for nothing.
abbrev pub node_procedure : Node → Option Procedure
node_procedure (nodes.Var x) = Some (record { name = 53; arity = 1 })
node_procedure (nodes.Int i) = None
node_procedure (nodes.Atom a) = Some (record { name = number_of a; arity = 0 })
node_procedure (nodes.Comp f k) = Some (record { name = number_of f; arity = k })

abbrev pub tree_procedure : Tree → Option Procedure
tree_procedure (var x) = Some (record { name = 53; arity = 1 })
tree_procedure (int i) = None
tree_procedure (atom a) = Some (record { name = number_of a; arity = 0 })
tree_procedure (comp f t ts) = Some (record { name = number_of f; arity = suc (count ts) })
