-- What a term over atoms names, by its first node.
use Rattle.std.specs.Prelude.{ℕ, ℤ, pos, negsuc, List, [], ◌∷◌, Option, Some, None}
use Rattle.term_store.specs.declared.nodes.AtomNode.{AtomNode}
use Rattle.term_store.specs.declared.nodes.AtomNode.TheVariants as nodes
use Rattle.world_api.specs.declared.reply.Name.{Name}
use Rattle.world_api.specs.declared.reply.Name.TheVariants.{Number, Alias}

abbrev pub number_named : ℤ → Option Name
number_named (pos n) = Some (Number n)
number_named (negsuc n) = None

abbrev pub node_named : AtomNode → Option Name
node_named (nodes.Atom a) = Some (Alias a)
node_named (nodes.Int i) = number_named i
node_named (nodes.Var x) = None
node_named (nodes.Comp f n) = None

abbrev pub first_named : List AtomNode → Option Name
first_named [] = None
first_named (n ∷ ns) = node_named n
