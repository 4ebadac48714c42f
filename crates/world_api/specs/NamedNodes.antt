-- Nodes over atoms as nodes with texts.
use Rattle.std.specs.Prelude.{ℕ, ◌<◌, List, [], ◌∷◌, ◌++◌, map, Result, Ok, Err}
use Rattle.std.specs.List.{Contains}
use Rattle.pl_term.specs.Tree.{Chars}
use Rattle.pl_term.specs.Texts.{size}
use Rattle.pl_term.specs.declared.node.Node.{Node}
use Rattle.pl_term.specs.declared.node.Node.TheVariants as terms
use Rattle.term_store.specs.declared.nodes.AtomNode.{AtomNode}
use Rattle.term_store.specs.declared.nodes.AtomNode.TheVariants.{Var, Int, Atom, Comp}
use Rattle.atom_words.specs.declared.view.Refusal.{Refusal}
use Rattle.atom_words.specs.declared.view.Refusal.TheVariants.{Full as RefusalFull, Again as RefusalAgain, Worn as RefusalWorn}
use Rattle.world_api.specs.declared.interning.NoTerm.{NoTerm}
use Rattle.world_api.specs.declared.interning.NoTerm.TheVariants.{Full, Again, TooLong, Worn, Memory}

-- The node in which an atom has the text that the map gives it.
abbrev pub node_in : (ℕ → Chars) → AtomNode → Node
node_in text (Var x) = terms.Var x
node_in text (Int i) = terms.Int i
node_in text (Atom a) = terms.Atom (text a)
node_in text (Comp a k) = terms.Comp (text a) k

abbrev pub nodes_in : (ℕ → Chars) → List AtomNode → List Node
nodes_in text ns = map (node_in text) ns

-- The atoms that nodes name.
abbrev pub node_atoms : AtomNode → List ℕ
node_atoms (Var x) = []
node_atoms (Int i) = []
node_atoms (Atom a) = a ∷ []
node_atoms (Comp a k) = a ∷ []

abbrev pub atoms_of : List AtomNode → List ℕ
atoms_of [] = []
atoms_of (n ∷ ns) = node_atoms n ++ atoms_of ns

-- The name of a node that has one.
abbrev pub node_name : Node → Chars
node_name (terms.Var x) = []
node_name (terms.Int i) = []
node_name (terms.Atom f) = f
node_name (terms.Comp f k) = f

-- The names that nodes have.
abbrev pub node_texts : Node → List Chars
node_texts (terms.Var x) = []
node_texts (terms.Int i) = []
node_texts (terms.Atom f) = f ∷ []
node_texts (terms.Comp f k) = f ∷ []

abbrev pub texts_of : List Node → List Chars
texts_of [] = []
texts_of (n ∷ ns) = node_texts n ++ texts_of ns

-- One of the names has more than 248 bytes in UTF-8.
abbrev pub HasTooLong : List Node → Type 0
HasTooLong ns = (n : Node) × Contains ns n × (248 < size (node_name n))

-- The refusals of atoms that an answer hands on.
abbrev pub stop_refusals : NoTerm → List Refusal
stop_refusals (Full p) = RefusalFull p ∷ []
stop_refusals (Again c) = RefusalAgain c ∷ []
stop_refusals TooLong = []
stop_refusals (Worn w) = RefusalWorn w ∷ []
stop_refusals Memory = []

abbrev pub refusals_by : {T : Type 0} → Result T NoTerm → List Refusal
refusals_by (Ok t) = []
refusals_by (Err stop) = stop_refusals stop
