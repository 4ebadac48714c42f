-- The nodes of a term over atoms, and a stack of words that stand for terms.
use Rattle.std.specs.Prelude.{◌≡◌, ℕ, ◌<◌, ◌≤◌, ◌++◌, List, map, reverse, length}
use Rattle.pl_term.specs.declared.node.Node.{Node}
use Rattle.pl_term.specs.declared.node.Node.TheVariants as terms
use Rattle.pl_term.specs.Tree.{Tree, Trees, var, int, atom, more, trees}
use Rattle.pl_term.specs.Nodes.{build, nodes}
use Rattle.term_store.specs.declared.words.Word.{Word}
use Rattle.term_store.specs.declared.nodes.AtomNode.{AtomNode}
use Rattle.term_store.specs.declared.nodes.AtomNode.TheVariants.{Var, Int, Atom, Comp}
use Rattle.term_store.specs.Heap.{Heap, atom_name, meaning}
use Rattle.term_store.specs.Fit.{IsIn}
use Rattle.term_store.specs.Making.{Longer, Keeps, Made}

-- The node of a term whose names stand for atoms.
abbrev pub node_view : AtomNode → Node
node_view (Var x) = terms.Var x
node_view (Int i) = terms.Int i
node_view (Atom a) = terms.Atom (atom_name a)
node_view (Comp a k) = terms.Comp (atom_name a) k

abbrev pub node_views : List AtomNode → List Node
node_views ns = map node_view ns

-- The nodes spell one term.
abbrev pub IsSpelled : List AtomNode → Type 0
IsSpelled ns = (t : Tree) × (node_views ns ≡ nodes t)

-- A node whose variable is below a bound.
abbrev pub IsNodeBelow : ℕ → AtomNode → Type 0
IsNodeBelow n (Var x) = x < n
IsNodeBelow n (Int i) = Unit {0}
IsNodeBelow n (Atom a) = Unit {0}
IsNodeBelow n (Comp a k) = Unit {0}

-- There are enough terms after a compound term's node for its arguments.
abbrev pub IsNodeReady : ℕ → AtomNode → Type 0
IsNodeReady n (Var x) = Unit {0}
IsNodeReady n (Int i) = Unit {0}
IsNodeReady n (Atom a) = Unit {0}
IsNodeReady n (Comp a k) = (0 < k) × (k ≤ n)

-- The terms that a stack of words stands for, the last word first.
abbrev pub standing : Heap → List Word → Trees
standing h ws = trees (map (meaning h) (reverse ws))

-- The terms with the node in front of them, its variable by the number that the function gives.
abbrev pub placed : (ℕ → ℕ) → AtomNode → Trees → Trees
placed f (Var x) ts = more (var (f x)) ts
placed f (Int i) ts = more (int i) ts
placed f (Atom a) ts = more (atom (atom_name a)) ts
placed f (Comp a k) ts = build (atom_name a) k ts

-- The heap has gained compound terms alone, and what it had stands for what it stood for.
pub record Gains (c d : Heap) : Type 0 where
  pub longer : Longer c d
  pub numbers : d.numbers ≡ c.numbers
  pub keeps : Keeps c d

-- A word of the heap that stands for a term.
pub record StandsFor (h : Heap) (t : Tree) (w : Word) : Type 0 where
  pub inside : IsIn h w
  pub means : meaning h w ≡ t

-- Words were moved from the top of a stack after some arguments.
pub record Taken (before after : List Word) (stack left : List Word) (n : ℕ) : Type 0 where
  pub taken : List Word
  pub long : length taken ≡ n
  pub moved : after ≡ before ++ taken
  pub split : stack ≡ left ++ reverse taken

-- The words on top of the stack were made the arguments of a compound term.
pub record Joined (c : Heap) (name n : ℕ) (stack left : List Word) (d : Heap) (w : Word) : Type 0 where
  pub taken : List Word
  pub long : length taken ≡ n
  pub split : stack ≡ left ++ reverse taken
  pub made : Made c name taken d w
