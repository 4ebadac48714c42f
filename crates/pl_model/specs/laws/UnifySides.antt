-- Two lists of nodes that are read side by side, each the nodes of as many terms as the other.
use Rattle.std.specs.Prelude.{◌≡◌, ◌≢◌, ℕ, ◌<◌, Bool, false, if◌then◌else◌, ◌==◌, List, [], ◌∷◌, ◌++◌, length, take, slice_index_or, Option, Some, None, Vec}
use Rattle.std.specs.declared.alloc.Global.{Global}
use Rattle.pl_term.specs.declared.node.Node.{Node}
use Rattle.pl_term.specs.declared.node.Node.TheVariants.{Var, Int, Atom, Comp}
use Rattle.pl_term.specs.Tree.{count}
use Rattle.pl_term.specs.Nodes.{nodes_all, forest}

-- The nodes that are read: one's own, where there are some.
abbrev pub all_of : Option (Vec Node Global) → List Node → List Node
all_of (Some own) given = own.items
all_of None given = given

-- The node is this variable.
abbrev pub is_variable : ℕ → Node → Bool
is_variable x (Var y) = x == y
is_variable x (Int i) = false
is_variable x (Atom a) = false
is_variable x (Comp f k) = false

-- The nodes with others in place of each occurrence of the variable.
abbrev pub put_in : ℕ → List Node → List Node → List Node
put_in x s [] = []
put_in x s (n ∷ ns) = (if is_variable x n then s else n ∷ []) ++ put_in x s ns

-- The two lists are the nodes of equally many terms.
pub record Facing (ls rs : List Node) : Type 0 where
  pub left : nodes_all (forest ls) ≡ ls
  pub right : nodes_all (forest rs) ≡ rs
  pub counted : count (forest ls) ≡ count (forest rs)

-- The first place at which the two lists differ.
pub record DiffersAt (ls rs : List Node) (i : ℕ) : Type 0 where
  pub in_left : i < length ls
  pub in_right : i < length rs
  pub before : take i ls ≡ take i rs
  pub here : (d : Node) → slice_index_or ls i d ≢ slice_index_or rs i d

-- The variable that the node is.
abbrev pub variable_at : Node → Option ℕ
variable_at (Var x) = Some x
variable_at (Int i) = None
variable_at (Atom a) = None
variable_at (Comp f k) = None
