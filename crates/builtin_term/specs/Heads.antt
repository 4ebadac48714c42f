-- What a term says by itself, and what its arguments say.
use Rattle.std.specs.Prelude.{ℕ, zero, List}
use Rattle.std.specs.declared.cmp.Ordering.{Ordering}
use Rattle.std.specs.declared.cmp.Ordering.TheVariants.{Equal}
use Rattle.pl_term.specs.declared.node.Node.{Node}
use Rattle.pl_term.specs.declared.node.Node.TheVariants as nodes
use Rattle.pl_term.specs.Tree.{Chars, Tree, trees}
use Rattle.pl_term.specs.Order.{order_all}
use Rattle.atom_api.specs.Names.{Names}
use Rattle.term_store.specs.declared.views.View.{View}
use Rattle.term_store.specs.declared.views.View.TheVariants.{Variable, Integer, Atom, Compound}
use Rattle.term_store.specs.Heap.{atom_name}
use Rattle.term_store.specs.Contents.{Contents, arguments_at}
use Rattle.builtin_rows.specs.Lists.{AreHeld}
use Rattle.world_builtins.specs.Spelling.{spelled_all}

-- The first node of the term that is seen.
abbrev pub head : View → Node
head (Variable x) = nodes.Var x
head (Integer i) = nodes.Int i
head (Atom a) = nodes.Atom (atom_name a)
head (Compound f a) = nodes.Comp (atom_name f) a.count

abbrev pub argument_count : View → ℕ
argument_count (Variable x) = zero
argument_count (Integer i) = zero
argument_count (Atom a) = zero
argument_count (Compound f a) = a.count

-- The standard order of two lists of terms, whose names are spelled as the function says.
abbrev pub list_order : (Chars → Chars) → List Tree → List Tree → Ordering
list_order g ts us = order_all (spelled_all g (trees ts)) (spelled_all g (trees us))

-- The order of the arguments of two terms.
abbrev pub behind : (Chars → Chars) → Contents → View → View → Ordering
behind g s (Compound f a) (Compound h b) = list_order g (arguments_at s a) (arguments_at s b)
behind g s _ _ = Equal

-- Each atom that the arguments name is held.
abbrev pub IsHeldBehind : Names → Contents → View → Type 0
IsHeldBehind m s (Variable x) = Unit {0}
IsHeldBehind m s (Integer i) = Unit {0}
IsHeldBehind m s (Atom a) = Unit {0}
IsHeldBehind m s (Compound f a) = AreHeld m (arguments_at s a)
