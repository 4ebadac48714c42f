-- The keys of the first arguments of terms over atoms, and their order: by kind, then by value, or by name and arity.
use Rattle.std.specs.Prelude.{ℕ, suc, ℤ, pos, Bool, true, false, ◌==◌, ◌&&◌, List, [], ◌∷◌, if◌then◌else◌}
use Rattle.std.specs.Ordering.{nat_cmp, int_cmp, then_cmp, on}
use Rattle.std.specs.Cmp.{IsTotalOrder, nat_cmp_total, int_cmp_total, then_total, on_total}
use Rattle.std.specs.declared.cmp.Ordering.{Ordering}
use Rattle.pl_term.specs.declared.node.Node.{Node}
use Rattle.pl_term.specs.declared.node.Node.TheVariants as nodes
use Rattle.pl_term.specs.Tree.{Tree, var, int, atom, comp, none, more, count}
use Rattle.term_store.specs.declared.argument_key.ArgumentKey.{ArgumentKey}
use Rattle.term_store.specs.declared.argument_key.ArgumentKey.TheVariants.{Any, Int, Atom, Compound}
use Rattle.term_store.specs.NumberedNames.{number_of, neck}

abbrev pub rank : ArgumentKey → ℕ
rank Any = 0
rank (Int i) = 1
rank (Atom a) = 2
rank (Compound f k) = 3

-- The parts of a key. A part that it lacks is nought.
abbrev pub value : ArgumentKey → ℤ
value Any = pos 0
value (Int i) = i
value (Atom a) = pos 0
value (Compound f k) = pos 0

abbrev pub name : ArgumentKey → ℕ
name Any = 0
name (Int i) = 0
name (Atom a) = a
name (Compound f k) = f

abbrev pub arity : ArgumentKey → ℕ
arity Any = 0
arity (Int i) = 0
arity (Atom a) = 0
arity (Compound f k) = k

abbrev pub key_order : ArgumentKey → ArgumentKey → Ordering
key_order =
    then_cmp (on rank nat_cmp) (then_cmp (on value int_cmp) (then_cmp (on name nat_cmp) (on arity nat_cmp)))

pub key_order_total : IsTotalOrder key_order
key_order_total =
    then_total
    (on_total rank nat_cmp_total)
    (then_total (on_total value int_cmp_total) (then_total (on_total name nat_cmp_total) (on_total arity nat_cmp_total)))

abbrev pub is_any : ArgumentKey → Bool
is_any Any = true
is_any _ = false

-- The key of an argument.
abbrev pub argument_key : Tree → ArgumentKey
argument_key (var x) = Any
argument_key (int i) = Int i
argument_key (atom a) = Atom (number_of a)
argument_key (comp f t ts) = Compound (number_of f) (suc (count ts))

-- The head of a clause that is kept as one term: of a rule its first argument, of a fact all of it (ISO 6.2.1).
abbrev pub head_in : Tree → Tree
head_in (comp f t (more u none)) = if number_of f == neck then t else comp f t (more u none)
head_in t = t

-- The key of a head's first argument.
abbrev pub head_key : Tree → ArgumentKey
head_key (comp f t ts) = argument_key t
head_key _ = Any

abbrev pub clause_key : Tree → ArgumentKey
clause_key t = head_key (head_in t)

-- The atoms that a key names.
abbrev pub key_atoms : ArgumentKey → List ℕ
key_atoms Any = []
key_atoms (Int i) = []
key_atoms (Atom a) = a ∷ []
key_atoms (Compound f k) = f ∷ []

-- The same by nodes.
abbrev pub begins_rule : Node → Bool
begins_rule (nodes.Var x) = false
begins_rule (nodes.Int i) = false
begins_rule (nodes.Atom a) = false
begins_rule (nodes.Comp f k) = (k == 2) && (number_of f == neck)

abbrev pub head_nodes : List Node → List Node
head_nodes [] = []
head_nodes (n ∷ ns) = if begins_rule n then ns else n ∷ ns

abbrev pub node_key : Node → ArgumentKey
node_key (nodes.Var x) = Any
node_key (nodes.Int i) = Int i
node_key (nodes.Atom a) = Atom (number_of a)
node_key (nodes.Comp f k) = Compound (number_of f) k

abbrev pub first_key : List Node → ArgumentKey
first_key (nodes.Comp f k ∷ (n ∷ ns)) = node_key n
first_key _ = Any
