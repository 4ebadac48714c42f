-- Evaluation of a term from its nodes in prefix order, from the right to the left: each node takes the values of its
-- arguments, which are the first ones among those of the terms that follow, and puts its own value in their place.
use Rattle.std.specs.Prelude.{ℕ, zero, suc, ◌+◌, List, [], ◌∷◌, Ok, Err, drop}
use Rattle.pl_term.specs.declared.node.Node.{Node}
use Rattle.pl_term.specs.declared.node.Node.TheVariants.{Var, Int, Atom, Comp}
use Rattle.pl_term.specs.Tree.{Chars}
use Rattle.pl_model.specs.declared.evaluables.EvalFault.TheVariants.{Inst, NotEvaluable}
use Rattle.pl_model.specs.Evaluables.{Evaluated, named, names1, names2, value1, value2, no_evaluable}

-- How many arguments follow a node.
abbrev pub arity : Node → ℕ
arity (Var x) = 0
arity (Int i) = 0
arity (Atom a) = 0
arity (Comp f k) = k

-- The first value of a list.
abbrev pub first : List Evaluated → Evaluated
first [] = Err Inst
first (v ∷ vs) = v

-- The value of a compound term by its name and the number of its arguments, whose values begin the list.
abbrev pub compound_value : Chars → ℕ → List Evaluated → Evaluated
compound_value f zero vs = no_evaluable f 0
compound_value f (suc zero) vs = value1 f (named names1 f) (first vs)
compound_value f (suc (suc zero)) vs = value2 f (named names2 f) (first vs) (first (drop 1 vs))
compound_value f (suc (suc (suc k))) vs = no_evaluable f (3 + k)

-- The value of a node, where those of its arguments begin the list.
abbrev pub node_value : Node → List Evaluated → Evaluated
node_value (Var x) vs = Err Inst
node_value (Int i) vs = Ok i
node_value (Atom a) vs = Err (NotEvaluable (Atom a))
node_value (Comp f k) vs = compound_value f k vs

-- The list with the node's value in the place of those of its arguments.
abbrev pub with_value : Node → List Evaluated → List Evaluated
with_value n vs = node_value n vs ∷ drop (arity n) vs

-- The values of the terms that a list of nodes spells.
abbrev pub values_of : List Node → List Evaluated
values_of [] = []
values_of (n ∷ ns) = with_value n (values_of ns)
