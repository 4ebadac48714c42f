-- What becomes of a node that stands in the place of a goal of a body (ISO 7.6.2).
use Rattle.std.specs.Prelude.{ℕ, List, [], ◌∷◌, Bool, true, false, ◌&&◌, ◌==◌, bytes_eq, codes, if◌then◌else◌}
use Rattle.pl_term.specs.declared.node.Node.{Node}
use Rattle.pl_term.specs.declared.node.Node.TheVariants.{Var, Int, Comp}
use Rattle.pl_term.specs.Tree.{Tree, comp, none, more}
use Rattle.pl_model.specs.BodyChecks.{is_transparent}
use Rattle.pl_consult.specs.Subterms.{arity_of}

-- An integer is no goal.
abbrev pub is_integer : Node → Bool
is_integer (Int i) = true
is_integer _ = false

-- A variable X becomes call(X).
abbrev pub goal_nodes : Node → List Node
goal_nodes (Var x) = Comp (codes "call") 1 ∷ (Var x ∷ [])
goal_nodes n = n ∷ []

-- The node begins a control construct whose arguments are goals.
abbrev pub is_control : Node → Bool
is_control (Comp f k) = is_transparent f && (k == 2)
is_control _ = false

-- The goals that follow the node.
abbrev pub goals_behind : Node → ℕ
goals_behind n = if is_control n then 2 else 0

-- The terms that follow the node and are no goals of the body.
abbrev pub terms_behind : Node → ℕ
terms_behind n = if is_control n then 0 else arity_of n

-- The term is a rule Head :- Body (ISO 7.6.1).
abbrev pub is_rule : Tree → Bool
is_rule (comp f t (more u none)) = bytes_eq f (codes ":-")
is_rule _ = false
