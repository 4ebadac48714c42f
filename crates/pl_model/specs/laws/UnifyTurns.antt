-- What one turn of unification finds.
use Rattle.std.specs.Prelude.{◌≡◌, ℕ, suc, List, [], ◌∷◌, ◌++◌, length, Option, Some, None}
use Rattle.pl_term.specs.declared.node.Node.{Node}
use Rattle.pl_term.specs.Nodes.{nodes, forest, tree}
use Rattle.pl_model.specs.Unify.{Bindings, clash, binds, difference, solve}
use Rattle.pl_model.specs.laws.UnifySides.{Facing}
use Rattle.pl_model.specs.declared.unifying.Found.{Found}
use Rattle.pl_model.specs.declared.unifying.Outcome.{Outcome}
use Rattle.pl_model.specs.declared.unifying.Outcome.TheVariants.{Same, Clash, Binds}

-- The first terms of the two lists differ at their first node so.
abbrev pub Finds : List Node → List Node → Option Found → Type 0
Finds ls rs None = difference (tree ls) (tree rs) ≡ clash
Finds ls rs (Some f) =
    (difference (tree ls) (tree rs) ≡ binds f.variable f.value) × (f.left ≡ length (nodes (tree ls))) × (f.right ≡ length (nodes (tree rs)))

-- The turn ends the unification of the two lists of terms, or it leaves those that the next turn has to unify.
abbrev pub Turned : Outcome → List Node → List Node → List Node → List Node → Type 0
Turned Same ls rs ms ns = (n : ℕ) (bs : Bindings) → solve (suc n) bs (forest ls) (forest rs) ≡ Some bs
Turned Clash ls rs ms ns = (n : ℕ) (bs : Bindings) → solve (suc n) bs (forest ls) (forest rs) ≡ None
Turned (Binds x s) ls rs ms ns =
    Facing ms ns × ((n : ℕ) (bs : Bindings) → solve (suc n) bs (forest ls) (forest rs) ≡ solve n (bs ++ (x, s) ∷ []) (forest ms) (forest ns))
