-- Unification goes on from bindings that were made before: they stand before the new ones.
use Rattle.std.proofs.Common.{◌≡◌, ℕ, zero, suc, [], ◌∷◌, ◌++◌, length, ◌+◌, Option, Some, None, Bool, true, false, refl, ap, sym, ◌∙◌, append-nil, append_assoc}
use Rattle.std.specs.Prelude.{if◌then◌else◌}
use Rattle.std.specs.Option.{option_map}
use Rattle.pl_term.specs.Tree.{Tree, Trees}
use Rattle.pl_term.specs.Variables.{has, occurrences_all, replace_all}
use Rattle.pl_model.specs.Unify.{Bindings, Difference, same, clash, binds, bound, differences, turn, solve, solve_all}

behind : (bs cs : Bindings) (o : Option Bindings)
    → option_map (λ more. (bs ++ cs) ++ more) o ≡ option_map (λ more. bs ++ more) (option_map (λ more. cs ++ more) o)
behind bs cs None = refl
behind bs cs (Some more) = ap Some (append_assoc bs cs more)

-- What follows a turn keeps the bindings that it was given in front.
abbrev GoesOn : (Bindings → Trees → Trees → Option Bindings) → Type 0
GoesOn next = (bs : Bindings) (ts us : Trees) → next bs ts us ≡ option_map (λ more. bs ++ more) (next [] ts us)

binds-more : (next : Bindings → Trees → Trees → Option Bindings) (bs : Bindings) (x : ℕ) (t : Tree) (ts us : Trees) (b : Bool)
    → GoesOn next
    → (if b then None else next (bs ++ (x, t) ∷ []) ts us)
    ≡ option_map (λ more. bs ++ more) (if b then None else next ([] ++ (x, t) ∷ []) ts us)
binds-more next bs x t ts us true on = refl
binds-more next bs x t ts us false on =
    on (bs ++ (x, t) ∷ []) ts us
    ∙ behind bs ((x, t) ∷ []) (next [] ts us)
    ∙ ap (option_map (λ more. bs ++ more)) (sym (on ((x, t) ∷ []) ts us))

turn-more : (next : Bindings → Trees → Trees → Option Bindings) (bs : Bindings) (ts us : Trees) (d : Difference)
    → GoesOn next
    → turn next bs ts us d ≡ option_map (λ more. bs ++ more) (turn next [] ts us d)
turn-more next bs ts us same on = ap Some (sym (append-nil bs))
turn-more next bs ts us clash on = refl
turn-more next bs ts us (binds x t) on = binds-more next bs x t (replace_all x t ts) (replace_all x t us) (has x t) on

pub solve-more : (n : ℕ) (bs : Bindings) (ts us : Trees)
    → solve n bs ts us ≡ option_map (λ more. bs ++ more) (solve n [] ts us)
solve-more zero bs ts us = refl
solve-more (suc n) bs ts us = turn-more (solve n) bs ts us (differences ts us) (solve-more n)

pub solve_all-more : (bs : Bindings) (ts us : Trees)
    → solve_all bs ts us ≡ option_map (λ more. bs ++ more) (solve_all [] ts us)
unfolding solve_all
solve_all-more bs ts us = solve-more (suc (length (occurrences_all ts) + length (occurrences_all us))) bs ts us

pub bound-more : (bs cs : Bindings) (t : Tree) → bound (bs ++ cs) t ≡ bound cs (bound bs t)
bound-more [] cs t = refl
bound-more (b ∷ bs) cs t = bound-more bs cs _
