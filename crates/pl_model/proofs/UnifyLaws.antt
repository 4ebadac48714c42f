-- The laws of unification for two single terms.
use Rattle.std.proofs.Common.{◌≡◌, ◌≢◌, ℕ, suc, ◌+◌, true, false, [], ◌∷◌, ◌++◌, length, Option, Some, None, refl, sym, ap, ap₂, ◌∙◌, append-nil, arith, length-append, All}
use Rattle.pl_term.specs.Tree.{Tree, none, more}
use Rattle.pl_term.specs.Variables.{is_in, has, occurrences, occurrences_all, replace}
use Rattle.pl_model.specs.Unify.{Bindings, bound_variables, bound, bound_all, solve_all, unify, instance}
use Rattle.pl_model.proofs.UnifySolved.{IsGreater, Solved, solved}
use Rattle.pl_model.proofs.UnifyGeneral.{General, general}

bound_all-one : (bs : Bindings) (t : Tree) → bound_all bs (more t none) ≡ more (bound bs t) none
bound_all-one [] t = refl
bound_all-one (b ∷ bs) t = bound_all-one bs (replace b.0 b.1 t)

first_of_one : (t u : Tree) → more t none ≡ more u none → t ≡ u
first_of_one t u e = cc

solved_pair : (a b : Tree) (bs : Bindings) → unify a b ≡ Some bs → Solved [] bs (more a none) (more b none)
unfolding unify solve_all
solved_pair a b bs e = solved (suc (length (occurrences_all (more a none)) + length (occurrences_all (more b none)))) [] bs (more a none) (more b none) e

occurrences-pair : (a b : Tree) → occurrences_all (more a none) ++ occurrences_all (more b none) ≡ occurrences a ++ occurrences b
occurrences-pair a b = ap₂ ◌++◌ (append-nil (occurrences a)) (append-nil (occurrences b))

pub equal_when_bound : (a b : Tree) (bs : Bindings) → unify a b ≡ Some bs → bound bs a ≡ bound bs b
equal_when_bound a b bs e =
    let q = solved_pair a b bs e in
    let same : bs ≡ q.later = q.parts in
    rw same (first_of_one (bound q.later a) (bound q.later b)
    (sym (bound_all-one q.later a) ∙ q.equal ∙ bound_all-one q.later b))

pub own_variables : (a b : Tree) (bs : Bindings) → unify a b ≡ Some bs
    → (x : ℕ) → is_in x (bound_variables bs) ≡ true → is_in x (occurrences a ++ occurrences b) ≡ true
own_variables a b bs e x h =
    let q = solved_pair a b bs e in
    rw (← occurrences-pair a b) (q.own x (ap (λ l. is_in x (bound_variables l)) (sym q.parts) ∙ h))

pub variables_gone : (a b : Tree) (bs : Bindings) → unify a b ≡ Some bs
    → (x : ℕ) → is_in x (bound_variables bs) ≡ true → (t : Tree) → has x (bound bs t) ≡ false
variables_gone a b bs e x h t =
    let q = solved_pair a b bs e in
    ap (λ l. has x (bound l t)) q.parts ∙ q.gone x (ap (λ l. is_in x (bound_variables l)) (sym q.parts) ∙ h) t

pub variables_within : (a b : Tree) (bs : Bindings) → unify a b ≡ Some bs
    → (x : ℕ) (t : Tree) → has x (bound bs t) ≡ true → is_in x (occurrences t ++ (occurrences a ++ occurrences b)) ≡ true
variables_within a b bs e x t h =
    let q = solved_pair a b bs e in
    ap (λ l. is_in x (occurrences t ++ l)) (sym (occurrences-pair a b)) ∙ q.within x t (ap (λ l. has x (bound l t)) (sym q.parts) ∙ h)

pub greater_bound : (a b : Tree) (bs : Bindings) → unify a b ≡ Some bs → All IsGreater bs
greater_bound a b bs e =
    let q = solved_pair a b bs e in
    rw q.parts q.greater

general_pair : (a b : Tree) (s : ℕ → Tree) → instance s a ≡ instance s b → General [] (unify a b) s
unfolding unify solve_all
general_pair a b s e =
    general (suc (length (occurrences_all (more a none)) + length (occurrences_all (more b none))))
    (occurrences_all (more a none) ++ occurrences_all (more b none)) [] (more a none) (more b none) s
    (omega (arith, length-append (occurrences_all (more a none)) (occurrences_all (more b none))))
    (λ x h. h) (ap (λ t. more t none) e)

pub most_general : (a b : Tree) (s : ℕ → Tree) → instance s a ≡ instance s b
    → (bs : Bindings) × (unify a b ≡ Some bs) × ((t : Tree) → instance s (bound bs t) ≡ instance s t)
most_general a b s e =
    let q = general_pair a b s e in
    (q.later, q.solves, q.factors)

pub no_unifier : (a b : Tree) → unify a b ≡ None → (s : ℕ → Tree) → instance s a ≢ instance s b
no_unifier a b e s k = none_or_some (unify a b) e (general_pair a b s k)
  where
    none_or_some : (o : Option Bindings) → o ≡ None → General [] o s → ⊥
    none_or_some o e q = clashing o q.later e q.solves
      where
        clashing : (o : Option Bindings) (bs : Bindings) → o ≡ None → o ≡ Some bs → ⊥
        clashing o bs e k = cc
