-- The texts of the fixed atoms that error terms of the database name.
use Rattle.std.proofs.Common.{◌≡◌, ℕ, refl, sym, ap, subst, ◌∙◌, Option, None, Some}
use Rattle.std.specs.Prelude.{codes, IfOk, IsSome}
use Rattle.std.specs.List.{All}
use Rattle.std.specs.declared.result.Result.{Result}
use Rattle.std.specs.declared.result.Result.TheVariants.{Ok, Err}
use Rattle.pl_term.specs.Tree.{Chars, Tree}
use Rattle.pl_model.specs.ErrorTerms.{existence_error, permission_error, resource_error}
use Rattle.atom_api.specs.Names.{FixedStand, Names}
use Rattle.term_store.specs.NumberedNames.{names_of}
use Rattle.counted_terms.specs.CountedTerms.{said}
use Rattle.hub_database.specs.Rows.{IsErrorTerm}
use Rattle.atom_api.specs.Fixed.{fixed, fixed_texts}

pub generations_fixed : fixed 99 ≡ Some (codes "generations")
unfolding fixed_texts
generations_fixed = refl

pub database_fixed : fixed 72 ≡ Some (codes "database")
unfolding fixed_texts
database_fixed = refl

pub modify_fixed : fixed 125 ≡ Some (codes "modify")
unfolding fixed_texts
modify_fixed = refl

pub static_fixed : fixed 158 ≡ Some (codes "static_procedure")
unfolding fixed_texts
static_fixed = refl

pub access_fixed : fixed 39 ≡ Some (codes "access")
unfolding fixed_texts
access_fixed = refl

pub private_fixed : fixed 145 ≡ Some (codes "private_procedure")
unfolding fixed_texts
private_fixed = refl

pub procedure_fixed : fixed 146 ≡ Some (codes "procedure")
unfolding fixed_texts
procedure_fixed = refl

pub some_held : (m : Names) (a : ℕ) (t : Chars) → FixedStand m → fixed a ≡ Some t → IsSome (m a)
some_held m a t stand e = subst (λ (o : Option Chars). IsSome o) (sym (stand a t e)) refl

-- the error that a resource is used up
pub resource_told : {E : Type 0} (r : Result Tree E) (a : ℕ) (t : Chars) → fixed a ≡ Some t
    → IfOk r (λ e. (m : Names) (u : Chars) → FixedStand m → m a ≡ Some u → said m e ≡ resource_error u)
    → IfOk r (λ e. (m : Names) → FixedStand m → IsSome (m a) → All (λ k. IsSome (m k)) (names_of e))
    → IfOk r (IsErrorTerm None (λ m. resource_error t))
resource_told (Ok e) a t f says named = λ m stand fine. (says m t stand (stand a t f), named m stand (some_held m a t stand f))
resource_told (Err x) a t f says named = tt

-- errors with a culprit
module _ (own : ℕ) (culprit : Tree) (C : Names → Tree)
    (is : (m : Names) → FixedStand m → IsSome (m own) → said m culprit ≡ C m) (has : (m : Names) → FixedStand m → IsSome (m own) → All (λ k. IsSome (m k)) (names_of culprit)) where
  pub permission_told : {E : Type 0} (r : Result Tree E) (a b : ℕ) (t u : Chars) → fixed a ≡ Some t → fixed b ≡ Some u
      → IfOk r (λ e. (m : Names) (x y : Chars) → FixedStand m → m a ≡ Some x → m b ≡ Some y → said m e ≡ permission_error x y (said m culprit))
      → IfOk r (λ e. (m : Names) → FixedStand m → IsSome (m a) → IsSome (m b) → All (λ k. IsSome (m k)) (names_of culprit) → All (λ k. IsSome (m k)) (names_of e))
      → IfOk r (IsErrorTerm (Some own) (λ m. permission_error t u (C m)))
  permission_told (Ok e) a b t u f h says named = λ m stand fine. (
    says m t u stand (stand a t f) (stand b u h) ∙ ap (permission_error t u) (is m stand fine),
    named m stand (some_held m a t stand f) (some_held m b u stand h) (has m stand fine),
  )
  permission_told (Err x) a b t u f h says named = tt

  pub existence_told : {E : Type 0} (r : Result Tree E) (a : ℕ) (t : Chars) → fixed a ≡ Some t
      → IfOk r (λ e. (m : Names) (x : Chars) → FixedStand m → m a ≡ Some x → said m e ≡ existence_error x (said m culprit))
      → IfOk r (λ e. (m : Names) → FixedStand m → IsSome (m a) → All (λ k. IsSome (m k)) (names_of culprit) → All (λ k. IsSome (m k)) (names_of e))
      → IfOk r (IsErrorTerm (Some own) (λ m. existence_error t (C m)))
  existence_told (Ok e) a t f says named = λ m stand fine. (
    says m t stand (stand a t f) ∙ ap (existence_error t) (is m stand fine),
    named m stand (some_held m a t stand f) (has m stand fine),
  )
  existence_told (Err x) a t f says named = tt
