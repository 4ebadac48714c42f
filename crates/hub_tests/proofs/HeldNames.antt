-- Fixed atoms are held.
use Rattle.std.proofs.Common.{◌≡◌, ℕ, List, [], ◌∷◌, ◌++◌, Option, Some, None, option_to_list, IfSome, refl, sym, subst}
use Rattle.std.specs.Prelude.{IsSome}
use Rattle.std.proofs.lemmas.Bool.{false≢true}
use Rattle.pl_term.specs.Tree.{Chars}
use Rattle.atom_api.specs.Fixed.{fixed, fixed_texts}
use Rattle.atom_api.specs.Names.{FixedStand, Names}

module _ (m : Names) (stand : FixedStand m) where
  pub some_fixed : (a : ℕ) → IsSome (fixed a) → IsSome (m a)
  some_fixed a held = go (fixed a) refl held
    where
      go : (o : Option Chars) → fixed a ≡ o → IsSome o → IsSome (m a)
      go None e some_ = absurd (false≢true some_)
      go (Some t) e some_ = subst (λ (o : Option Chars). IsSome o) (sym (stand a t e)) refl

pub codes_some : IsSome (fixed 63)
unfolding fixed_texts
codes_some = refl

pub chars_some : IsSome (fixed 60)
unfolding fixed_texts
chars_some = refl

pub fail_some : IsSome (fixed 88)
unfolding fixed_texts
fail_some = refl

pub main_some : IsSome (fixed 115)
unfolding fixed_texts
main_some = refl

pub neck_some : IsSome (fixed 12)
unfolding fixed_texts
neck_some = refl

pub unknown_some : IsSome (fixed 181)
unfolding fixed_texts
unknown_some = refl

pub quotes_some : IsSome (fixed 78)
unfolding fixed_texts
quotes_some = refl

-- the one member of a list
pub only_one : {X : Type 0} (f : X) (xs : List X) (o : Option X) → f ∷ [] ≡ xs ++ option_to_list o → IfSome o (λ x. x ≡ f)
only_one f xs None e = tt
only_one f [] (Some x) e = cc
only_one f (y ∷ []) (Some x) e = absurd (cc)
only_one f (y ∷ (z ∷ ys)) (Some x) e = absurd (cc)
