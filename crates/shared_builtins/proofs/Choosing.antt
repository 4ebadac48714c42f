-- What is said of an option that is known.
use Rattle.std.proofs.Common.{◌≡◌, Option, Some, None, subst}
use Rattle.std.specs.Prelude.{IfNone, IfSome}

pub some_of : {A : Type 0} (P : A → Type 0) (o : Option A) (a : A) → o ≡ Some a → IfSome o P → P a
some_of P o a e h = subst (λ x. IfSome x P) e h

pub none_of : {A : Type 0} (P : Type 0) (o : Option A) → o ≡ None → IfNone o P → P
none_of P o e h = subst (λ x. IfNone x P) e h
