-- What holds in an arm.
use Rattle.std.proofs.Common.{◌≡◌, Option, Some, None, IfSome, IfNone, subst}

pub when_some : {A : Type 0} (P : A → Type 0) (o : Option A) (x : A) → IfSome o P → o ≡ Some x → P x
when_some P o x h e = let m = subst (λ y. IfSome y P) e h in m

pub when_none : {A : Type 0} (P : Type 0) (o : Option A) → IfNone o P → o ≡ None → P
when_none P o h e = let m = subst (λ y. IfNone y P) e h in m
