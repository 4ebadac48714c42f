-- Functions that are changed at one number, and options under a function.
use Rattle.std.proofs.Common.{◌≡◌, ◌≢◌, ℕ, cond, eqb, refl, ap, eq-eqb, ne_eqb, Option, Some, None, option_map}

abbrev pub put : {A : Type 0} → (ℕ → A) → ℕ → A → ℕ → A
put f i c j = cond (eqb j i) c (f j)

pub put_here : {A : Type 0} (f : ℕ → A) (i : ℕ) (c : A) → put f i c i ≡ c
put_here f i c = ap (λ b. cond b c (f i)) (eq-eqb i i refl)

pub put_else : {A : Type 0} (f : ℕ → A) (i : ℕ) (c : A) (j : ℕ) → j ≢ i → put f i c j ≡ f j
put_else f i c j ne = ap (λ b. cond b c (f j)) (ne_eqb j i ne)

pub unmapped : {A B : Type 0} (f : A → B) (o : Option A) (b : B) → option_map f o ≡ Some b → (a : A) × (o ≡ Some a) × (f a ≡ b)
unmapped f None b e = absurd (cc)
unmapped f (Some a) b e = (a, refl, cc)
