-- Lists of numbers: what they contain.
use Rattle.std.proofs.Common.{◌≡◌, ◌⊎◌, inl, inr, ℕ, List, [], ◌∷◌, Bool, true, false, refl, sym, ap, ◌∙◌, subst, arith}
use Rattle.std.specs.Prelude.{filter, if◌then◌else◌}
use Rattle.std.specs.List.{Contains}
use Rattle.std.proofs.lemmas.List.Elements.{Contains-append_left, Contains-append_right, Contains-append_cases, Contains-push, Contains-push_cases}

pub nowhere : {X : Type 0} (x : X) → Contains [] x → ⊥
nowhere x p = let low = p.1 in omega (arith, low)

pub here : {X : Type 0} (x : X) (xs : List X) → Contains (x ∷ xs) x
here x xs = Contains-append_left (x ∷ []) xs x (Contains-push [] x)

pub there : {X : Type 0} (y : X) (xs : List X) (x : X) → Contains xs x → Contains (y ∷ xs) x
there y xs x p = Contains-append_right (y ∷ []) xs x p

pub split : {X : Type 0} (y : X) (xs : List X) (x : X) → Contains (y ∷ xs) x → (x ≡ y) ⊎ Contains xs x
split y xs x p = go (Contains-append_cases (y ∷ []) xs x p)
  where
    only : Contains [] x ⊎ (y ≡ x) → (x ≡ y) ⊎ Contains xs x
    only (inl q) = absurd (nowhere x q)
    only (inr e) = inl (sym e)

    go : Contains (y ∷ []) x ⊎ Contains xs x → (x ≡ y) ⊎ Contains xs x
    go (inl q) = only (Contains-push_cases [] y x q)
    go (inr q) = inr q

-- What passes a test is in the list that the test leaves.
abbrev kept_by : (ℕ → Bool) → ℕ → Bool → List ℕ → List ℕ
kept_by f n b ns = if b then n ∷ filter f ns else filter f ns

pub passes : (f : ℕ → Bool) (ns : List ℕ) (n : ℕ) → f n ≡ true → Contains ns n → Contains (filter f ns) n
passes f [] n passed p = absurd (nowhere n p)
passes f (m ∷ ms) n passed p = go (passes f ms n passed) (split m ms n p) (f m) refl
  where
    go : (Contains ms n → Contains (filter f ms) n) → (n ≡ m) ⊎ Contains ms n → (b : Bool) → f m ≡ b → Contains (filter f (m ∷ ms)) n
    go rest (inl e) true is = subst (λ (b : Bool). Contains (kept_by f m b ms) n) (sym is) (subst (λ (k : ℕ). Contains (m ∷ filter f ms) k) (sym e) (here m (filter f ms)))
    go rest (inl e) false is = absurd (let no : true ≡ false = sym passed ∙ (ap f e ∙ is) in let never : ⊥ = cc in never)
    go rest (inr q) true is = subst (λ (b : Bool). Contains (kept_by f m b ms) n) (sym is) (there m (filter f ms) n (rest q))
    go rest (inr q) false is = subst (λ (b : Bool). Contains (kept_by f m b ms) n) (sym is) (rest q)
