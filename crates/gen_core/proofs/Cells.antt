-- The cells of the clauses that are not erased.
use Rattle.std.proofs.Common.{◌≡◌, ℕ, ◌+◌, List, [], ◌∷◌, ◌++◌, map, refl, sym, ap, ◌∙◌, arith}
use Rattle.std.specs.Prelude.{min, sum_by}
use Rattle.std.specs.Map.{values_of}
use Rattle.std.proofs.lemmas.List.Sums.{sum_by-append, sum_by-cons}
use Rattle.gen_core.specs.declared.clause_index.Entry.{Entry}
use Rattle.gen_core.specs.Visible.{live_size}

-- A sum that stops at a bound, with one number more.
pub bounded_more : {X : Type 0} (f : X → ℕ) (bound : ℕ) (xs : List X) (x : X) (n m k : ℕ) → n ≡ min (sum_by f xs) bound → m ≡ f x → k ≡ min (n + m) bound → k ≡ min (sum_by f (xs ++ x ∷ [])) bound
bounded_more f bound xs x n m k h i j =
    let a = sum_by-append f xs (x ∷ []) in
    let b : sum_by f (x ∷ []) ≡ f x + 0 = sum_by-cons f x [] in
    omega (arith, a, b, h, i, j)

sum-mapped : {X Y : Type 0} (f : Y → ℕ) (g : X → Y) (xs : List X) → sum_by (λ x. f (g x)) xs ≡ sum_by f (map g xs)
sum-mapped f g [] = refl
sum-mapped f g (x ∷ xs) = sum_by-cons (λ x. f (g x)) x xs ∙ ap (λ n. f (g x) + n) (sum-mapped f g xs) ∙ sym (sum_by-cons f (g x) (map g xs))

-- The sum over all clauses, which were read one after the other.
pub cells_all : {X C K : Type 0} (shown : X → Entry C K) (size : C → ℕ) (xs : List X) (es : List (ℕ × Entry C K)) → map shown xs ≡ values_of es
    → sum_by (λ x. live_size size (shown x).dated) xs ≡ sum_by (live_size size) (map (λ e. e.1.dated) es)
cells_all {X} {C} {K} shown size xs es h =
    sum-mapped (λ (e : Entry C K). live_size size e.dated) shown xs
    ∙ ap (λ ys. sum_by (λ (e : Entry C K). live_size size e.dated) ys) h
    ∙ sym (sum-mapped (λ (e : Entry C K). live_size size e.dated) (λ (e : ℕ × Entry C K). e.1) es)
    ∙ sum-mapped (live_size size) (λ (e : ℕ × Entry C K). e.1.dated) es
