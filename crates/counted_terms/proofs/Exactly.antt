-- Counts that are exactly those of a list of terms.
use Rattle.std.proofs.Common.{◌≡◌, ℕ, ◌+◌, ◌<◌, ◌≤◌, List, [], ◌∷◌, length, ap, ⊎_elim, arith}
use Rattle.std.specs.List.{All, Contains, sum_by}
use Rattle.std.proofs.lemmas.List.Elements.{All-nil, All-cons, Contains-append_cases, Contains-push_cases}
use Rattle.std.proofs.lemmas.List.Sums.{sum_by-cons, sum_by-le}
use Rattle.pl_term.specs.Tree.{Tree}
use Rattle.atom_words.specs.declared.view.View.{View}
use Rattle.counted_terms.specs.Keeping.{kept, tally}
use Rattle.counted_terms.specs.CountedTerms.{IsCounted, IsExact, SaysOn, naming, said}
use Rattle.counted_terms.proofs.Saying.{naming_few}

member_le : (f : Tree → ℕ) (ts : List Tree) (t : Tree) → Contains ts t → f t ≤ sum_by f ts
member_le f [] t c = absurd (omega (arith, c.1))
member_le f (x ∷ ts) t c = let sum = sum_by-cons f x ts in ⊎_elim
    (λ (here : Contains (x ∷ []) t). ⊎_elim (λ (no : Contains [] t). absurd (omega (arith, no.1))) (λ (is : x ≡ t). let same : f x ≡ f t = ap f is in omega arith) (Contains-push_cases [] x t here))
    (λ (there : Contains ts t). let rest = member_le f ts t there in omega arith)
    (Contains-append_cases (x ∷ []) ts t c)

pub exact_counted : (ts : List Tree) (k : View) (t : Tree) → IsExact ts k → Contains ts t → IsCounted t k
exact_counted ts k t exact c a some_ = let le = member_le (naming a) ts t c in let is = exact a in omega arith

few : (a : ℕ) (ts : List Tree) → All (λ t. naming a t ≤ 1) ts
few a [] = All-nil (λ t. naming a t ≤ 1)
few a (t ∷ ts) = All-cons (λ t. naming a t ≤ 1) t ts (naming_few a t) (few a ts)

pub exact_room : (ts : List Tree) (k : View) → IsExact ts k → length ts < 2305843009213693951 → (a : ℕ) → tally k a < 2305843009213693951
exact_room ts k exact low a = let le = sum_by-le (naming a) 1 ts (few a ts) in let is = exact a in omega arith

module _ (t : Tree) (ts : List Tree) (k l : View) where
  pub exact_more : ((a : ℕ) → tally l a ≡ naming a t + tally k a) → ((u : Tree) → IsCounted u k → said (kept l) u ≡ said (kept k) u) → IsExact ts k → IsExact (t ∷ ts) l × SaysOn ts k l
  exact_more counts others exact = (
    (λ a. let sum = sum_by-cons (naming a) t ts in let is = exact a in let now = counts a in omega arith),
    (λ u c. others u (exact_counted ts k u exact c)),
  )

  pub exact_less : ((a : ℕ) → naming a t + tally l a ≡ tally k a) → ((u : Tree) → IsCounted u l → said (kept l) u ≡ said (kept k) u) → IsExact (t ∷ ts) k → IsExact ts l × SaysOn ts k l
  exact_less counts others exact = (left, λ u c. others u (exact_counted ts l u left c))
    where
      left : IsExact ts l
      left a = let sum = sum_by-cons (naming a) t ts in let is = exact a in let now = counts a in omega arith
