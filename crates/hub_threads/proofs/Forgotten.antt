-- Terms that are stored no longer.
use Rattle.std.proofs.Common.{◌≡◌, ◌<◌, ◌≤◌, ℕ, ◌+◌, List, [], ◌∷◌, ◌++◌, get_or, length, take, refl, sym, ap, ◌∙◌, arith}
use Rattle.std.specs.List.{sum_by}
use Rattle.std.proofs.lemmas.List.{take_more}
use Rattle.std.proofs.lemmas.List.Sums.{sum_by-take-le, sum_by_push}
use Rattle.pl_term.specs.Tree.{Tree}
use Rattle.atom_words.specs.declared.view.View.{View}
use Rattle.counted_terms.specs.CountedTerms.{IsCounted, naming, said}
use Rattle.counted_terms.specs.Keeping.{kept, tally}
use Rattle.counted_terms.specs.Sharing.{Restored, Sums}
use Rattle.counted_terms.proofs.Sharing.{rest_counted}
use Rattle.hub_threads.specs.Held.{Held}
use Rattle.hub_threads.specs.Threads.{IsStored, thread_counts}

-- THE TERMS OF A LIST, one after the other: k is the view of the keeper before them, and l that after those before the next
pub record Less (terms : List Tree) (k l : View) : Type 0 where
  pub others : (t : Tree) → IsCounted t l → said (kept l) t ≡ said (kept k) t
  pub counts : (a : ℕ) → sum_by (naming a) terms + tally l a ≡ tally k a

pub less_then : (terms : List Tree) (m : Tree) (k l o : View) → Less terms k l
    → ((t : Tree) → IsCounted t o → said (kept o) t ≡ said (kept l) t)
    → ((a : ℕ) → naming a m + tally o a ≡ tally l a)
    → Less (terms ++ m ∷ []) k o
less_then terms m k l o less others counts = record {
  others = λ t is. others t is ∙ less.others t (λ a some_. let n = is a some_ in let c = counts a in omega (arith, n, c));
  counts = λ a. let sum = sum_by_push (naming a) terms m in let c = counts a in let d = less.counts a in omega (arith, sum, c, d);
}

pub less_none : (k : View) → Less [] k k
less_none k = record { others = λ t is. refl; counts = λ a. let e : 0 + tally k a ≡ tally k a = omega arith in e }

pub next_term : (xs : List Tree) (i : ℕ) (d x : Tree) → i < length xs → x ≡ get_or xs i d → take (i + 1) xs ≡ take i xs ++ x ∷ []
next_term xs i d x low is = take_more xs i d low ∙ ap (λ (y : Tree). take i xs ++ y ∷ []) (sym is)

pub room_left : (w : Tree → ℕ) (xs : List Tree) (i : ℕ) (d x : Tree) → i < length xs → x ≡ get_or xs i d → (now all : ℕ) → sum_by w xs ≤ all → sum_by w (take i xs) + now ≡ all → w x ≤ now
room_left w xs i d x low is now all room sum =
    let le = sum_by-take-le w xs (i + 1) in
    let next = ap (sum_by w) (next_term xs i d x low is) ∙ sum_by_push w (take i xs) x in
    omega (arith, le, next, room, sum)

-- A PART COUNTS ATOMS LESS OFTEN, as many times as this
pub less_restores : (part new less : ℕ → ℕ) (k l : View) (n : ℕ)
    → ((a : ℕ) → part a ≡ less a + new a)
    → ((u : Tree) → IsCounted u l → said (kept l) u ≡ said (kept k) u)
    → ((a : ℕ) → less a + tally l a ≡ tally k a)
    → Restored part new k l n n
less_restores part new less k l n has others counts = record {
  exact = λ rest sums. left rest sums;
  says = λ rest sums u within. others u (rest_counted new rest l (left rest sums) u within);
  few = λ few a. let c = counts a in let f = few a in omega (arith, c, f);
}
  where
    left : (rest : ℕ → ℕ) → Sums part rest k → Sums new rest l
    left rest sums a = let c = counts a in let s = sums a in let h = has a in omega (arith, c, s, h)

-- a term of what is left is counted still
pub less_counted : (k l : View) (q r : Held Tree) (less rest : ℕ → ℕ)
    → Sums (thread_counts q) rest k
    → ((a : ℕ) → thread_counts q a ≡ less a + thread_counts r a)
    → ((a : ℕ) → less a + tally l a ≡ tally k a)
    → (t : Tree) → IsStored t r → IsCounted t l
less_counted k l q r less rest sums gone counts t inside a some_ =
    let s = sums a in let g = gone a in let c = counts a in let i = inside (naming a) in let p = some_ in omega (arith, s, g, c, i, p)
