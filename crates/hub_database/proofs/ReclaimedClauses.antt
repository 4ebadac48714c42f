-- Clauses are dropped, and their atoms counted no longer.
use Rattle.std.proofs.Common.{◌≡◌, ◌<◌, ◌≤◌, ℕ, ◌+◌, List, length, take, get_or, ap, ◌∙◌, arith}
use Rattle.std.specs.List.{sum_by}
use Rattle.std.proofs.lemmas.List.Sums.{sum_by_more, sum_by_more_le}
use Rattle.pl_term.specs.Tree.{Tree}
use Rattle.pl_model.specs.History.{History}
use Rattle.atom_words.specs.declared.view.View.{View}
use Rattle.clause_db.specs.Parts.{Held}
use Rattle.clause_db.specs.Reading.{SaysFor}
use Rattle.clause_db.specs.Weights.{weight}
use Rattle.counted_terms.specs.CountedTerms.{IsCounted, naming, said}
use Rattle.counted_terms.specs.Keeping.{kept, tally}
use Rattle.counted_terms.specs.Sharing.{Counts, Restored}
use Rattle.counted_terms.proofs.Sharing.{part_counted, rest_counted}
use Rattle.hub_database.specs.Clauses.{clause_by}
use Rattle.hub_database.specs.Database.{IsDatabase, clause_counts, databases}
use Rattle.hub_database.proofs.Readings.{says_carried}

-- k: the keeper before, l: once the atoms of what was dropped are counted less
module _ (old new : Held Tree) (k l : View) (n : ℕ) (dropped : List Tree) (weighs : (w : Tree → ℕ) → sum_by w dropped + weight w new ≡ weight w old)
    (others : (t : Tree) → IsCounted t l → said (kept l) t ≡ said (kept k) t) (less : (a : ℕ) → sum_by (naming a) dropped + tally l a ≡ tally k a) where
  pub reclaimed_restores : Restored (clause_counts old) (clause_counts new) k l n n
  reclaimed_restores = record {
    exact = sums_then;
    says = λ rest sums t within. others t (rest_counted (clause_counts new) rest l (sums_then rest sums) t within);
    few = λ few a. let f = few a in let s = less a in omega arith;
  }
    where
      sums_then : (rest : ℕ → ℕ) → ((a : ℕ) → tally k a ≡ clause_counts old a + rest a) → (a : ℕ) → tally l a ≡ clause_counts new a + rest a
      sums_then rest sums a = let s = sums a in let w = weighs (naming a) in let c = less a in omega arith

  pub reclaimed_database : Counts (clause_counts old) k n → (goals : ℕ) (h : History) → IsDatabase k old goals h
      → SaysFor (clause_by k) new (databases goals h) → new.flags ≡ old.flags → new.operators ≡ old.operators → IsDatabase l new goals h
  reclaimed_database counts goals h was says flags operators = record {
    says = says_carried k l new (databases goals h) (λ t within. others t (part_counted (clause_counts new) counts.rest l (reclaimed_restores.exact counts.rest counts.exact) t within)) says;
    flags = flags ∙ was.flags;
    operators = operators ∙ was.operators;
    open_only = was.open_only;
  }

-- the next term of a list, as its terms are forgotten one after the other
module _ (xs : List Tree) (i : ℕ) (x : Tree) (lt : i < length xs) (is : x ≡ get_or xs i x) (k l : View) (a : ℕ) (now : sum_by (naming a) (take i xs) + tally l a ≡ tally k a) where
  pub next_counted : sum_by (naming a) xs ≤ tally k a → naming a x ≤ tally l a
  next_counted all = let p = sum_by_more_le (naming a) xs i x lt in let e = ap (naming a) is in omega arith

  pub next_less : (o : View) → naming a x + tally o a ≡ tally l a → sum_by (naming a) (take (i + 1) xs) + tally o a ≡ tally k a
  next_less o less = let p = sum_by_more (naming a) xs i x lt in let e = ap (naming a) is in omega arith

-- what is counted after one was forgotten was counted before
pub counted_before : (x t : Tree) (l o : View) → ((a : ℕ) → naming a x + tally o a ≡ tally l a) → IsCounted t o → IsCounted t l
counted_before x t l o less counted a some_ = let c = counted a some_ in let e = less a in omega arith
