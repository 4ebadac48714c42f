-- What is counted of several parts of a state, as one of them changes.
use Rattle.std.proofs.Common.{◌≡◌, ◌<◌, ◌≤◌, ℕ, zero, suc, ◌+◌, sym, ap, ◌∙◌, arith}
use Rattle.pl_term.specs.Tree.{Tree}
use Rattle.atom_api.specs.Names.{Names}
use Rattle.atom_words.specs.declared.view.View.{View}
use Rattle.counted_terms.specs.CountedTerms.{IsCounted, naming, said}
use Rattle.counted_terms.specs.Keeping.{kept, tally}
use Rattle.counted_terms.specs.Sharing.{Counts, IsFew, IsWithin, Restored, Sums}
use Rattle.counted_terms.proofs.Saying.{naming_few}

-- the terms of the part, and of the rest, are counted
pub part_counted : (part rest : ℕ → ℕ) (k : View) → Sums part rest k → (t : Tree) → IsWithin t part → IsCounted t k
part_counted part rest k sums t within a some_ = let s = sums a in let w = within a in omega arith

pub rest_counted : (part rest : ℕ → ℕ) (k : View) → Sums part rest k → (t : Tree) → IsWithin t rest → IsCounted t k
rest_counted part rest k sums t within a some_ = let s = sums a in let w = within a in omega arith

-- a term whose atoms are counted can be forgotten
pub counted_within : (t : Tree) (k : View) → IsCounted t k → (a : ℕ) → naming a t ≤ tally k a
counted_within t k counted a = by (naming a t) (naming_few a t) (counted a)
  where
    by : (n : ℕ) → n ≤ 1 → (0 < n → 0 < tally k a) → n ≤ tally k a
    by zero few some_ = omega arith
    by (suc n) few some_ = let h = some_ (omega arith) in omega arith

-- the two parts in the other order
pub swapped : (part rest : ℕ → ℕ) (k : View) → Sums part rest k → Sums rest part k
swapped part rest k sums a = let s = sums a in omega arith

-- NOTHING HAS CHANGED
pub restored_same : (part : ℕ → ℕ) (k l : View) (n : ℕ) → kept l ≡ kept k → ((a : ℕ) → tally l a ≡ tally k a) → Restored part part k l n n
restored_same part k l n keeps counts = record {
  exact = λ rest sums a. counts a ∙ sums a;
  says = λ rest sums t within. ap (λ (m : Names). said m t) keeps;
  few = λ few a. let c = counts a in let f = few a in omega arith;
}

-- A TERM IS STORED by the part
pub store_restores : (part : ℕ → ℕ) (k l : View) (n : ℕ) (t : Tree)
    → ((u : Tree) → IsCounted u k → said (kept l) u ≡ said (kept k) u)
    → ((a : ℕ) → tally l a ≡ naming a t + tally k a)
    → Restored part (λ a. naming a t + part a) k l n (suc n)
store_restores part k l n t others counts = record {
  exact = λ rest sums a. let c = counts a in let s = sums a in omega arith;
  says = λ rest sums u within. others u (rest_counted part rest k sums u within);
  few = λ few a. let c = counts a in let f = few a in let one = naming_few a t in omega arith;
}

-- A TERM OF THE PART IS FORGOTTEN
pub forget_restores : (part new : ℕ → ℕ) (k l : View) (n : ℕ) (t : Tree)
    → ((a : ℕ) → part a ≡ naming a t + new a)
    → ((u : Tree) → IsCounted u l → said (kept l) u ≡ said (kept k) u)
    → ((a : ℕ) → naming a t + tally l a ≡ tally k a)
    → Restored part new k l n n
forget_restores part new k l n t has others counts = record {
  exact = λ rest sums. left rest sums;
  says = λ rest sums u within. others u (rest_counted new rest l (left rest sums) u within);
  few = λ few a. let c = counts a in let f = few a in omega arith;
}
  where
    left : (rest : ℕ → ℕ) → Sums part rest k → Sums new rest l
    left rest sums a = let c = counts a in let s = sums a in let h = has a in omega arith

-- ONE CHANGE AFTER ANOTHER
pub restored_then : (p q r : ℕ → ℕ) (k l o : View) (n m z : ℕ) → Restored p q k l n m → Restored q r l o m z → Restored p r k o n z
restored_then p q r k l o n m z first second = record {
  exact = λ rest sums. second.exact rest (first.exact rest sums);
  says = λ rest sums t within. second.says rest (first.exact rest sums) t within ∙ first.says rest sums t within;
  few = λ few. second.few (first.few few);
}

-- the same counts of the part, and a wider bound
pub restored_as : (p q r : ℕ → ℕ) (k l : View) (n m : ℕ) → Restored p q k l n m → ((a : ℕ) → r a ≡ q a) → Restored p r k l n m
restored_as p q r k l n m first same = record {
  exact = λ rest sums a. let s = first.exact rest sums a in let e = same a in omega arith;
  says = first.says;
  few = first.few;
}

pub restored_wider : (p q : ℕ → ℕ) (k l : View) (n m z : ℕ) → Restored p q k l n m → m ≤ z → Restored p q k l n z
restored_wider p q k l n m z first le = record {
  exact = first.exact;
  says = first.says;
  few = λ few a. let f = first.few few a in omega arith;
}

-- what a change leaves
pub counts_then : (p q : ℕ → ℕ) (k l : View) (n m : ℕ) → Counts p k n → Restored p q k l n m → Counts q l m
counts_then p q k l n m counts change = record {
  rest = counts.rest;
  exact = change.exact counts.rest counts.exact;
  few = change.few counts.few;
}
