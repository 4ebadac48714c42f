-- A KEEPER WHOSE COUNTS ARE THOSE OF SEVERAL PARTS of a state: each part says how often it counts an atom, and what the
-- others count is the rest.
use Rattle.std.specs.Prelude.{◌≡◌, ◌≤◌, ℕ, ◌+◌}
use Rattle.pl_term.specs.Tree.{Tree}
use Rattle.atom_words.specs.declared.view.View.{View}
use Rattle.counted_terms.specs.CountedTerms.{naming, said}
use Rattle.counted_terms.specs.Keeping.{kept, tally}

-- the keeper counts each atom exactly as often as the part and the rest count it
abbrev pub Sums : (ℕ → ℕ) → (ℕ → ℕ) → View → Type 0
Sums part rest k = (a : ℕ) → tally k a ≡ part a + rest a

-- no atom is counted more often
abbrev pub IsFew : ℕ → View → Type 0
IsFew n k = (a : ℕ) → tally k a ≤ n

-- THE COUNTS ARE EXACTLY those of the part and of a rest, and none is above the bound
pub record Counts (part : ℕ → ℕ) (k : View) (n : ℕ) : Type 0 where
  pub rest : ℕ → ℕ
  pub exact : Sums part rest k
  pub few : IsFew n k

-- a term of those whose atoms are counted so
abbrev pub IsWithin : Tree → (ℕ → ℕ) → Type 0
IsWithin t counts = (a : ℕ) → naming a t ≤ counts a

-- A CHANGE OF ONE PART: the counts stay exact whatever the rest is, each term of the rest says what it said, and a bound on the counts goes over into another one
pub record Restored (old new : ℕ → ℕ) (k l : View) (n m : ℕ) : Type 0 where
  pub exact : (rest : ℕ → ℕ) → Sums old rest k → Sums new rest l
  pub says : (rest : ℕ → ℕ) → Sums old rest k → (t : Tree) → IsWithin t rest → said (kept l) t ≡ said (kept k) t
  pub few : IsFew n k → IsFew m l
