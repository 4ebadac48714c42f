-- Runs of erased clauses, past which a search goes at once.
use Rattle.std.specs.Prelude.{◌≡◌, ℕ, ◌<◌, ◌≤◌, Bool, true, false, ◌==◌, ◌⊎◌, Option, nat_le, Some, None}
use Rattle.std.specs.Option.{IfSome, option_map_or}
use Rattle.std.specs.Ordering.{nat_cmp}
use Rattle.std.specs.BTreeMap as tree
use Rattle.gen_core.specs.NumberMaps.{ByNumber}
use Rattle.gen_core.specs.declared.dated_clause.DatedClause.{DatedClause}
use Rattle.gen_core.specs.declared.clause_index.Entry.{Entry}
use Rattle.gen_core.specs.declared.runs.Run.{Run}
use Rattle.gen_core.specs.declared.runs.Runs.{Runs}
use Rattle.gen_core.specs.ClauseIndex.{dated_at}

-- Whether there is no clause, or one that the update at the place k or an earlier one erased.
abbrev pub is_gone : {C : Type 0} → ℕ → Option (DatedClause C) → Bool
is_gone k o = option_map_or (λ d. option_map_or (λ j. nat_le j k) d.erased false) o true

-- On the numbers from one on and below another there are no clauses but such ones.
abbrev pub AreGone : {C K : Type 0} → ByNumber (Entry C K) → ℕ → ℕ → ℕ → Type 0
AreGone m first until k = (q : ℕ) → first ≤ q → q < until → is_gone k (dated_at m q) ≡ true

-- What a run says that begins at a number.
pub record IsRun {C K : Type 0} (rs : Runs) (m : ByNumber (Entry C K)) (first : ℕ) (r : Run) : Type 0 where
  pub low : rs.low ≤ first
  pub high : r.until ≤ rs.high
  pub gone : AreGone m first r.until r.newest

abbrev pub AreRuns : {C K : Type 0} → Runs → ByNumber (Entry C K) → Type 0
AreRuns rs m = (first : ℕ) → IfSome (tree.get nat_cmp rs.by_first first) (IsRun rs m first)

-- What is gone stays so.
abbrev pub StayGone : {C K : Type 0} → ByNumber (Entry C K) → ByNumber (Entry C K) → Type 0
StayGone old new = (k q : ℕ) → is_gone k (dated_at old q) ≡ true → is_gone k (dated_at new q) ≡ true

-- The same, but for one number.
abbrev pub OthersStay : {C K : Type 0} → ByNumber (Entry C K) → ByNumber (Entry C K) → ℕ → Type 0
OthersStay old new number = (q : ℕ) → (q == number) ≡ false → dated_at new q ≡ dated_at old q

-- No run has the number, and each is one that was there.
pub record Leaves (old new : Runs) (number : ℕ) : Type 0 where
  pub runs : (first : ℕ) → IfSome (tree.get nat_cmp new.by_first first) (λ r. tree.get nat_cmp old.by_first first ≡ Some r)
  pub bounds : ((first : ℕ) → tree.get nat_cmp new.by_first first ≡ None) ⊎ ((new.low ≡ old.low) × (new.high ≡ old.high))
  pub clear : (number < new.low) ⊎ (new.high ≤ number)
