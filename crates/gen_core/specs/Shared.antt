-- Clauses that share their keys with others.
use Rattle.std.specs.Prelude.{◌≡◌, ℕ, Bool, true, false, ◌&&◌, ◌==◌, not}
use Rattle.std.specs.Ordering.{is_eq, nat_cmp}
use Rattle.std.specs.declared.cmp.Ordering.{Ordering}
use Rattle.std.specs.BTreeSet as set
use Rattle.std.specs.BTreeSet.{BTreeSet}
use Rattle.gen_core.specs.NumberMaps.{ByNumber}
use Rattle.gen_core.specs.declared.dated_clause.DatedClause.{DatedClause}
use Rattle.gen_core.specs.declared.clause_index.Entry.{Entry}
use Rattle.gen_core.specs.ClauseIndex.{holds}

-- Where a clause stands, one with the same clause stood before: clauses may be erased and taken out.
abbrev pub ClausesStay : {C K : Type 0} → ByNumber (Entry C K) → ByNumber (Entry C K) → Type 0
ClausesStay {C} old new = (t : C → Bool) (q : ℕ) → holds new (λ d. t d.clause) q ≡ true → holds old (λ d. t d.clause) q ≡ true

module _ {C K : Type 0} (order : K → K → Ordering) (any : K → Bool) (key_of : C → K) where
  -- Whether the clause is listed under the key.
  abbrev pub is_under : K → DatedClause C → Bool
  is_under k d = not (any (key_of d.clause)) && is_eq (order k (key_of d.clause))

  -- Of two clauses that are listed under one key both are noted.
  abbrev pub AreShared : BTreeSet ℕ → ByNumber (Entry C K) → Type 0
  AreShared shared m = (k : K) (n q : ℕ) → holds m (is_under k) n ≡ true → holds m (is_under k) q ≡ true → (n == q) ≡ false → set.contains nat_cmp shared n ≡ true

  -- A number is noted with all that are listed under a key, if any are.
  abbrev pub SharesWith : BTreeSet ℕ → ByNumber (Entry C K) → K → ℕ → Type 0
  SharesWith shared m key number = any key ≡ false → (k : K) → is_eq (order k key) ≡ true → (q : ℕ) → holds m (is_under k) q ≡ true
      → (set.contains nat_cmp shared q ≡ true) × (set.contains nat_cmp shared number ≡ true)
