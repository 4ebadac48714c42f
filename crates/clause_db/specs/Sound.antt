-- When the database is sound: each clause is found by the place of the update that added it, and each procedure by its
-- predicate.
use Rattle.std.specs.Prelude.{◌≡◌, ℕ, suc, ◌<◌, ◌≤◌, ◌==◌, List, [], ◌∷◌, Some, All, Bool, map, is_some, false, true}
use Rattle.std.specs.List.{list_any}
use Rattle.std.specs.Ordering.{nat_cmp}
use Rattle.std.specs.BTreeMap as tree
use Rattle.std.specs.BTreeMap.{BTreeMap}
use Rattle.pl_model.specs.History.{Proc}
use Rattle.pl_model.specs.Predicates.{same_proc}
use Rattle.pl_model.specs.laws.Shown.{proc_of}
use Rattle.clause_db.specs.declared.db.Home.{Home}
use Rattle.clause_db.specs.declared.index.Index.{Index}
use Rattle.clause_db.specs.Index.{Indexed}
use Rattle.clause_db.specs.Parts.{Piece}

-- No predicate stands there twice.
abbrev pub Apart : List Proc → Type 0
Apart [] = Unit
Apart (p ∷ ps) = (list_any (same_proc p) ps ≡ false) × Apart ps

abbrev pub names : {C : Type 0} → List (Piece C) → List Proc
names xs = map (λ x. proc_of x.name) xs

-- Whether a clause is stored that the update at the place added.
abbrev pub has_place : {C : Type 0} → ℕ → List (Piece C) → Bool
has_place k xs = list_any (λ x. list_any (λ d. d.place == k) x.clauses) xs

-- Each home is that of a clause that is stored, so there are no more homes than clauses.
abbrev pub Housed : {C : Type 0} → BTreeMap ℕ Home → List (Piece C) → Type 0
Housed homes xs = (k : ℕ) → is_some (tree.get nat_cmp homes k) ≡ true → has_place k xs ≡ true

module _ {C : Type 0} (need : C → ℕ) where
  -- Each clause of these procedures, of which the first stands at the index `n`, has its home there.
  abbrev pub Homed : BTreeMap ℕ Home → ℕ → List (Piece C) → Type 0
  Homed homes n [] = Unit
  Homed homes n (x ∷ xs) = All (λ d. tree.get nat_cmp homes d.place ≡ Some (record { part = n; cells = need d.clause })) x.clauses × Homed homes (suc n) xs

  pub record IsSound (pieces : List (Piece C)) (homes : BTreeMap ℕ Home) (next floor : ℕ) : Type 0 where
    pub homed : Homed homes 0 pieces
    pub later : All (λ x. All (λ d. d.place < next) x.clauses) pieces
    pub low : floor ≤ next
    pub apart : Apart (names pieces)

  pub record IsWhole (pieces : List (Piece C)) (homes : BTreeMap ℕ Home) (index : Index) (next floor : ℕ) : Type 0 where
    pub sound : IsSound pieces homes next floor
    pub indexed : Indexed index (names pieces)
    pub housed : Housed homes pieces
