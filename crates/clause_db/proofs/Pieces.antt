-- The procedures as the database holds them, by their names.
use Rattle.std.proofs.Common.{◌≡◌, ℕ, List, [], ◌∷◌, ◌++◌, find, map, Some, None, Bool, true, false, cond, refl, ap, sym, subst, ◌∙◌}
use Rattle.std.specs.Prelude.{All, slice_set}
use Rattle.std.specs.Option.{option_map, option_map_or, option_and_then}
use Rattle.std.proofs.lemmas.List.Elements.{All-head, All-tail}
use Rattle.pl_model.specs.History as entries
use Rattle.pl_model.specs.Predicates.{same_proc}
use Rattle.pl_model.specs.laws.Shown.{proc_of}
use Rattle.pl_model.specs.declared.shows.Proc.{Proc}
use Rattle.clause_db.specs.declared.parts.ProcedureClauses.{ProcedureClauses}
use Rattle.clause_db.specs.declared.parts.Addition.{Addition}
use Rattle.clause_db.specs.Located.{IsAt}
use Rattle.clause_db.specs.Parts.{Piece, piece, blank, is_part_of, clauses_at, piece_access, access_at, added_to, with_clause}
use Rattle.clause_db.proofs.Procs.{amend, find_amend}
use Rattle.clause_db.proofs.Searched.{find_is, find_map, located_set}

module _ {C : Type 0} where
  amended : (a : Addition) (p : Proc) (c : C) (xs : List (Piece C)) → with_clause a p c xs ≡ amend (λ (x : Piece C). proc_of x.name) (proc_of p) (added_to a c) (added_to a c (blank p)) xs
  amended a p c [] = refl
  amended a p c (x ∷ xs) = ap (λ l. cond (is_part_of (proc_of p) x) (added_to a c x ∷ xs) (x ∷ l)) (amended a p c xs)

  pub find_with : (a : Addition) (p : Proc) (c : C) (xs : List (Piece C)) (q : entries.Proc)
      → find (is_part_of q) (with_clause a p c xs) ≡ cond (same_proc (proc_of p) q) (Some (option_map_or (added_to a c) (find (is_part_of (proc_of p)) xs) (added_to a c (blank p)))) (find (is_part_of q) xs)
  find_with a p c xs q =
      ap (find (is_part_of q)) (amended a p c xs)
      ∙ find_amend (λ (x : Piece C). proc_of x.name) (proc_of p) (added_to a c) (added_to a c (blank p)) (λ x. refl) refl q xs

  module _ {K : Type 0} (p : entries.Proc) where
    abbrev pub test : ProcedureClauses C K → Bool
    test x = is_part_of p (piece x)

    pub piece_found : (xs : List (ProcedureClauses C K)) (i : ℕ) (at : IsAt test xs i) → find (is_part_of p) (map piece xs) ≡ Some (piece at.item)
    piece_found xs i at = find_map piece (is_part_of p) xs ∙ ap (option_map piece) (find_is test xs i at)

    pub piece_missed : (xs : List (ProcedureClauses C K)) → find test xs ≡ None → find (is_part_of p) (map piece xs) ≡ None
    piece_missed xs e = find_map piece (is_part_of p) xs ∙ ap (option_map piece) e

    pub clauses_found : (xs : List (ProcedureClauses C K)) (i : ℕ) (at : IsAt test xs i) → clauses_at (map piece xs) p ≡ at.item.clauses
    clauses_found xs i at = ap (λ o. option_map_or (λ (x : Piece C). x.clauses) o []) (piece_found xs i at)

    pub clauses_missed : (xs : List (ProcedureClauses C K)) → find test xs ≡ None → clauses_at (map piece xs) p ≡ []
    clauses_missed xs e = ap (λ o. option_map_or (λ (x : Piece C). x.clauses) o []) (piece_missed xs e)

    pub access_found : (g : ℕ) (xs : List (ProcedureClauses C K)) (i : ℕ) (at : IsAt test xs i) → access_at g (map piece xs) p ≡ piece_access g (piece at.item)
    access_found g xs i at = ap (λ o. option_and_then (λ (x : Piece C). piece_access g x) o) (piece_found xs i at)

    pub access_missed : (g : ℕ) (xs : List (ProcedureClauses C K)) → find test xs ≡ None → access_at g (map piece xs) p ≡ None
    access_missed g xs e = ap (λ o. option_and_then (λ (x : Piece C). piece_access g x) o) (piece_missed xs e)

    all_item : (P : Piece C → Type 0) (before : List (ProcedureClauses C K)) (x : ProcedureClauses C K) (after : List (ProcedureClauses C K)) → All P (map piece (before ++ x ∷ after)) → P (piece x)
    all_item P [] x after h = All-head P (piece x) (map piece after) h
    all_item P (y ∷ before) x after h = all_item P before x after (All-tail P (piece y) (map piece (before ++ x ∷ after)) h)

    pub all_found : (P : Piece C → Type 0) (xs : List (ProcedureClauses C K)) (i : ℕ) (at : IsAt test xs i) → All P (map piece xs) → P (piece at.item)
    all_found P xs i at h = all_item P at.before at.item at.after (subst (λ l. All P (map piece l)) at.whole h)

  module _ {K : Type 0} (a : Addition) (p : Proc) (c : C) where
    with_at : (before : List (ProcedureClauses C K)) (x z : ProcedureClauses C K) (after : List (ProcedureClauses C K)) → find (test (proc_of p)) before ≡ None → test (proc_of p) x ≡ true → piece z ≡ added_to a c (piece x)
        → map piece (before ++ z ∷ after) ≡ with_clause a p c (map piece (before ++ x ∷ after))
    with_at [] x z after miss hit is =
        ap (λ w. w ∷ map piece after) is
        ∙ sym (ap (λ b. cond b (added_to a c (piece x) ∷ map piece after) (piece x ∷ with_clause a p c (map piece after))) hit)
    with_at (y ∷ before) x z after miss hit is = go (test (proc_of p) y) refl miss (λ m. with_at before x z after m hit is)
      where
        rest : List (Piece C)
        rest = map piece (before ++ x ∷ after)

        go : (b : Bool) → test (proc_of p) y ≡ b → cond b (Some y) (find (test (proc_of p)) before) ≡ None
            → (find (test (proc_of p)) before ≡ None → map piece (before ++ z ∷ after) ≡ with_clause a p c rest)
            → piece y ∷ map piece (before ++ z ∷ after) ≡ cond (test (proc_of p) y) (added_to a c (piece y) ∷ rest) (piece y ∷ with_clause a p c rest)
        go true e m ih = absurd (cc)
        go false e m ih =
            ap (λ l. piece y ∷ l) (ih m)
            ∙ sym (ap (λ b. cond b (added_to a c (piece y) ∷ rest) (piece y ∷ with_clause a p c rest)) e)

    pub with_found : (xs : List (ProcedureClauses C K)) (i : ℕ) (z : ProcedureClauses C K) (at : IsAt (test (proc_of p)) xs i) → piece z ≡ added_to a c (piece at.item)
        → map piece (slice_set xs i z) ≡ with_clause a p c (map piece xs)
    with_found xs i z at is =
        ap (map piece) (located_set (test (proc_of p)) xs i z at)
        ∙ with_at at.before at.item z at.after at.missed at.hits is
        ∙ sym (ap (λ l. with_clause a p c (map piece l)) at.whole)

    pub with_missed : (xs : List (ProcedureClauses C K)) → find (test (proc_of p)) xs ≡ None → map piece xs ++ added_to a c (blank p) ∷ [] ≡ with_clause a p c (map piece xs)
    with_missed [] e = refl
    with_missed (y ∷ xs) e = go (test (proc_of p) y) refl e (with_missed xs)
      where
        go : (b : Bool) → test (proc_of p) y ≡ b → cond b (Some y) (find (test (proc_of p)) xs) ≡ None
            → (find (test (proc_of p)) xs ≡ None → map piece xs ++ added_to a c (blank p) ∷ [] ≡ with_clause a p c (map piece xs))
            → piece y ∷ (map piece xs ++ added_to a c (blank p) ∷ []) ≡ cond (test (proc_of p) y) (added_to a c (piece y) ∷ map piece xs) (piece y ∷ with_clause a p c (map piece xs))
        go true u m ih = absurd (cc)
        go false u m ih =
            ap (λ l. piece y ∷ l) (ih m)
            ∙ sym (ap (λ b. cond b (added_to a c (piece y) ∷ map piece xs) (piece y ∷ with_clause a p c (map piece xs))) u)
