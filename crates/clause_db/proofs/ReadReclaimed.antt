-- What is read of the database after clauses are reclaimed is what is reclaimed of what was read.
use Rattle.std.proofs.Common.{◌≡◌, ℕ, zero, suc, List, [], ◌∷◌, max, filter, map, Bool, true, false, cond, refl, ap}
use Rattle.gen_core.specs.declared.dated_clause.DatedClause.{DatedClause}
use Rattle.clause_db.specs.Parts.{Held, Piece}
use Rattle.clause_db.specs.Reading.{read_dated, read_piece, read_held}
use Rattle.clause_db.specs.Reclaimed.{is_left, reclaimed, reclaimed_at, reclaimed_held}

module _ {C B : Type 0} (f : C → B) (floor : ℕ) where
  left_read : (ds : List (DatedClause C)) → map (read_dated f) (filter (is_left floor) ds) ≡ filter (is_left floor) (map (read_dated f) ds)
  left_read [] = refl
  left_read (d ∷ ds) = go (is_left floor d) (left_read ds)
    where
      go : (b : Bool) → map (read_dated f) (filter (is_left floor) ds) ≡ filter (is_left floor) (map (read_dated f) ds)
          → map (read_dated f) (cond b (d ∷ filter (is_left floor) ds) (filter (is_left floor) ds))
          ≡ cond b (read_dated f d ∷ filter (is_left floor) (map (read_dated f) ds)) (filter (is_left floor) (map (read_dated f) ds))
      go true ih = ap (λ l. read_dated f d ∷ l) ih
      go false ih = ih

  at_read : (i : ℕ) (xs : List (Piece C)) → map (read_piece f) (reclaimed_at i floor xs) ≡ reclaimed_at i floor (map (read_piece f) xs)
  at_read i [] = refl
  at_read zero (x ∷ xs) = ap (λ l. record (reclaimed floor (read_piece f x)) { clauses = l } ∷ map (read_piece f) xs) (left_read x.clauses)
  at_read (suc i) (x ∷ xs) = ap (λ l. read_piece f x ∷ l) (at_read i xs)

  pub reclaimed_read : (i : ℕ) (h : Held C) → read_held f (reclaimed_held i floor h) ≡ reclaimed_held i floor (read_held f h)
  reclaimed_read i h = ap (λ l. record (read_held f h) { parts = l; next = max h.next floor; floor = max h.floor floor }) (at_read i h.parts)
