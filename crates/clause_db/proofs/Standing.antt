-- Each procedure stands there once.
use Rattle.std.proofs.Common.{◌≡◌, ℕ, zero, suc, List, [], ◌∷◌, find, Some, Bool, true, false, cond, ◌||◌, refl, ap, sym, ◌∙◌}
use Rattle.std.specs.List.{list_any, slice_get}
use Rattle.std.specs.Option.{option_map_or}
use Rattle.std.proofs.lemmas.Bool.{false≢true}
use Rattle.pl_model.specs.History as entries
use Rattle.pl_model.specs.Predicates.{same_proc}
use Rattle.pl_model.specs.laws.Shown.{proc_of}
use Rattle.pl_model.specs.declared.shows.Proc.{Proc}
use Rattle.clause_db.specs.declared.parts.Addition.{Addition}
use Rattle.clause_db.specs.Parts.{Piece, is_part_of, clauses_at, added_to, with_clause, without_at}
use Rattle.clause_db.specs.Sound.{Apart, names}
use Rattle.clause_db.proofs.Procs.{is_same, same_self}

pub same_false : (p q : entries.Proc) → same_proc p q ≡ false → same_proc q p ≡ false
same_false p q e = go (same_proc q p) refl
  where
    go : (b : Bool) → same_proc q p ≡ b → same_proc q p ≡ false
    go true u = absurd (false≢true (sym e ∙ ap (λ r. same_proc p r) (is_same q p u) ∙ same_self p))
    go false u = u

module _ {C : Type 0} where
  any_with : (a : Addition) (p : Proc) (c : C) (q : entries.Proc) → same_proc q (proc_of p) ≡ false → (xs : List (Piece C)) → list_any (same_proc q) (names (with_clause a p c xs)) ≡ list_any (same_proc q) (names xs)
  any_with a p c q e [] = ap (λ b. b || false) e
  any_with a p c q e (x ∷ xs) = go (is_part_of (proc_of p) x) (any_with a p c q e xs)
    where
      go : (b : Bool) → list_any (same_proc q) (names (with_clause a p c xs)) ≡ list_any (same_proc q) (names xs)
          → list_any (same_proc q) (names (cond b (added_to a c x ∷ xs) (x ∷ with_clause a p c xs))) ≡ list_any (same_proc q) (names (x ∷ xs))
      go true ih = refl
      go false ih = ap (λ b. same_proc q (proc_of x.name) || b) ih

  pub apart_with : (a : Addition) (p : Proc) (c : C) (xs : List (Piece C)) → Apart (names xs) → Apart (names (with_clause a p c xs))
  apart_with a p c [] h = (refl, tt)
  apart_with a p c (x ∷ xs) h = go (is_part_of (proc_of p) x) refl (apart_with a p c xs h.1)
    where
      go : (b : Bool) → is_part_of (proc_of p) x ≡ b → Apart (names (with_clause a p c xs)) → Apart (names (cond b (added_to a c x ∷ xs) (x ∷ with_clause a p c xs)))
      go true e ih = h
      go false e ih = (any_with a p c (proc_of x.name) e xs ∙ h.0, ih)

  pub names_without : (i j k : ℕ) (xs : List (Piece C)) → names (without_at i j k xs) ≡ names xs
  names_without i j k [] = refl
  names_without zero j k (x ∷ xs) = refl
  names_without (suc i) j k (x ∷ xs) = ap (λ l. proc_of x.name ∷ l) (names_without i j k xs)

  any_get : (q : entries.Proc) (x : Piece C) → same_proc q (proc_of x.name) ≡ true → (i : ℕ) (xs : List (Piece C)) → slice_get xs i ≡ Some x → list_any (same_proc q) (names xs) ≡ true
  any_get q x e i [] at = absurd (cc)
  any_get q x e zero (y ∷ ys) at = ap (λ b. b || list_any (same_proc q) (names ys)) (ap (λ o. option_map_or (λ (z : Piece C). same_proc q (proc_of z.name)) o true) at ∙ e)
  any_get q x e (suc i) (y ∷ ys) at = more (same_proc q (proc_of y.name)) (any_get q x e i ys at)
    where
      more : (b : Bool) → list_any (same_proc q) (names ys) ≡ true → (b || list_any (same_proc q) (names ys)) ≡ true
      more true h = refl
      more false h = h

  pub own_found : (i : ℕ) (xs : List (Piece C)) (x : Piece C) → Apart (names xs) → slice_get xs i ≡ Some x → find (is_part_of (proc_of x.name)) xs ≡ Some x
  own_found i [] x h at = absurd (cc)
  own_found zero (y ∷ ys) x h at =
      ap (λ b. cond b (Some y) (find (is_part_of (proc_of x.name)) ys)) (ap (λ o. option_map_or (λ (z : Piece C). same_proc (proc_of z.name) (proc_of x.name)) o true) at ∙ same_self (proc_of x.name)) ∙ at
  own_found (suc i) (y ∷ ys) x h at = go (same_proc (proc_of y.name) (proc_of x.name)) refl (own_found i ys x h.1 at)
    where
      go : (b : Bool) → same_proc (proc_of y.name) (proc_of x.name) ≡ b → find (is_part_of (proc_of x.name)) ys ≡ Some x → cond b (Some y) (find (is_part_of (proc_of x.name)) ys) ≡ Some x
      go true e ih = absurd (false≢true (sym h.0 ∙ any_get (proc_of y.name) x e i ys at))
      go false e ih = ih

  -- The clauses of the procedure at an index are those of its predicate.
  pub own_clauses : (i : ℕ) (xs : List (Piece C)) (x : Piece C) → Apart (names xs) → slice_get xs i ≡ Some x → clauses_at xs (proc_of x.name) ≡ x.clauses
  own_clauses i xs x h at = ap (λ o. option_map_or (λ (y : Piece C). y.clauses) o []) (own_found i xs x h at)
