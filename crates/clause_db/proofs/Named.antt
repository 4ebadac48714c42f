-- What a call finds depends on the clauses alone and on the places that name them.
use Rattle.std.proofs.Common.{◌≡◌, ◌≤◌, ℕ, Bool, true, false, cond, not, List, [], ◌∷◌, filter, Option, Some, None, refl, ap, sym, ◌∙◌}
use Rattle.std.specs.Prelude.{◌==◌, ◌||◌, ◌&&◌}
use Rattle.std.specs.List.{list_any}
use Rattle.pl_model.specs.History.{Proc}
use Rattle.pl_model.specs.Database.{Database, Stored, is_at, seen, choices, named_clauses}
use Rattle.gen_core.specs.Visible.{has_any}
use Rattle.gen_core.specs.Visible as list
use Rattle.clause_db.specs.Parts.{Held, clauses_at}
use Rattle.clause_db.specs.Stands.{StandsFor, first_named, after}
use Rattle.clause_db.proofs.Views.{call_same}

module _ {C : Type 0} where
  abbrev first_pair : List (ℕ × C) → Option (ℕ × C × Bool)
  first_pair [] = None
  first_pair (x ∷ xs) = Some (x.0, x.1, has_any xs)

  abbrev after_pair : ℕ → List (ℕ × C) → List (ℕ × C)
  after_pair j [] = []
  after_pair j (x ∷ xs) = cond (x.0 == j) xs (after_pair j xs)

  pub has_any_named : (ss : List (Stored C)) → has_any (named_clauses ss) ≡ has_any ss
  has_any_named [] = refl
  has_any_named (s ∷ ss) = refl

  first_is : (ss : List (Stored C)) → first_named ss ≡ first_pair (named_clauses ss)
  first_is [] = refl
  first_is (s ∷ ss) = ap (λ b. Some (s.place, s.clause, b)) (sym (has_any_named ss))

  tried_is : (t : C → Bool) (ss : List (Stored C)) → named_clauses (filter (λ s. not (t s.clause)) ss) ≡ filter (λ x. not (t x.1)) (named_clauses ss)
  tried_is t [] = refl
  tried_is t (s ∷ ss) = go (t s.clause) (tried_is t ss)
    where
      go : (b : Bool) → named_clauses (filter (λ s. not (t s.clause)) ss) ≡ filter (λ x. not (t x.1)) (named_clauses ss)
          → named_clauses (cond (not b) (s ∷ filter (λ s. not (t s.clause)) ss) (filter (λ s. not (t s.clause)) ss)) ≡ cond (not b) ((s.place, s.clause) ∷ filter (λ x. not (t x.1)) (named_clauses ss)) (filter (λ x. not (t x.1)) (named_clauses ss))
      go true ih = ih
      go false ih = ap (λ l. (s.place, s.clause) ∷ l) ih

  after_is : (j : ℕ) (ss : List (Stored C)) → named_clauses (after j ss) ≡ after_pair j (named_clauses ss)
  after_is j [] = refl
  after_is j (s ∷ ss) = go (s.place == j) (after_is j ss)
    where
      go : (b : Bool) → named_clauses (after j ss) ≡ after_pair j (named_clauses ss) → named_clauses (cond b ss (after j ss)) ≡ cond b (named_clauses ss) (after_pair j (named_clauses ss))
      go true ih = refl
      go false ih = ih

  any_is : (j : ℕ) (ss : List (Stored C)) → list_any (is_at j) ss ≡ list_any (λ x. x.0 == j) (named_clauses ss)
  any_is j [] = refl
  any_is j (s ∷ ss) = ap (λ b. (s.place == j) || b) (any_is j ss)

  first_tried : (t : C → Bool) (ss : List (Stored C)) → first_named (filter (λ s. not (t s.clause)) ss) ≡ first_pair (filter (λ x. not (t x.1)) (named_clauses ss))
  first_tried t ss = first_is (filter (λ s. not (t s.clause)) ss) ∙ ap first_pair (tried_is t ss)

  pub any_named : (j : ℕ) (ss us : List (Stored C)) → named_clauses ss ≡ named_clauses us → list_any (is_at j) ss ≡ list_any (is_at j) us
  any_named j ss us e = any_is j ss ∙ ap (list_any (λ x. x.0 == j)) e ∙ sym (any_is j us)

  pub tried_named : (t : C → Bool) (ss us : List (Stored C)) → named_clauses ss ≡ named_clauses us
      → first_named (filter (λ s. not (t s.clause)) ss) ≡ first_named (filter (λ s. not (t s.clause)) us)
  tried_named t ss us e = first_tried t ss ∙ ap (λ l. first_pair (filter (λ x. not (t x.1)) l)) e ∙ sym (first_tried t us)

  pub after_named : (t : C → Bool) (j : ℕ) (ss us : List (Stored C)) → named_clauses ss ≡ named_clauses us
      → first_named (filter (λ s. not (t s.clause)) (after j ss)) ≡ first_named (filter (λ s. not (t s.clause)) (after j us))
  after_named t j ss us e = tried_named t (after j ss) (after j us) (after_is j ss ∙ ap (after_pair j) e ∙ sym (after_is j us))

  pub call_then : (need : C → ℕ) (h : Held C) (d : ℕ → Database C) → StandsFor need h d → (t : C → Bool) (g : ℕ) (p : Proc) → h.floor ≤ g
      → list.first_choice (filter (λ x. list.is_visible g x && not (t x.clause)) (clauses_at h.parts p)) ≡ first_named (choices t g p (d g))
  call_then need h d s t g p l =
      call_same need h (d h.next) s.newest t g p l ∙ tried_named t (seen g p (d h.next)) (seen g p (d g)) (sym (s.views g l p))
