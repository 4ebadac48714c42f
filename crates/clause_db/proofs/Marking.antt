-- Stored clauses that are erased: their procedures and places stay.
use Rattle.std.proofs.Common.{◌≡◌, ◌<◌, ◌≤◌, ℕ, suc, List, [], ◌∷◌, filter, map, length, Some, Bool, true, false, cond, not, ◌&&◌, refl, ap, sym, subst, ◌∙◌, arith}
use Rattle.std.specs.Prelude.{All}
use Rattle.std.proofs.lemmas.List.Elements.{All-map, All-weaker}
use Rattle.pl_model.specs.History as entries
use Rattle.pl_model.specs.Database.{Stored, is_of, is_at, is_erased, erased_where}

module _ {C : Type 0} where
  abbrev pub marked : ℕ → Stored C → Stored C
  marked k s = record s { erased = Some k }

  module _ (test : Stored C → Bool) (k : ℕ) where
    abbrev pub is_marked : Stored C → Bool
    is_marked s = test s && not (is_erased s)

    pub of_same : (q : entries.Proc) (s : Stored C) (a : Bool) → is_of q (cond a (marked k s) s) ≡ is_of q s
    of_same q s true = refl
    of_same q s false = refl

    pub of_marked : (q : entries.Proc) (ss : List (Stored C)) → filter (is_of q) (map (erased_where test k) ss) ≡ map (erased_where test k) (filter (is_of q) ss)
    of_marked q [] = refl
    of_marked q (s ∷ ss) =
        ap (λ b. cond b (erased_where test k s ∷ filter (is_of q) (map (erased_where test k) ss)) (filter (is_of q) (map (erased_where test k) ss))) (of_same q s (is_marked s))
        ∙ go (is_of q s) (of_marked q ss)
      where
        go : (b : Bool) → filter (is_of q) (map (erased_where test k) ss) ≡ map (erased_where test k) (filter (is_of q) ss)
            → cond b (erased_where test k s ∷ filter (is_of q) (map (erased_where test k) ss)) (filter (is_of q) (map (erased_where test k) ss)) ≡ map (erased_where test k) (cond b (s ∷ filter (is_of q) ss) (filter (is_of q) ss))
        go true ih = ap (λ l. erased_where test k s ∷ l) ih
        go false ih = ih

    pub once_marked : (m : ℕ) (ss : List (Stored C)) → length (filter (is_at m) (map (erased_where test k) ss)) ≡ length (filter (is_at m) ss)
    once_marked m [] = refl
    once_marked m (s ∷ ss) =
        ap (λ b. length (cond b (erased_where test k s ∷ filter (is_at m) (map (erased_where test k) ss)) (filter (is_at m) (map (erased_where test k) ss)))) (same (is_marked s))
        ∙ go (is_at m s) (once_marked m ss)
      where
        same : (a : Bool) → is_at m (cond a (marked k s) s) ≡ is_at m s
        same true = refl
        same false = refl

        go : (b : Bool) → length (filter (is_at m) (map (erased_where test k) ss)) ≡ length (filter (is_at m) ss)
            → length (cond b (erased_where test k s ∷ filter (is_at m) (map (erased_where test k) ss)) (filter (is_at m) (map (erased_where test k) ss))) ≡ length (cond b (s ∷ filter (is_at m) ss) (filter (is_at m) ss))
        go true ih = ap suc ih
        go false ih = ih

    pub before_marked : (n more : ℕ) → n ≤ more → (ss : List (Stored C)) → All (λ s. s.place < n) ss → All (λ s. s.place < more) (map (erased_where test k) ss)
    before_marked n more l ss h =
        All-map (λ (s : Stored C). s.place < more) (erased_where test k) ss
        (All-weaker (λ (s : Stored C). s.place < n) (λ (s : Stored C). (erased_where test k s).place < more) (λ s m. subst (λ p. p < more) (sym (same s (is_marked s))) (omega (arith, l, m))) ss h)
      where
        same : (s : Stored C) (a : Bool) → (cond a (marked k s) s).place ≡ s.place
        same s true = refl
        same s false = refl
