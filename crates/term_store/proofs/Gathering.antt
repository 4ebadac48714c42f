-- Lists that gather atoms.
use Rattle.std.proofs.Common.{◌≡◌, ◌⊎◌, inl, inr, ℕ, ◌+◌, ◌<◌, ◌≤◌, List, [], ◌∷◌, ◌++◌, length, get_or, take, flat_map, sym, ap, subst, ◌∙◌, arith, append-nil}
use Rattle.std.specs.List.{Contains}
use Rattle.std.proofs.lemmas.List.{take_all, take_more}
use Rattle.std.proofs.lemmas.List.Concat.{flat_map-append}
use Rattle.std.proofs.lemmas.List.Elements.{Contains-append_left, Contains-append_right, Contains-append_cases, Contains-push_cases}
use Rattle.term_store.specs.Live.{Gathers}

pub none_there : {X : Type 0} (a : X) → Contains [] a → ⊥
none_there a c = absurd (omega (arith, c.1))

pub gathers_none : (old : List ℕ) → Gathers [] old old
gathers_none old =
    record {
      all = λ a c. absurd (none_there a c);
      kept = λ a c. c;
      only = λ a c. inl c;
    }

pub gathers_both : (xs ys a b c : List ℕ) → Gathers xs a b → Gathers ys b c → Gathers (xs ++ ys) a c
gathers_both xs ys a b c f g =
    record { all = all; kept = λ x k. g.kept x (f.kept x k); only = only }
  where
    all : (x : ℕ) → Contains (xs ++ ys) x → Contains c x
    all x k = go (Contains-append_cases xs ys x k)
      where
        go : Contains xs x ⊎ Contains ys x → Contains c x
        go (inl k) = g.kept x (f.all x k)
        go (inr k) = g.all x k

    only : (x : ℕ) → Contains c x → Contains a x ⊎ Contains (xs ++ ys) x
    only x k = go (g.only x k)
      where
        first : Contains a x ⊎ Contains xs x → Contains a x ⊎ Contains (xs ++ ys) x
        first (inl k) = inl k
        first (inr k) = inr (Contains-append_left xs ys x k)

        go : Contains b x ⊎ Contains ys x → Contains a x ⊎ Contains (xs ++ ys) x
        go (inl k) = first (f.only x k)
        go (inr k) = inr (Contains-append_right xs ys x k)

-- The atom was there.
pub gathers_there : (x : ℕ) (old : List ℕ) → Contains old x → Gathers (x ∷ []) old old
gathers_there x old there =
    record { all = all; kept = λ a c. c; only = λ a c. inl c }
  where
    all : (a : ℕ) → Contains (x ∷ []) a → Contains old a
    all a c = go (Contains-push_cases [] x a c)
      where
        go : Contains [] a ⊎ (x ≡ a) → Contains old a
        go (inl k) = absurd (none_there a k)
        go (inr e) = subst (Contains old) e there

-- It was put down.
pub gathers_new : (x : ℕ) (old new : List ℕ) → new ≡ old ++ x ∷ [] → Gathers (x ∷ []) old new
gathers_new x old new e =
    record {
      all = λ a c. subst (λ l. Contains l a) (sym e) (Contains-append_right old (x ∷ []) a c);
      kept = λ a c. subst (λ l. Contains l a) (sym e) (Contains-append_left old (x ∷ []) a c);
      only = λ a c. Contains-append_cases old (x ∷ []) a (subst (λ l. Contains l a) e c);
    }

module _ {X : Type 0} (f : X → List ℕ) where
  -- The atoms of one more.
  pub gathers_next : (xs : List X) (i : ℕ) (d : X) (a b c : List ℕ) → i < length xs → Gathers (flat_map f (take i xs)) a b → Gathers (f (get_or xs i d)) b c
      → Gathers (flat_map f (take (i + 1) xs)) a c
  gathers_next xs i d a b c lt g h =
      let x = get_or xs i d in
      let more : flat_map f (take (i + 1) xs) ≡ flat_map f (take i xs) ++ f x =
      ap (flat_map f) (take_more xs i d lt) ∙ flat_map-append f (take i xs) (x ∷ []) ∙ ap (λ l. flat_map f (take i xs) ++ l) (append-nil (f x)) in
      subst (λ l. Gathers l a c) (sym more) (gathers_both (flat_map f (take i xs)) (f x) a b c g h)

  pub gathers_last : (xs : List X) (i : ℕ) (a b : List ℕ) → length xs ≤ i → Gathers (flat_map f (take i xs)) a b → Gathers (flat_map f xs) a b
  gathers_last xs i a b le g = subst (λ ys. Gathers (flat_map f ys) a b) (take_all i xs le) g
