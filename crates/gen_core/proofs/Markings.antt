-- Erasures that are written among clauses on their numbers.
use Rattle.std.proofs.Common.{◌≡◌, ℕ, zero, suc, ◌≤◌, ◌/◌, List, [], ◌∷◌, ◌++◌, map, length, set, Option, Some, None, refl, sym, ap, ap₂, subst, ◌∙◌, arith}
use Rattle.std.specs.Prelude.{⊤}
use Rattle.std.specs.Ordering.{nat_cmp}
use Rattle.std.specs.List.{slice_get, AllByRecursion}
use Rattle.std.specs.List.Sorted.{IsStrictlySortedBy}
use Rattle.std.specs.Option.{option_map, option_map_or}
use Rattle.std.specs.Map.{lookup, set_value}
use Rattle.std.proofs.lemmas.List.{map-append}
use Rattle.gen_core.specs.declared.clause_index.Entry.{Entry}
use Rattle.gen_core.specs.declared.number_map.Item.{Item}
use Rattle.gen_core.specs.NumberMaps.{AreRows, IsAscending, IsRow, Row, flat, numbers_of, pairs_of}
use Rattle.gen_core.specs.ClauseIndex.{marked, marked_all}
use Rattle.gen_core.specs.Marking.{item_marked, marked_on}
use Rattle.gen_core.proofs.NumberLaws.{at, lookup_place, set_place}
use Rattle.gen_core.proofs.NumberRows.{lookup_in, same_pairs, set_in}

module _ {C K : Type 0} (place : ℕ) where
  -- The first rows are marked, so many.
  abbrev pub MarkedUpTo : ℕ → List (Row (Entry C K)) → List (Row (Entry C K)) → Type 0
  MarkedUpTo zero old new = new ≡ old
  MarkedUpTo (suc i) [] [] = ⊤
  MarkedUpTo (suc i) [] (n ∷ ns) = ⊥
  MarkedUpTo (suc i) (r ∷ rs) [] = ⊥
  MarkedUpTo (suc i) (r ∷ rs) (n ∷ ns) = (n.number ≡ r.number) × (n.value.items ≡ map (item_marked place) r.value.items) × MarkedUpTo i rs ns

  pub marked_more : (i : ℕ) (old new : List (Row (Entry C K))) (row now : Row (Entry C K)) → MarkedUpTo i old new → slice_get new i ≡ Some row
      → now.number ≡ row.number → now.value.items ≡ map (item_marked place) row.value.items → MarkedUpTo (suc i) old (set new i now)
  marked_more zero old [] row now m h e v = absurd (cc)
  marked_more zero old (n ∷ ns) row now m h e v =
      let same : n ≡ row = cc in
      subst (λ rs. MarkedUpTo 1 rs (now ∷ ns)) m
      (e ∙ ap (λ (x : Row (Entry C K)). x.number) (sym same), v ∙ ap (λ (x : Row (Entry C K)). map (item_marked place) x.value.items) (sym same), refl)
  marked_more (suc i) [] [] row now m h e v = absurd (cc)
  marked_more (suc i) [] (n ∷ ns) row now m h e v = absurd m
  marked_more (suc i) (r ∷ rs) [] row now m h e v = absurd m
  marked_more (suc i) (r ∷ rs) (n ∷ ns) row now m h e v = (m.0, m.1, marked_more i rs ns row now m.2 h e v)

  pub same_length : (i : ℕ) (old new : List (Row (Entry C K))) → MarkedUpTo i old new → length new ≡ length old
  same_length zero old new m = ap length m
  same_length (suc i) [] [] m = refl
  same_length (suc i) [] (n ∷ ns) m = absurd m
  same_length (suc i) (r ∷ rs) [] m = absurd m
  same_length (suc i) (r ∷ rs) (n ∷ ns) m = ap suc (same_length i rs ns m.2)

  pairs_all : (xs : List (Item (Entry C K))) → pairs_of (map (item_marked place) xs) ≡ map (λ e. (e.0, marked_all place e.1)) (pairs_of xs)
  pairs_all [] = refl
  pairs_all (x ∷ xs) = ap (λ es. (x.number, marked_all place x.value) ∷ es) (pairs_all xs)

  numbers_all : (xs : List (Item (Entry C K))) → numbers_of (map (item_marked place) xs) ≡ numbers_of xs
  numbers_all [] = refl
  numbers_all (x ∷ xs) = ap (λ ns. x.number ∷ ns) (numbers_all xs)

  pub marked_flat : (i : ℕ) (old new : List (Row (Entry C K))) → MarkedUpTo i old new → length old ≤ i → flat new ≡ map (λ e. (e.0, marked_all place e.1)) (flat old)
  marked_flat zero [] [] m l = refl
  marked_flat zero [] (n ∷ ns) m l = absurd (cc)
  marked_flat zero (r ∷ rs) new m l = let no : ⊥ = omega (arith, l) in absurd no
  marked_flat (suc i) [] [] m l = refl
  marked_flat (suc i) [] (n ∷ ns) m l = absurd m
  marked_flat (suc i) (r ∷ rs) [] m l = absurd m
  marked_flat (suc i) (r ∷ rs) (n ∷ ns) m l =
      ap₂ ◌++◌ (ap pairs_of m.1 ∙ pairs_all r.value.items) (marked_flat i rs ns m.2 (omega (arith, l)))
      ∙ sym (map-append (λ (e : ℕ × Entry C K). (e.0, marked_all place e.1)) (pairs_of r.value.items) (flat rs))

  pub marked_numbers : (i : ℕ) (old new : List (Row (Entry C K))) → MarkedUpTo i old new → numbers_of new ≡ numbers_of old
  marked_numbers zero old new m = ap numbers_of m
  marked_numbers (suc i) [] [] m = refl
  marked_numbers (suc i) [] (n ∷ ns) m = absurd m
  marked_numbers (suc i) (r ∷ rs) [] m = absurd m
  marked_numbers (suc i) (r ∷ rs) (n ∷ ns) m = ap₂ ◌∷◌ m.0 (marked_numbers i rs ns m.2)

  marked_row : (r n : Row (Entry C K)) → n.number ≡ r.number → numbers_of n.value.items ≡ numbers_of r.value.items → IsRow r → IsRow n
  marked_row r n e v row = record {
    ascending = subst (IsStrictlySortedBy nat_cmp) (sym v) row.ascending;
    quotient = subst (λ m. AllByRecursion (λ k. k / 64 ≡ m) (numbers_of n.value.items)) (sym e) (subst (AllByRecursion (λ k. k / 64 ≡ r.number)) (sym v) row.quotient);
  }

  pub marked_rows : (i : ℕ) (old new : List (Row (Entry C K))) → MarkedUpTo i old new → AreRows old → AreRows new
  marked_rows zero old new m a = subst AreRows (sym m) a
  marked_rows (suc i) [] [] m a = tt
  marked_rows (suc i) [] (n ∷ ns) m a = absurd m
  marked_rows (suc i) (r ∷ rs) [] m a = absurd m
  marked_rows (suc i) (r ∷ rs) (n ∷ ns) m a = (marked_row r n m.0 (ap numbers_of m.1 ∙ numbers_all r.value.items) a.0, marked_rows i rs ns m.2 a.1)

-- ---- one

module _ {C K : Type 0} (number place : ℕ) where
  -- The item at the place of the number.
  pub marked_place : (xs : List (Item (Entry C K))) (i : ℕ) (x : Item (Entry C K)) → IsAscending xs → slice_get (numbers_of xs) i ≡ Some number → slice_get xs i ≡ Some x
      → pairs_of (set xs i (record x { value = marked place x.value })) ≡ marked_on number place (pairs_of xs)
  marked_place xs i x s h here =
      sym (ap (λ o. option_map_or (λ e. set_value (at number) (pairs_of xs) (marked place e)) o (pairs_of xs)) (lookup_place number xs i s h ∙ ap (option_map (λ (y : Item (Entry C K)). y.value)) here)
      ∙ set_place number xs i x (marked place x.value) s h here)

  -- Where there is none nothing is marked.
  pub marked_none : (es : List (ℕ × Entry C K)) → lookup (at number) es ≡ None → es ≡ marked_on number place es
  marked_none es h = sym (ap (λ o. option_map_or (λ e. set_value (at number) es (marked place e)) o es) h)

  -- In the row of its quotient.
  pub marked_in : (rs : List (Row (Entry C K))) (i : ℕ) (row now : Row (Entry C K)) → IsAscending rs → AreRows rs → slice_get rs i ≡ Some row → row.number ≡ number / 64
      → now.number ≡ row.number → pairs_of now.value.items ≡ marked_on number place (pairs_of row.value.items) → flat (set rs i now) ≡ marked_on number place (flat rs)
  marked_in rs i row now s a h e n p = go (lookup (at number) (pairs_of row.value.items)) refl p
    where
      go : (o : Option (Entry C K)) → lookup (at number) (pairs_of row.value.items) ≡ o
          → pairs_of now.value.items ≡ option_map_or (λ e. set_value (at number) (pairs_of row.value.items) (marked place e)) (lookup (at number) (pairs_of row.value.items)) (pairs_of row.value.items)
          → flat (set rs i now) ≡ marked_on number place (flat rs)
      go None l q =
          same_pairs rs i row now h (q ∙ ap (λ o. option_map_or (λ e. set_value (at number) (pairs_of row.value.items) (marked place e)) o (pairs_of row.value.items)) l)
          ∙ marked_none (flat rs) (lookup_in number rs i row s a h e ∙ l)
      go (Some x) l q =
          sym (set_in number rs i row now (marked place x) s a h e (sym (q ∙ ap (λ o. option_map_or (λ e. set_value (at number) (pairs_of row.value.items) (marked place e)) o (pairs_of row.value.items)) l)))
          ∙ sym (ap (λ o. option_map_or (λ e. set_value (at number) (flat rs) (marked place e)) o (flat rs)) (lookup_in number rs i row s a h e ∙ l))
