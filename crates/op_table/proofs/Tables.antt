-- What a change of the entries in order is of the finite map.
use Rattle.std.proofs.Common.{◌≡◌, Bool, true, false, cond, List, Option, None, refl, sym, ap, ◌∙◌}
use Rattle.std.specs.Prelude.{not, T}
use Rattle.std.specs.Ordering.{is_eq, eq_by_cmp}
use Rattle.std.specs.Cmp.{IsTotalOrder, alike_right, eq_by_cmp_equiv}
use Rattle.std.specs.declared.cmp.Ordering.{Ordering}
use Rattle.std.specs.FinMap as finite
use Rattle.std.specs.FinMap.{IsAntisymmetric, from_sorted, entries-from_sorted, get-from_sorted, get-remove, entries-insert, same_entries_map, same_map}
use Rattle.std.specs.FinMap.Entries.{find, put, is_sorted, where_key, is_sorted-put, is_sorted-where_key, find-where_key}

turned : {A : Type 0} (b : Bool) (x y : A) → cond (not b) x y ≡ cond b y x
turned true x y = refl
turned false x y = refl

module _ {K X : Type 0} (R : K → K → Ordering) (o : IsTotalOrder R) (exact : IsAntisymmetric R) (es : List (K × X)) (h : T (is_sorted R es)) (k : K) where
  pub from_put : (v : X) → from_sorted {R = R} (put R k v es) ≡ finite.insert (from_sorted {R = R} es) k v
  from_put v =
      same_entries_map _ _ (
      entries-from_sorted R (put R k v es) (is_sorted-put R o k v es h)
      ∙ ap (put R k v) (sym (entries-from_sorted R es h))
      ∙ sym (entries-insert o (from_sorted {R = R} es) k v)
      )

  abbrev others : K → Bool
  others x = not (eq_by_cmp R k x)

  found_other : (q : K) → find R q (where_key R others es) ≡ cond (eq_by_cmp R q k) None (find R q es)
  found_other q =
      find-where_key R others q (λ x t. ap (λ (r : Ordering). not (is_eq r)) (sym (alike_right o q x k t))) es
      ∙ turned (eq_by_cmp R k q) (find R q es) None
      ∙ ap (λ (b : Bool). cond b None (find R q es)) ((eq_by_cmp_equiv o).symm k q)

  pub from_drop : from_sorted {R = R} (where_key R (λ x. not (eq_by_cmp R k x)) es) ≡ finite.remove (from_sorted {R = R} es) k
  from_drop =
      same_map o exact _ _ (λ q.
      get-from_sorted R (where_key R others es) q (is_sorted-where_key R others es h)
      ∙ found_other q
      ∙ ap (λ (r : Option X). cond (eq_by_cmp R q k) None r) (sym (get-from_sorted R es q h))
      ∙ sym (get-remove o (from_sorted {R = R} es) k q))
