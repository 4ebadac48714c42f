-- What a look-up, an edit, an insertion and a removal of operators in order are of the finite map.
use Rattle.std.proofs.Common.{◌≡◌, ℕ, suc, ◌<◌, List, ◌∷◌, ◌++◌, length, get_or, set, take, drop, Some, None, sym, ap, subst, ◌∙◌}
use Rattle.std.specs.Prelude.{map, not}
use Rattle.std.specs.List.{slice_get, insert, remove}
use Rattle.std.specs.Ordering.{eq_by_cmp}
use Rattle.std.proofs.lemmas.List.{take-map, drop-map, map-append, map-set, length-map}
use Rattle.std.specs.FinMap as finite
use Rattle.std.specs.FinMap.{get-from_sorted}
use Rattle.std.specs.FinMap.Entries.{put, where_key, is_sorted-put, is_sorted-where_key}
use Rattle.pl_model.specs.OperatorTable.{Key, Entry, key_order}
use Rattle.op_table.specs.declared.operator.Operator.{Operator}
use Rattle.op_table.specs.Entries.{entries_of, entry_of, key_of, table_of, InOrder}
use Rattle.op_table.specs.Searching.{Found, Gap}
use Rattle.pl_model.proofs.KeyOrder.{key_order_total, key_order_exact}
use Rattle.op_table.proofs.EntriesRead.{entry_at, sorted_from_order, order_from_sorted}
use Rattle.op_table.proofs.Ordered.{find-found, find-gap, put-found, put-gap, drop-found, drop-gap}
use Rattle.op_table.proofs.Tables.{from_put, from_drop}

entries_of-insert : (os : List Operator) (i : ℕ) (o : Operator) → entries_of (insert os i o) ≡ insert (entries_of os) i (entry_of o)
entries_of-insert os i o =
    map-append entry_of (take i os) (o ∷ drop i os)
    ∙ ap (λ (xs : List (Key × Entry)). xs ++ entry_of o ∷ map entry_of (drop i os)) (sym (take-map entry_of i os))
    ∙ ap (λ (xs : List (Key × Entry)). take i (entries_of os) ++ entry_of o ∷ xs) (sym (drop-map entry_of i os))

entries_of-remove : (os : List Operator) (i : ℕ) → entries_of (remove os i) ≡ remove (entries_of os) i
entries_of-remove os i =
    map-append entry_of (take i os) (drop (suc i) os)
    ∙ ap (λ (xs : List (Key × Entry)). xs ++ map entry_of (drop (suc i) os)) (sym (take-map entry_of i os))
    ∙ ap (λ (xs : List (Key × Entry)). take i (entries_of os) ++ xs) (sym (drop-map entry_of (suc i) os))

module _ (os : List Operator) (h : InOrder os) (k : Key) where
  abbrev others : List (Key × Entry)
  others = where_key key_order (λ x. not (eq_by_cmp key_order k x)) (entries_of os)

  module _ (i : ℕ) (found : Found k (entries_of os) i) where
    within : i < length os
    within = subst (λ (n : ℕ). i < n) (length-map os entry_of) found.within

    module _ (o : Operator) (is : o ≡ get_or os i o) where
      here : slice_get (entries_of os) i ≡ Some (entry_of o)
      here = entry_at os i o within is

      pub looked_up : Some (o.priority, o.kind) ≡ finite.get (table_of os) k
      looked_up =
          sym (
          get-from_sorted key_order (entries_of os) k (sorted_from_order os h)
          ∙ find-found key_order key_order_total k (entries_of os) i (entry_of o) (sorted_from_order os h) here (found.here (entry_of o) here)
          )

      pub same_key : k ≡ key_of o
      same_key = key_order_exact k (key_of o) (found.here (entry_of o) here)

      removed : entries_of (remove os i) ≡ others
      removed =
          entries_of-remove os i
          ∙ sym (drop-found key_order key_order_total k (entries_of os) i (entry_of o) (sorted_from_order os h) here (found.here (entry_of o) here))

      pub removed_in_order : InOrder (remove os i)
      removed_in_order =
          order_from_sorted (remove os i) others removed (is_sorted-where_key key_order (λ x. not (eq_by_cmp key_order k x)) (entries_of os) (sorted_from_order os h))

      pub removed_table : table_of (remove os i) ≡ finite.remove (table_of os) k
      removed_table =
          ap (finite.from_sorted {R = key_order}) removed
          ∙ from_drop key_order key_order_total key_order_exact (entries_of os) (sorted_from_order os h) k

      module _ (new : Operator) (v : Entry) (is_entry : entry_of new ≡ (k, v)) where
        edited : entries_of (set os i new) ≡ put key_order k v (entries_of os)
        edited =
            map-set entry_of os i new
            ∙ ap (set (entries_of os) i) (is_entry ∙ ap (λ (x : Key). (x, v)) same_key)
            ∙ sym (put-found key_order key_order_total k v (entries_of os) i (entry_of o) (sorted_from_order os h) here (found.here (entry_of o) here))

        pub edited_in_order : InOrder (set os i new)
        edited_in_order =
            order_from_sorted (set os i new) (put key_order k v (entries_of os)) edited (is_sorted-put key_order key_order_total k v (entries_of os) (sorted_from_order os h))

        pub edited_table : table_of (set os i new) ≡ finite.insert (table_of os) k v
        edited_table =
            ap (finite.from_sorted {R = key_order}) edited
            ∙ from_put key_order key_order_total key_order_exact (entries_of os) (sorted_from_order os h) k v

  module _ (i : ℕ) (gap : Gap k (entries_of os) i) where
    pub not_found : None ≡ finite.get (table_of os) k
    not_found =
        sym (
        get-from_sorted key_order (entries_of os) k (sorted_from_order os h)
        ∙ find-gap key_order k (entries_of os) i gap.before gap.behind
        )

    pub nothing_removed : table_of os ≡ finite.remove (table_of os) k
    nothing_removed =
        ap (finite.from_sorted {R = key_order}) (sym (drop-gap key_order k (entries_of os) i gap.before gap.behind))
        ∙ from_drop key_order key_order_total key_order_exact (entries_of os) (sorted_from_order os h) k

    module _ (new : Operator) (v : Entry) (is_entry : entry_of new ≡ (k, v)) where
      inserted : entries_of (insert os i new) ≡ put key_order k v (entries_of os)
      inserted =
          entries_of-insert os i new
          ∙ ap (insert (entries_of os) i) is_entry
          ∙ sym (put-gap key_order k v (entries_of os) i gap.within gap.before gap.behind)

      pub inserted_in_order : InOrder (insert os i new)
      inserted_in_order =
          order_from_sorted (insert os i new) (put key_order k v (entries_of os)) inserted (is_sorted-put key_order key_order_total k v (entries_of os) (sorted_from_order os h))

      pub inserted_table : table_of (insert os i new) ≡ finite.insert (table_of os) k v
      inserted_table =
          ap (finite.from_sorted {R = key_order}) inserted
          ∙ from_put key_order key_order_total key_order_exact (entries_of os) (sorted_from_order os h) k v
