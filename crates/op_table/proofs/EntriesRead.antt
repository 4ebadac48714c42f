-- The entry at a place, from the operator that is read there.
use Rattle.std.proofs.Common.{◌≡◌, [], ◌∷◌, ℕ, ◌+◌, ◌<◌, List, length, get_or, Bool, true, false, Some, refl, sym, ap, subst, ◌∙◌}
use Rattle.std.specs.Prelude.{T, ◌==◌}
use Rattle.std.specs.List.{slice_get, list_all}
use Rattle.std.proofs.lemmas.Bool.{and_from, eq-eqb}
use Rattle.std.specs.Option.{option_map}
use Rattle.std.specs.FinMap.{is_sorted, entries-from_sorted}
use Rattle.std.specs.declared.cmp.Ordering.TheVariants.{Less, Equal, Greater}
use Rattle.std.proofs.lemmas.Option.{slice_get-map, slice_get_read, same_Some}
use Rattle.std.proofs.lemmas.List.{length-map}
use Rattle.pl_model.specs.OperatorTable.{Key, Entry, key_order, place_of, place_rank, is_placed}
use Rattle.op_table.specs.declared.operator.Operator.{Operator}
use Rattle.op_table.specs.Entries.{entries_of, entry_of, key_of, table_of, InOrder}
use Rattle.op_table.specs.Searching.{AllBefore, AllBehind, Found}
use Rattle.pl_model.proofs.KeyOrder.{key_order_total}
use Rattle.op_table.proofs.Ordered.{before_more, behind_more}

pub sorted_from_order : (os : List Operator) → InOrder os → T (is_sorted key_order (entries_of os))
sorted_from_order os h = subst T (sym h) tt

order_test : (b : Bool) → T b → b ≡ true
order_test true t = refl
order_test false t = absurd t

pub order_from_sorted : (os : List Operator) (es : List (Key × Entry))
    → entries_of os ≡ es
    → T (is_sorted key_order es)
    → InOrder os
order_from_sorted os es is h =
    ap (is_sorted key_order) is ∙ order_test (is_sorted key_order es) h

pub entry_at : (os : List Operator) (i : ℕ) (o : Operator)
    → i < length os
    → o ≡ get_or os i o
    → slice_get (entries_of os) i ≡ Some (entry_of o)
entry_at os i o l is =
    slice_get-map entry_of os i ∙ ap (option_map entry_of) (slice_get_read os (length os) i o refl l is)

module _ (os : List Operator) (h : InOrder os) (k : Key) (i : ℕ) (o : Operator) (l : i < length os) (is : o ≡ get_or os i o) where
  pub search_before : key_order k (key_of o) ≡ Greater → AllBefore k (entries_of os) (i + 1)
  search_before above = before_more key_order key_order_total k (entries_of os) i (entry_of o) (sorted_from_order os h) (entry_at os i o l is) above

  pub search_behind : key_order k (key_of o) ≡ Less → AllBehind k (entries_of os) i
  search_behind below = behind_more key_order key_order_total k (entries_of os) i (entry_of o) (sorted_from_order os h) (entry_at os i o l is) below

  pub search_found : key_order k (key_of o) ≡ Equal → Found k (entries_of os) i
  search_found tied = record {
    within = subst (λ (n : ℕ). i < n) (sym (length-map os entry_of)) l;
    here = λ e g. subst (λ (y : Key × Entry). key_order k y.0 ≡ Equal) (same_Some (entry_of o) e (sym (entry_at os i o l is) ∙ g)) tied;
  }

-- Each operator stands at the place of its kind.
placed_entries : (os : List Operator) → list_all (λ (e : Key × Entry). place_rank (place_of e.1.1) == place_rank e.0.1) (entries_of os) ≡ true
placed_entries [] = refl
placed_entries (o ∷ os) = and_from _ _ (eq-eqb (place_rank (place_of o.kind)) (place_rank (place_of o.kind)) refl) (placed_entries os)

pub placed : (os : List Operator) → InOrder os → is_placed (table_of os) ≡ true
placed os h =
    ap
    (list_all (λ (e : Key × Entry). place_rank (place_of e.1.1) == place_rank e.0.1))
    (entries-from_sorted key_order (entries_of os) (sorted_from_order os h))
    ∙ placed_entries os
