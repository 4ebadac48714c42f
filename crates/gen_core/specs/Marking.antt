-- Erasures that are written among clauses on their numbers.
use Rattle.std.specs.Prelude.{ℕ, List}
use Rattle.std.specs.Option.{option_map_or}
use Rattle.std.specs.Ordering.{nat_cmp}
use Rattle.std.specs.Map.{lookup, set_value}
use Rattle.std.specs.BTreeMap.{is_at}
use Rattle.gen_core.specs.declared.clause_index.Entry.{Entry}
use Rattle.gen_core.specs.declared.number_map.Item.{Item}
use Rattle.gen_core.specs.ClauseIndex.{marked, marked_all}

module _ {C K : Type 0} where
  -- The entry on the number is erased at the place, if there is one.
  abbrev pub marked_on : ℕ → ℕ → List (ℕ × Entry C K) → List (ℕ × Entry C K)
  marked_on number place es = option_map_or (λ e. set_value (is_at (nat_cmp number)) es (marked place e)) (lookup (is_at (nat_cmp number)) es) es

  -- The item, erased at the place if it was not erased before.
  abbrev pub item_marked : ℕ → Item (Entry C K) → Item (Entry C K)
  item_marked place x = record x { value = marked_all place x.value }
