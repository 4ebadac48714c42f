-- Where procedures stand, by hashes of their predicates.
use Rattle.std.specs.Prelude.{◌≡◌, ℕ, ◌*◌, ◌%◌, ◌^◌, ◌==◌, ◌||◌, nat_eq, bit_xor, encode_utf8_all, Bool, false, List, [], ◌∷◌}
use Rattle.std.specs.List.{list_any, slice_get}
use Rattle.std.specs.Option.{option_map_or}
use Rattle.std.specs.HashMap as table
use Rattle.pl_model.specs.History.{Proc}
use Rattle.clause_db.specs.declared.index.Places.{Places}
use Rattle.clause_db.specs.declared.index.Index.{Index}

-- The hash of some bytes after that of others, by Fowler, Noll and Vo.
abbrev pub hash_on : ℕ → List ℕ → ℕ
hash_on before [] = before
hash_on before (b ∷ bs) = hash_on ((bit_xor before b * 1099511628211) % 2 ^ 64) bs

abbrev pub hash_of : Proc → ℕ
hash_of p = hash_on (bit_xor p.arity 14695981039346656037) (encode_utf8_all p.name)

-- Whether the place is one of these.
abbrev pub is_in : Places → ℕ → Bool
is_in s q = (q == s.one) || list_any (λ r. q == r) s.others.items

-- Whether the place is listed under the hash.
abbrev pub is_listed : Index → ℕ → ℕ → Bool
is_listed ix k q = option_map_or (λ s. is_in s q) (table.get nat_eq ix.by_hash k) false

-- Whether a predicate with this hash stands at the place.
abbrev pub stands_under : ℕ → ℕ → List Proc → Bool
stands_under k q ps = option_map_or (λ p. k == hash_of p) (slice_get ps q) false

-- The places of these predicates are listed, each under its hash, and no other place under any.
pub record Indexed (ix : Index) (ps : List Proc) : Type 0 where
  pub exactly : (k q : ℕ) → is_listed ix k q ≡ stands_under k q ps
