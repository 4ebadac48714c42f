-- Variables found by the hashes of their names.
use Rattle.std.specs.Prelude.{◌≡◌, ℕ, ◌≤◌, ◌*◌, ◌%◌, ◌^◌, Bool, false, List, [], ◌∷◌, Some, map, nat_eq, bit_xor, encode_utf8_all}
use Rattle.std.specs.List.{slice_get}
use Rattle.std.specs.Option.{IfSome}
use Rattle.std.specs.HashMap as table
use Rattle.std.specs.HashMap.{HashMap}
use Rattle.pl_term.specs.Tree.{Chars}
use Rattle.prolog_reader.specs.declared.names.NamedVariable.{NamedVariable}

-- The names with their numbers, as the grammar has them.
abbrev pub pairs : List NamedVariable → List (Chars × ℕ)
pairs ns = map (λ n. (n.name, n.variable)) ns

-- The hash of some bytes after that of others, by Fowler, Noll and Vo.
abbrev pub hash_on : ℕ → List ℕ → ℕ
hash_on before [] = before
hash_on before (b ∷ bs) = hash_on ((bit_xor before b * 1099511628211) % 2 ^ 64) bs

abbrev pub hash_of : Chars → ℕ
hash_of name = hash_on 14695981039346656037 (encode_utf8_all name)

-- The variables behind the first ones are found by the hashes of their names, unless two have the same hash.
abbrev pub IsFound : {S : Type 0} → List NamedVariable → HashMap ℕ ℕ S → Bool → Type 0
IsFound ns by_hash clash = clash ≡ false → (i : ℕ) → 16 ≤ i → IfSome (slice_get ns i) (λ n. table.get nat_eq by_hash (hash_of n.name) ≡ Some i)
