-- The 32 words of a text, and the bucket of a text.
use Rattle.std.specs.Prelude.{◌≡◌, ◌≤◌, replicate, ℕ, zero, suc, ◌+◌, ◌-◌, ◌*◌, ◌/◌, ◌%◌, ◌^◌, List, [], ◌∷◌, ◌++◌, length, get_or, take, drop, bit_xor}

-- eight bytes, lowest first, where 0 stands for those that are not there
abbrev pub packed : List ℕ → ℕ
packed bs = get_or bs 0 0 + 256 * get_or bs 1 0 + 65536 * get_or bs 2 0 + 16777216 * get_or bs 3 0 + 4294967296 * get_or bs 4 0 + 1099511627776 * get_or bs 5 0 + 281474976710656 * get_or bs 6 0 + 72057594037927936 * get_or bs 7 0

abbrev pub packs : ℕ → List ℕ → List ℕ
packs zero bs = []
packs (suc n) bs = packed bs ∷ packs n (drop 8 bs)

-- The words of a text row: the length in bytes, then eight bytes a word
unfoldable pub row_of : List ℕ → List ℕ
row_of bs = length bs ∷ packs 31 bs

-- how many of its words a text of so many bytes fills, with the one of its length; the words behind those are 0
abbrev pub filled : ℕ → ℕ
filled n = 1 + (n + 7) / 8

abbrev pub Formed : List ℕ → Type 0
Formed row = (i : ℕ) → filled (get_or row 0 0) ≤ i → get_or row i 0 ≡ 0

-- the 32 words of which these are the first ones, where the others are 0
abbrev pub padded : List ℕ → List ℕ
padded ws = ws ++ replicate (32 - length ws) 0

abbrev pub bytes_of_word : ℕ → ℕ → List ℕ
bytes_of_word zero w = []
bytes_of_word (suc n) w = w % 256 ∷ bytes_of_word n (w / 256)

-- FNV-1a, 64 bits: the hash of n bytes that stand eight a word, from the hash h on
abbrev pub fnv_step : ℕ → ℕ → ℕ
fnv_step h b = bit_xor h b * 1099511628211 % 2 ^ 64

unfoldable pub fnv : ℕ → List ℕ → ℕ
fnv h [] = h
fnv h (b ∷ bs) = fnv (fnv_step h b) bs

abbrev pub unpacks : List ℕ → List ℕ
unpacks [] = []
unpacks (w ∷ ws) = bytes_of_word 8 w ++ unpacks ws

-- The bytes that a text row stands for
unfoldable pub bytes_of : List ℕ → List ℕ
bytes_of row = take (get_or row 0 0) (unpacks (drop 1 row))

-- The bucket of a text, as a head's number, where the row has 2 ^ size heads: the rows of all sizes stand one after the other, from 256 heads on
unfoldable pub bucket : ℕ → List ℕ → ℕ
bucket size row = 2 ^ size - 256 + fnv 14695981039346656037 (bytes_of row) % 2 ^ size
