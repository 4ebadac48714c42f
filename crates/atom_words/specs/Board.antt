-- The words of a table, by region.
use Rattle.std.specs.Prelude.{◌≡◌, ◌==◌, nat_lt, if◌then◌else◌, ℕ, zero, suc, ◌+◌, ◌-◌, ◌*◌, ◌/◌, ◌%◌, ◌<◌, List, [], ◌∷◌, ◌++◌, length, take, drop, replicate, set, slice_index}
use Rattle.atom_words.specs.declared.size.Size.{Size}

pub record Board : Type 0 where
  pub epoch : ℕ
  -- the binary logarithm of the number of buckets
  pub row : ℕ
  -- for each engine the last epoch that it acknowledged
  pub acks : List ℕ
  -- for each slot its state, mark and count
  pub atoms : List ℕ
  -- for each slot 0, or 1 more than the slot after it in its chain
  pub links : List ℕ
  -- for each bucket its first slot, whether it is closed, and its version
  pub heads : List ℕ
  -- for each slot the 32 words of its text
  pub texts : List ℕ

-- the words f n, f (n + 1) and so on, m of them
abbrev pub spread : (ℕ → ℕ) → ℕ → ℕ → List ℕ
spread f n zero = []
spread f n (suc m) = f n ∷ spread f (n + 1) m

-- Eight words of each slot stand together, since they are read most: its atom word, its link word, and the first six words of its text, which a text of at most 40 bytes does not pass
abbrev pub near_word : Board → ℕ → ℕ
near_word b i = if i % 8 == 0 then slice_index b.atoms (i / 8) else (if i % 8 == 1 then slice_index b.links (i / 8) else slice_index b.texts (32 * (i / 8) + (i % 8 - 2)))

-- the other 26 words of its text stand apart
abbrev pub far_word : Board → ℕ → ℕ
far_word b i = slice_index b.texts (32 * (i / 26) + (i % 26 + 6))

-- how many words are left out, so that the number of words before those of the first slot leaves 6 by 8: where the memory of the table begins 16 bytes behind the start of a line of 64 bytes, the eight words of a slot are one line
abbrev pub gap : Size → ℕ
gap z = (4 + 7 * (z.engines + z.heads)) % 8

-- THE ORDER IN WHICH THEY LIE
abbrev pub laid : Size → Board → List ℕ
laid z b = (b.epoch ∷ b.row ∷ b.acks) ++ (b.heads ++ (replicate (gap z) 0 ++ (spread (near_word b) 0 (8 * z.slots) ++ spread (far_word b) 0 (26 * z.slots))))

pub record Sized (z : Size) (b : Board) : Type 0 where
  -- a slot's number plus one fits the 21 bits of a head
  pub small : z.slots + 1 < 2097152
  pub acks : length b.acks ≡ z.engines
  pub atoms : length b.atoms ≡ z.slots
  pub links : length b.links ≡ z.slots
  pub heads : length b.heads ≡ z.heads
  pub texts : length b.texts ≡ 32 * z.slots

abbrev pub word_count : Size → ℕ
word_count z = 2 + z.engines + z.heads + gap z + 8 * z.slots + 26 * z.slots

-- where each word stands
abbrev pub ack_at : Size → ℕ → ℕ
ack_at z e = 2 + e

abbrev pub head_at : Size → ℕ → ℕ
head_at z h = 2 + z.engines + h

-- the first word of the first slot
abbrev pub near_at : Size → ℕ
near_at z = 2 + z.engines + z.heads + gap z

abbrev pub atom_at : Size → ℕ → ℕ
atom_at z k = near_at z + 8 * k

abbrev pub link_at : Size → ℕ → ℕ
link_at z k = near_at z + 8 * k + 1

-- the word n of the text of the slot k
abbrev pub text_at : Size → ℕ → ℕ → ℕ
text_at z k n = if nat_lt n 6 then near_at z + 8 * k + n + 2 else near_at z + 8 * z.slots + 26 * k + (n - 6)

abbrev pub atom : Board → ℕ → ℕ
atom b k = slice_index b.atoms k

abbrev pub link : Board → ℕ → ℕ
link b k = slice_index b.links k

abbrev pub head : Board → ℕ → ℕ
head b h = slice_index b.heads h

-- the text of a slot: its 32 words
abbrev pub text_of : List ℕ → ℕ → List ℕ
text_of texts k = take 32 (drop (32 * k) texts)

abbrev pub with_epoch : Board → ℕ → Board
with_epoch b x = record b { epoch = x }

abbrev pub with_row : Board → ℕ → Board
with_row b r = record b { row = r }

abbrev pub with_ack : Board → ℕ → ℕ → Board
with_ack b e x = record b { acks = set b.acks e x }

abbrev pub with_atom : Board → ℕ → ℕ → Board
with_atom b k x = record b { atoms = set b.atoms k x }

abbrev pub with_link : Board → ℕ → ℕ → Board
with_link b k x = record b { links = set b.links k x }

abbrev pub with_head : Board → ℕ → ℕ → Board
with_head b h x = record b { heads = set b.heads h x }

abbrev pub with_text : Board → ℕ → ℕ → Board
with_text b i x = record b { texts = set b.texts i x }
