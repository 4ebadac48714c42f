-- What a read says of a file whose bytes are told.
use Rattle.std.specs.Prelude.{◌≡◌, ◌<◌, ◌≤◌, ◌↔◌, ◌-◌, ◌++◌, ℕ, List, length, take, drop}

-- The first `k` bytes of a buffer of this length are the file's from place `at` on, and there is none exactly at or
-- past the end of the file.
pub record Reads (bytes : List ℕ) (at k len : ℕ) (buffer : List ℕ) : Type 0 where
  pub in_file : k ≤ length bytes - at
  pub same : take k buffer ≡ take k (drop at bytes)
  pub at_end : 0 < len → ((k ≡ 0) ↔ (length bytes ≤ at))

-- `k` bytes of a file were put at the end of a list: those that come after as many as the list had. There is none
-- exactly at or past the end of the file.
pub record Continues (bytes : List ℕ) (k : ℕ) (old new : List ℕ) : Type 0 where
  pub longer : new ≡ old ++ take k (drop (length old) bytes)
  pub at_end : (k ≡ 0) ↔ (length bytes ≤ length old)
