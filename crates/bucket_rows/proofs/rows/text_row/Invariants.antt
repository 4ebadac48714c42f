use Rattle.std.proofs.Common.{◌≡◌, ℕ, ◌<◌, ◌≤◌, length, get_or}
use Rattle.atom_words.specs.Texts.{row_of}
use Rattle.bucket_rows.proofs.rows.text_row.Given as goal

abbrev pub invariant-loop-i : goal.invariant-loop-i
invariant-loop-i l = (length l.row ≡ 32) × ((k : ℕ) → k < l.i → get_or l.row k 0 ≡ get_or (row_of l.text) k 0) × ((k : ℕ) → l.i ≤ k → get_or l.row k 0 ≡ 0)
