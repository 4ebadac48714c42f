use Rattle.std.proofs.Common.{◌≡◌, take, drop}
use Rattle.atom_words.specs.Texts.{unpacks, fnv}
use Rattle.bucket_rows.proofs.spells.row_bucket.Given as goal

abbrev pub invariant-loop-i : goal.invariant-loop-i
invariant-loop-i l = l.hash ≡ fnv 14695981039346656037 (take l.i (unpacks (drop 1 l.row)))
