use Rattle.std.proofs.Common.{◌≡◌, take}
use Rattle.atom_words.specs.Texts.{fnv}
use Rattle.bucket_rows.proofs.rows.hash.Given as goal

abbrev pub invariant-loop-byte : goal.invariant-loop-byte
invariant-loop-byte l = l.hash ≡ fnv 14695981039346656037 (take l.byte-index l.text)
