-- Fronts of a list that grow piece by piece.
use Rattle.std.proofs.Common.{◌≡◌, ℕ, ◌+◌, ◌-◌, ◌≤◌, List, ◌++◌, length, take, drop, sym, ◌∙◌, ap, append_assoc, arith}
use Rattle.std.proofs.lemmas.List.{take_rest, take_all}
use Rattle.std.proofs.Math.Seq.{take-add}
use Rattle.pl_io.specs.Reading.{Continues}

-- the front of `text` up to `at`, and then `k` of what is left: the front up to `at + k`
pub next_front : (before text : List ℕ) (at k : ℕ)
    → (before ++ take at text) ++ take k (take (length text - at) (drop at text)) ≡ before ++ take (at + k) text
next_front before text at k =
    rw (take_rest text at, append_assoc, take-add at k text)

-- a front of a file, and `k` bytes of the file after it: a longer front
pub longer_front : (bytes old new : List ℕ) (m n k : ℕ)
    → old ≡ take m bytes
    → m ≡ length old
    → n ≡ m + k
    → Continues bytes k old new
    → new ≡ take n bytes
longer_front bytes old new m n k front is_length is_sum next =
    next.longer
    ∙ ap (λ (at : ℕ). old ++ take k (drop at bytes)) (sym is_length)
    ∙ ap (λ (xs : List ℕ). xs ++ take k (drop m bytes)) front
    ∙ sym (take-add m k bytes)
    ∙ ap (λ (i : ℕ). take i bytes) (sym is_sum)

-- a front that reaches the end of the file is as long as any longer front
pub front_to_end : (bytes all : List ℕ) (m n : ℕ)
    → all ≡ take m bytes
    → length bytes ≤ m
    → m ≤ n
    → all ≡ take n bytes
front_to_end bytes all m n front at_end longer =
    front ∙ take_all m bytes at_end ∙ sym (take_all n bytes (omega arith))
