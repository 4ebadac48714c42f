use Rattle.std.proofs.Common.{◌≡◌, ℕ, ◌+◌, ◌-◌, ◌*◌, ◌/◌, ◌%◌, ◌^◌, ◌<◌, ◌≤◌, List, length, get_or, take, drop, sym, ap, ◌∙◌, arith, take_all, length-drop, get_or-drop}
use Rattle.std.proofs.lemmas.List.{take_more}
use mathlib.Core.Logic.{dite}
use native.Mathlib.Decide.{dec_le}
use Rattle.atom_words.specs.Texts.{unpacks, bytes_of, fnv_step, fnv, bucket}
use Rattle.bucket_rows.proofs.Hashing.{fnv_none, fnv_more}
use Rattle.bucket_rows.proofs.RowBuckets.{unpacks_length, byte_at}
use Rattle.bucket_rows.proofs.spells.row_bucket.Goals as goal

-- the words of a row after the first have 248 bytes
wide : (row : List ℕ) → length row ≡ 32 → length (unpacks (drop 1 row)) ≡ 248
wide row h = unpacks_length (drop 1 row) ∙ (let l = length-drop 1 row in omega arith)

pub loop-i-init : goal.loop-i-init
loop-i-init c = sym (fnv_none 14695981039346656037)

pub loop-i-preserved : goal.loop-i-preserved
loop-i-preserved c = let row : List ℕ = c.args.row.now in let i : ℕ = c.loop-i.i in let xs : List ℕ = unpacks (drop 1 row) in let all : length row ≡ 32 = c.told-row in let low : i < c.at_most_248-bytes.result = c.loop-i-test.true in let most = c.at_most_248-bytes.ensures.most in
    let long : length xs ≡ 248 = wide row all in let words : length (drop 1 row) ≡ 31 = length-drop 1 row ∙ omega arith in
    let byte : get_or xs i 0 ≡ get_or row (1 + i / 8) 0 / 2 ^ (8 * (i % 8)) % 256 = byte_at (drop 1 row) i (omega arith) ∙ ap (λ (w : ℕ). w / 2 ^ (8 * (i % 8)) % 256) (get_or-drop 1 row (i / 8) 0) in
    (λ j. fnv_step (c.loop-i.invariant j) (sym byte j)) ∙ sym (ap (fnv 14695981039346656037) (take_more xs i 0 (omega arith)) ∙ fnv_more 14695981039346656037 (take i xs) (get_or xs i 0))

pub returns-clause-bucket : goal.returns-clause-bucket
unfolding bucket bytes_of
returns-clause-bucket c = let row : List ℕ = c.args.row.now in let n : ℕ = get_or row 0 0 in let i : ℕ = c.loop-i.i in let xs : List ℕ = unpacks (drop 1 row) in let all : length row ≡ 32 = c.told-row in let long : length xs ≡ 248 = wide row all in
    let m = c.at_most_248-bytes.ensures in let end : i ≡ c.at_most_248-bytes.result = (let a = c.loop-i-test.false in let b = c.loop-i.auto.i-end in omega arith) in
    let bytes : take i xs ≡ take n xs = dite (dec_le n 248)
    (λ (few : n ≤ 248). ap (λ (k : ℕ). take k xs) (end ∙ m.fewer few))
    (λ (over : ¬ (n ≤ 248)). take_all i xs (let is = m.more (omega arith) in omega arith) ∙ sym (take_all n xs (omega arith))) in
    let heads : c.row_heads-heads.result ≡ 2 ^ c.args.size = c.row_heads-heads.ensures in
    (λ j. heads j - 256 + c.loop-i.hash % heads j) ∙ ap (λ (h : ℕ). 2 ^ c.args.size - 256 + h % 2 ^ c.args.size) (c.loop-i.invariant ∙ ap (fnv 14695981039346656037) bytes)
