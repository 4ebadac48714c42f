use Rattle.std.proofs.Common.{◌≡◌, ◌%◌, ◌+◌, ◌-◌, ◌^◌, ℕ, sym, ap, ◌∙◌, arith}
use Rattle.atom_words.specs.Texts.{row_of, bytes_of, fnv, bucket}
use Rattle.atom_words.proofs.RowBytes.{bytes_of-row_of}
use Rattle.bucket_rows.proofs.rows.bucket.Goals as goal

pub returns-clause-bucket : goal.returns-clause-bucket
unfolding bucket
returns-clause-bucket c = let bytes : bytes_of (row_of c.args.text.now) ≡ c.args.text.now = bytes_of-row_of c.args.text.now (λ i. omega (arith, c.type_inv.text i)) c.requires.short in
    let hash : fnv 14695981039346656037 (bytes_of (row_of c.args.text.now)) ≡ c.hash.result = ap (fnv 14695981039346656037) bytes ∙ sym c.hash.ensures in
    let heads : c.row_heads-heads.result ≡ 2 ^ c.args.row = c.row_heads-heads.ensures in
    (λ j. heads j - 256 + c.hash.result % heads j) ∙ ap (λ (n : ℕ). 2 ^ c.args.row - 256 + n % 2 ^ c.args.row) (sym hash)
