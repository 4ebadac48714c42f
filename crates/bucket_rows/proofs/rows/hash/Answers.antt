use Rattle.std.proofs.Common.{◌≡◌, ◌<◌, ℕ, List, take, sym, ap, ◌∙◌, arith, take_all}
use Rattle.std.proofs.lemmas.List.{take_more}
use Rattle.atom_words.specs.Texts.{fnv_step, fnv}
use Rattle.bucket_rows.proofs.Hashing.{fnv_none, fnv_more}
use Rattle.bucket_rows.proofs.rows.hash.Goals as goal

pub loop-byte-init : goal.loop-byte-init
loop-byte-init c = sym (fnv_none 14695981039346656037)

pub loop-byte-preserved : goal.loop-byte-preserved
loop-byte-preserved c = let xs : List ℕ = c.args.text.now in let i : ℕ = c.loop-byte.byte-index in
    ap (λ (h : ℕ). fnv_step h (Rattle.std.proofs.Common.get_or xs i 0)) c.loop-byte.invariant ∙ sym (ap (fnv 14695981039346656037) (take_more xs i 0 (omega arith)) ∙ fnv_more 14695981039346656037 (take i xs) (Rattle.std.proofs.Common.get_or xs i 0))

pub returns : goal.returns
returns c = c.loop-byte.invariant ∙ ap (fnv 14695981039346656037) (take_all c.loop-byte.byte-index c.args.text.now (omega arith))
