use Rattle.std.proofs.Common.{◌≡◌, ◌<◌, ◌≤◌, ℕ, zero, suc, ◌+◌, ◌-◌, ◌*◌, ◌/◌, List, length, get_or, replicate, refl, sym, ◌∙◌, arith}
use mathlib.Core.Logic.{dite}
use native.Mathlib.Decide.{dec_le}
use Rattle.std.proofs.lemmas.Grind.{same_number_lists}
use Rattle.std.proofs.lemmas.List.{at_drop_all}
use Rattle.atom_words.specs.Texts.{packed, row_of}
use Rattle.atom_words.proofs.Putting.{row_length, row_word_is}
use Rattle.bucket_rows.proofs.rows.text_row.Goals as goal

-- the words behind the text are 0
behind : (bs : List ℕ) (k : ℕ) → k < 32 → 1 + (length bs + 7) / 8 ≤ k → get_or (row_of bs) k 0 ≡ 0
behind bs k low past = row_word_is bs k low (λ none. omega arith) ∙ at_drop_all packed bs (8 * (k - 1)) (omega arith)

blank : (n i : ℕ) → get_or {A = ℕ} (replicate n 0) i 0 ≡ 0
blank zero i = refl
blank (suc n) zero = refl
blank (suc n) (suc i) = blank n i

pub loop-i-init : goal.loop-i-init
loop-i-init c = (refl, (λ k h. absurd (omega arith)), λ k h. blank 32 k)

pub returns : goal.returns
returns c = let bs : List ℕ = c.args.text.now in let n = row_length bs in let m = c.loop-i.invariant.0 in let over : 1 + (length bs + 7) / 8 ≤ c.loop-i.i = omega (arith, c.loop-i-test.false) in
    same_number_lists c.loop-i.row (row_of bs) (m ∙ sym n) (λ k h. dite (dec_le c.loop-i.i k)
    (λ (late : c.loop-i.i ≤ k). c.loop-i.invariant.2 k late ∙ sym (behind bs k (omega arith) (omega arith)))
    (λ (early : ¬ (c.loop-i.i ≤ k)). c.loop-i.invariant.1 k (omega arith)))
