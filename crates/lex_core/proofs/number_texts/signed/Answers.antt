use Rattle.std.proofs.Common.{◌≡◌, drop, List, ℕ, sym, subst, ap, ◌∙◌, arith}
use Rattle.pl_model.specs.AtomBuiltins.{numeral_at, whole_numeral}
use Rattle.lex_core.specs.NumberTexts.{IsNumber, saturated_value}
use Rattle.lex_core.proofs.NumberLaws.{signed_minus}
use Rattle.lex_core.proofs.number_texts.signed.Goals as goal

pub returns-then-byte_at-eq45 : goal.returns-then-byte_at-eq45
returns-then-byte_at-eq45 c =
    let bs = c.args.bytes.now in
    subst (λ o. IsNumber o c.below_zero.result) (signed_minus bs (omega arith))
    (c.below_zero.ensures (whole_numeral (drop 1 bs) (numeral_at (drop 1 bs)))
    (c.whole_numeral.ensures ∙ ap (λ (xs : List ℕ). saturated_value (whole_numeral xs (numeral_at xs))) c.behind.ensures))
