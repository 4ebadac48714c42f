use Rattle.std.proofs.Common.{◌∙◌, ◌+◌, ◌*◌, ◌-◌, ◌^◌, take, min, ap, sym}
use Rattle.std.specs.Char.{digit_value}
use Rattle.std.specs.Str.Parse.{digits_value}
use Rattle.lex_core.proofs.LexQuoted.{saturated-step, digits_value-more}
use Rattle.lex_core.proofs.quoted.digits_value.Goals as goal

pub loop-digit-preserved : goal.loop-digit-preserved
loop-digit-preserved c =
    let m = digits_value c.args.radix (take c.loop-digit.digit-index c.args.digits.now) in
    let digit = c.from-more.ensures ∙ c.digit_value.ensures.value ∙ ap digit_value c.from.ensures in
    saturated-step c.args.radix c.loop-digit.value m c.from-more.result c.saturating_mul.result c.saturating_add-value.result c.requires c.loop-digit.invariant
    (c.saturating_mul.ensures ∙ ap (λ n. min (c.loop-digit.value * n) (2 ^ 64 - 1)) c.from-in-loop-digit.ensures) c.saturating_add-value.ensures
    ∙ ap (λ n. min (2 ^ 64 - 1) (c.args.radix * m + n)) digit
    ∙ ap (min (2 ^ 64 - 1)) (sym (digits_value-more c.args.radix c.args.digits.now c.loop-digit.digit-index c.loop-digit-test.true))
