use Rattle.std.proofs.Common.{◌∙◌, ◌&&◌, Bool, refl, sym, ap, codes, slice_index}
use Rattle.std.specs.Char.{is_ascii_digit}
use Rattle.prolog_reader.proofs.NameTexts.{same_name, other_name, chars-minus}
use Rattle.prolog_reader.proofs.ahead.is_minus.Goals as goal

pub returns-then-is : goal.returns-then-is
returns-then-is c =
    c.is_digit.ensures
    ∙ sym (ap (λ (b : Bool). b && is_ascii_digit (slice_index c.args.text.now c.args.at))
    (same_name c.args.name.now (codes "-") (c.if-is.ensures.0 refl ∙ chars-minus)))

pub returns-else-is : goal.returns-else-is
returns-else-is c =
    c.if-is.false
    ∙ sym (ap (λ (b : Bool). b && is_ascii_digit (slice_index c.args.text.now c.args.at))
    (other_name c.args.name.now (codes "-") (λ e. let h = c.if-is.ensures.1 (e ∙ sym chars-minus) in cc)))
