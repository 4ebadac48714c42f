use Rattle.std.proofs.Common.{w64, ap, ◌∙◌}
use Rattle.std.specs.Fmt.{signed_decimal}
use Rattle.std.proofs.lemmas.Int.{to_z-of_z}
use Rattle.std.proofs.lemmas.Str.{chars-IsAscii}
use Rattle.builtin_atom.proofs.Rows.{with_ok}
use Rattle.builtin_atom.proofs.characters.integer_characters.Goals as goal

pub returns : goal.returns
returns c =
    with_ok _ _ c.characters.result
    (λ v e. e ∙ chars-IsAscii c.format.result.now c.format.ensures.ascii ∙ c.format.ensures.text ∙ ap signed_decimal (to_z-of_z w64 c.args.i c.ranges.i))
    c.characters.ensures
