use Rattle.std.proofs.Common.{Some, sym, ap, ◌∙◌}
use Rattle.builtin_atom.specs.Forms.{number_predicate}
use Rattle.builtin_atom.proofs.Fixed.{number_chars_is, number_codes_is}
use Rattle.builtin_atom.proofs.numbers.number_name.Goals as goal

pub returns-in-Characters : goal.returns-in-Characters
returns-in-Characters c = number_chars_is ∙ ap (λ f. Some (number_predicate f)) (sym c.in-Characters.is)

pub returns-in-Codes : goal.returns-in-Codes
returns-in-Codes c = number_codes_is ∙ ap (λ f. Some (number_predicate f)) (sym c.in-Codes.is)
