use Rattle.std.proofs.Common.{Some, sym, ap, ◌∙◌}
use Rattle.builtin_atom.specs.Forms.{atom_predicate}
use Rattle.builtin_atom.proofs.Fixed.{atom_chars_is, atom_codes_is}
use Rattle.builtin_atom.proofs.spelling.name_of.Goals as goal

pub returns-in-Characters : goal.returns-in-Characters
returns-in-Characters c = atom_chars_is ∙ ap (λ f. Some (atom_predicate f)) (sym c.in-Characters.is)

pub returns-in-Codes : goal.returns-in-Codes
returns-in-Codes c = atom_codes_is ∙ ap (λ f. Some (atom_predicate f)) (sym c.in-Codes.is)
