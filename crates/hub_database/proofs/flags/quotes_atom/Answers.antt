use Rattle.std.proofs.Common.{Some, sym, ap, ◌∙◌}
use Rattle.pl_model.specs.Flags.{quotes_text}
use Rattle.hub_database.proofs.FlagRows.{atom_fixed, chars_fixed, codes_fixed}
use Rattle.hub_database.proofs.flags.quotes_atom.Goals as goal

pub returns-in-Codes : goal.returns-in-Codes
returns-in-Codes c = codes_fixed ∙ ap (λ q. Some (quotes_text q)) (sym c.in-Codes.is)

pub returns-in-Chars : goal.returns-in-Chars
returns-in-Chars c = chars_fixed ∙ ap (λ q. Some (quotes_text q)) (sym c.in-Chars.is)

pub returns-in-Atom : goal.returns-in-Atom
returns-in-Atom c = atom_fixed ∙ ap (λ q. Some (quotes_text q)) (sym c.in-Atom.is)
