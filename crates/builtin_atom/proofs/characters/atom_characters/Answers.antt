use Rattle.std.proofs.Common.{◌∙◌}
use Rattle.builtin_atom.proofs.Looks.{text_is}
use Rattle.builtin_atom.proofs.Rows.{with_ok}
use Rattle.builtin_atom.proofs.TextLaws.{buffered}
use Rattle.builtin_atom.proofs.characters.atom_characters.Goals as goal

pub returns-clause-text : goal.returns-clause-text
returns-clause-text g c =
    let m = g.A.Atoms.held c.args.atoms.now in
    let t = c.text.new.buf in
    with_ok _ _ c.characters.result
    (λ v e. e ∙ buffered c.as_str.result.now t _ c.as_str.ensures (g.met.A.Atoms.finite c.args.atoms.now c.args.name t c.text.ensures.text).2
    (text_is m c.args.name t c.text.ensures.text))
    c.characters.ensures
