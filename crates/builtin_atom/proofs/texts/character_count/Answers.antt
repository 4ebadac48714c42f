use Rattle.std.proofs.Common.{length, ap, ◌∙◌}
use Rattle.builtin_atom.proofs.Looks.{text_is}
use Rattle.builtin_atom.proofs.TextLaws.{buffered}
use Rattle.builtin_atom.proofs.texts.character_count.Goals as goal

pub returns-clause-count : goal.returns-clause-count
returns-clause-count g c =
    let m = g.A.Atoms.held c.args.atoms.now in
    let t = c.text.new.buf in
    c.count.ensures.count
    ∙ ap length
    (buffered c.as_str.result.now t _ c.as_str.ensures (g.met.A.Atoms.finite c.args.atoms.now c.args.name t c.text.ensures.text).2
    (text_is m c.args.name t c.text.ensures.text))
