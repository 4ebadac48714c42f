use Rattle.std.proofs.Common.{◌≤◌, ◌++◌, sym, ap, subst, ◌∙◌}
use Rattle.std.proofs.lemmas.Result.{on_ok_weaker}
use Rattle.pl_term.specs.Texts.{size}
use Rattle.pl_term.specs.Tree.{Chars}
use Rattle.term_store.specs.Heap.{atom_name}
use Rattle.world_builtins.specs.Spelling.{text_of}
use Rattle.builtin_atom.proofs.Looks.{text_is}
use Rattle.builtin_atom.proofs.TextLaws.{buffered}
use Rattle.atom_parts.proofs.reading.add_text.Goals as goal

pub returns-clause-text : goal.returns-clause-text
returns-clause-text g c =
    let m = g.A.Atoms.held c.args.atoms.now in
    let t = c.text.new.buf in
    on_ok_weaker c.add_characters.result
    (λ e. e
    ∙ ap (λ l. c.args.text.now.items ++ l)
    (buffered c.as_str.result.now t (text_of m (atom_name c.args.name)) c.as_str.ensures (g.met.A.Atoms.finite c.args.atoms.now c.args.name t c.text.ensures.text).2
    (text_is m c.args.name t c.text.ensures.text)))
    c.add_characters.ensures

pub returns-clause-short : goal.returns-clause-short
returns-clause-short g c =
    let m = g.A.Atoms.held c.args.atoms.now in
    let t = c.text.new.buf in
    subst (λ (u : Chars). size u ≤ 248) (sym (text_is m c.args.name t c.text.ensures.text)) (g.met.A.Atoms.finite c.args.atoms.now c.args.name t c.text.ensures.text).1
