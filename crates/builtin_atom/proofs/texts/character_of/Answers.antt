use Rattle.std.proofs.Common.{◌≡◌, [], ◌∷◌, false, subst}
use Rattle.std.specs.Prelude.{MatchOption}
use Rattle.pl_term.specs.Tree.{Chars, atom}
use Rattle.pl_model.specs.AtomBuiltins.{is_character}
use Rattle.builtin_atom.proofs.Looks.{text_is}
use Rattle.builtin_atom.proofs.TextLaws.{buffered}
use Rattle.builtin_atom.proofs.texts.character_of.Goals as goal

pub returns-clause-character : goal.returns-clause-character
returns-clause-character g c =
    let m = g.A.Atoms.held c.args.atoms.now in
    let t = c.text.new.buf in
    subst (λ (u : Chars). MatchOption c.only.result (is_character (atom u) ≡ false) (λ d. u ≡ d ∷ []))
    (buffered c.as_str.result.now t _ c.as_str.ensures (g.met.A.Atoms.finite c.args.atoms.now c.args.name t c.text.ensures.text).2
    (text_is m c.args.name t c.text.ensures.text))
    c.only.ensures
