use Rattle.std.proofs.Common.{sym, ap, ◌∙◌, subst}
use Rattle.std.specs.Prelude.{IfOk}
use Rattle.std.specs.Str.{chars}
use Rattle.std.proofs.lemmas.Str.{chars-encodes}
use Rattle.pl_term.specs.Tree.{Chars, atom}
use Rattle.world_builtins.specs.Characters.{IsPut}
use Rattle.world_builtins.proofs.Spelled.{text_is}
use Rattle.world_builtins.proofs.characters.put_atom.Goals as goal

pub returns-clause-puts : goal.returns-clause-puts
returns-clause-puts g c =
    let m = g.A.Atoms.held c.args.atoms.now
    in let t = c.text.new.buf
    in let same = ap chars c.as_str.ensures ∙ chars-encodes t ((g.met.A.Atoms.finite c.args.atoms.now c.args.name t c.text.ensures.text).2) ∙ sym (text_is m c.args.name t c.text.ensures.text)
    in subst (λ (u : Chars). IfOk c.put_text.result (λ k. IsPut (atom u) k c.args.out.now.items c.put_text.new.out.items)) same c.put_text.ensures
