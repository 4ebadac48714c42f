use Rattle.std.proofs.Common.{◌∷◌, ◌∙◌, ap}
use Rattle.std.proofs.lemmas.Int.{to_z-of_z}
use Rattle.std.proofs.lemmas.Str.{chars-IsAscii}
use mir.Syntax.{w64}
use Rattle.pl_model.specs.TermWriting.{plain}
use Rattle.term_writer.specs.Pages.{behind_page, shown}
use Rattle.term_writer.proofs.pieces.put_integer.Goals as goal

pub returns-clause-puts : goal.returns-clause-puts
returns-clause-puts c = λ ps.
    c.in_ok-put.ensures.puts ps
    ∙ ap (λ g. shown c.args.page.now.bytes.items (behind_page c.args.page.now) (plain g ∷ ps)) (chars-IsAscii _ c.format.ensures.ascii ∙ (rw (to_z-of_z w64 c.args.i c.ranges.i) at c.format.ensures.text))
