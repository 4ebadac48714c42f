use Rattle.std.proofs.Common.{◌∷◌, ◌∙◌, ap, sym}
use Rattle.std.proofs.lemmas.Str.{chars_from_encodes}
use Rattle.term_writer.specs.Pages.{behind_page, piece_of, shown}
use Rattle.term_writer.proofs.pieces.put_text.Goals as goal

pub returns-clause-puts : goal.returns-clause-puts
returns-clause-puts c = λ ps.
    c.in_ok-put.ensures.puts ps
    ∙ ap (λ g. shown c.args.page.now.bytes.items (behind_page c.args.page.now) (piece_of c.args.prefix g ∷ ps)) (sym (chars_from_encodes c.args.f.now c.as_str.result.now c.as_str.utf8 (sym c.as_str.ensures)))
