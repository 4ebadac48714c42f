use Rattle.std.proofs.Common.{◌∙◌, ◌++◌, Some, None, ap, sym}
use Rattle.std.specs.Str.{chars}
use Rattle.std.proofs.lemmas.Str.{encodes-chars}
use Rattle.term_writer.specs.Pages.{behind_page}
use Rattle.term_writer.proofs.Texts.{first_given}
use Rattle.term_writer.proofs.Shown.{text_put, nothing_put}
use Rattle.term_writer.proofs.page.Page.put.Goals as goal

pub returns-in_ok-extend_from_slice-clause-puts : goal.returns-in_ok-extend_from_slice-clause-puts
returns-in_ok-extend_from_slice-clause-puts c = λ ps.
    let text = sym (encodes-chars c.args.piece.now c.utf8.piece) in
    let begins = first_given (chars c.args.piece.now) c.args.piece.now c.chars.result c.next.new.self (Some c.in-Some.first) text c.chars.ensures.rest c.in-Some.ensures.steps in
    text_put _ _ _ c.args.piece.now (behind_page c.args.self.now) c.args.prefix c.in-Some.first _ (chars c.args.piece.now) ps begins text c.in_ok-space.ensures.bytes (c.in_ok-extend_from_slice.ensures.items ∙ ap (λ bs. c.space.new.self.bytes.items ++ bs) c.as_bytes.ensures.value) c.last_of-self.ensures

pub returns-in_default-clause-puts : goal.returns-in_default-clause-puts
returns-in_default-clause-puts c = λ ps.
    let text = sym (encodes-chars c.args.piece.now c.utf8.piece) in
    nothing_put _ (behind_page c.args.self.now) c.args.prefix (chars c.args.piece.now) ps (first_given (chars c.args.piece.now) c.args.piece.now c.chars.result c.next.new.self None text c.chars.ensures.rest c.in_default.ensures.steps)
