use Rattle.std.proofs.Common.{◌∙◌, ◌++◌, ap}
use Rattle.term_writer.specs.Pages.{behind_page}
use Rattle.term_writer.proofs.Shown.{variable_put}
use Rattle.term_writer.proofs.pieces.put_variable.Goals as goal

pub returns-clause-puts : goal.returns-clause-puts
returns-clause-puts c = λ ps.
    variable_put _ _ _ _ c.format-digits.result.now (behind_page c.args.page.now) _ c.args.n ps c.format-digits.ensures.ascii c.format-digits.ensures.text c.in_ok-space.ensures.bytes c.in_ok-push.ensures.items (c.in_ok-extend_from_slice.ensures.items ∙ ap (λ bs. c.push.new.self.items ++ bs) c.as_bytes.ensures.value) c.last_of-page.ensures
