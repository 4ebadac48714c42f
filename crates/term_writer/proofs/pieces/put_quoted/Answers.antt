use Rattle.term_writer.specs.Pages.{behind_page}
use Rattle.term_writer.proofs.Shown.{quoted_put}
use Rattle.term_writer.proofs.pieces.put_quoted.Goals as goal

pub returns-clause-puts : goal.returns-clause-puts
returns-clause-puts c = λ ps.
    quoted_put _ _ _ _ _ (behind_page c.args.page.now) c.args.prefix c.args.f.now ps c.in_ok-space.ensures.bytes c.in_ok-push.ensures.items c.in_ok-push_escaped_all.ensures.escapes c.in_ok-push-2.ensures.items
