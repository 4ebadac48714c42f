use Rattle.term_writer.proofs.Shown.{mark_put}
use Rattle.term_writer.specs.Pages.{behind_page}
use Rattle.term_writer.proofs.page.Page.put_mark.Goals as goal

pub returns-clause-puts : goal.returns-clause-puts
returns-clause-puts c = λ ps.
    mark_put _ _ _ (behind_page c.args.self.now) c.args.mark ps c.requires c.in_ok-space.ensures.bytes c.in_ok-push.ensures.items
