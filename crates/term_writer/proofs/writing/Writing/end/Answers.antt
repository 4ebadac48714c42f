use Rattle.std.proofs.Common.{◌∙◌}
use Rattle.term_writer.specs.Pages.{behind_page}
use Rattle.term_writer.proofs.Wanted.{ended_shows}
use Rattle.term_writer.proofs.writing.Writing.end.Goals as goal

pub returns : goal.returns
returns c =
    let page = c.put_end.new.page in
    ended_shows page.bytes.items (behind_page page) ∙ c.in_ok-put_end.ensures.shows
