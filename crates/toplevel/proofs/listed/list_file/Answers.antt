use Rattle.toplevel.proofs.RunLemmas.{listed_more, unlisted}
use Rattle.toplevel.proofs.listed.list_file.Goals as goal

pub returns-in-Err-Failed-clause-promised : goal.returns-in-Err-Failed-clause-promised
returns-in-Err-Failed-clause-promised g c =
    unlisted
    _
    _
    c.args.file.now
    _
    _
    _
    c.write_unread.result
    c.write_unread.result.end
    (c.in-Err-Failed.ensures.failed c.in-Err-Failed.field-0-is)
    c.write_unread.ensures.given_up

pub returns-in-Ok-clause-promised : goal.returns-in-Ok-clause-promised
returns-in-Ok-clause-promised g c =
    listed_more
    _
    _
    c.args.file.now
    _
    _
    _
    c.write_listing.result
    c.write_listing.result.end
    (c.write_listing.ensures.promised
    c.args.file.now
    _
    c.in-Ok.ensures.listing.0
    c.in-Ok.ensures.listing.1.0
    c.in-Ok.ensures.listing.1.1)
