use Rattle.std.proofs.Common.{◌∙◌}
use Rattle.toplevel.proofs.RunLemmas.{listed, listed_unwritten}
use Rattle.toplevel.proofs.listed.write_listing.Goals as goal

pub returns-in-Ok-clause-promised : goal.returns-in-Ok-clause-promised
returns-in-Ok-clause-promised g c name file bytes read r =
    listed
    _
    name
    file
    _
    _
    c.bare_report.result
    c.args.listing.now
    bytes
    _
    read
    r
    c.deref.ensures.value
    c.in-Ok.ensures.whole
    c.bare_report.ensures.nothing
    (c.bare_report.ensures.end ∙ c.end_by_faults.ensures)

pub returns-in-Err-clause-promised : goal.returns-in-Err-clause-promised
returns-in-Err-clause-promised g c name file bytes read r =
    listed_unwritten
    _
    name
    file
    _
    _
    c.bare_report-in-Err.result
    c.args.listing.now
    bytes
    _
    read
    r
    c.deref.ensures.value
    c.in-Err.ensures.failed
    c.in-Err.ensures.part
    c.bare_report-in-Err.ensures.nothing
    c.bare_report-in-Err.ensures.end
