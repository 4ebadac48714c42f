use Rattle.std.proofs.Common.{sym, ◌∙◌, refl}
use Rattle.std.specs.Str.{encode_utf8_all}
use Rattle.command_line.specs.CommandLine.{usage_line}
use Rattle.pl_report.proofs.AddsLemmas.{ascii_bytes}
use Rattle.toplevel.proofs.RunLemmas.{written_unless}
use Rattle.toplevel.proofs.run.write_usage.Goals as goal

pub returns-clause-written : goal.returns-clause-written
returns-clause-written g c =
    written_unless
    c.write_all.result
    _
    _
    _
    (encode_utf8_all usage_line)
    (c.as_bytes.ensures.value ∙ sym (ascii_bytes usage_line refl))
    c.write_all.ensures.whole
    c.write_all.ensures.part
    c.write_all.ensures.failed
