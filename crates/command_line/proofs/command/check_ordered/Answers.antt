use Rattle.std.proofs.Common.{sym, ◌∙◌, ap, codes, Some, None}
use Rattle.clap.specs.Words.{found_of, rows_of}
use Rattle.clap.proofs.WalkLemmas.{first_value-rows}
use Rattle.command_line.specs.CommandLine.{checks}
use Rattle.command_line.proofs.CommandLemmas.{checks_it}
use Rattle.command_line.proofs.command.check_ordered.Goals as goal

pub returns-in-None-clause-order : goal.returns-in-None-clause-order
returns-in-None-clause-order c =
    checks_it
    (rows_of (found_of c.args.given.now))
    None
    (c.in-None.ensures ∙ first_value-rows (found_of c.args.given.now) (codes "FILE"))

pub returns-in_ok-from_str-in-Some-clause-order : goal.returns-in_ok-from_str-in-Some-clause-order
returns-in_ok-from_str-in-Some-clause-order c =
    checks_it
    (rows_of (found_of c.args.given.now))
    (Some c.in-Some.file.now)
    (c.in-Some.ensures ∙ first_value-rows (found_of c.args.given.now) (codes "FILE"))
    ∙ ap (λ t. Some (checks t)) (sym c.in_ok-from_str-in-Some.ensures)
