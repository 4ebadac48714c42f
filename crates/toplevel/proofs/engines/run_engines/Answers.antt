use Rattle.std.proofs.Common.{refl, ap, ◌∙◌}
use Rattle.std.proofs.lemmas.Result.{IfOk-weaker}
use Rattle.atom_words.specs.Seats.{seen}
use Rattle.atom_words.specs.declared.view.View.{View}
use Rattle.atom_table.proofs.Settling.{counted_none}
use Rattle.command_line.specs.Commands.{told_command}
use Rattle.counted_terms.specs.Keeping.{times_in}
use Rattle.toplevel.specs.RunOutcomes.{program_read}
use Rattle.toplevel.proofs.OutcomeLaws.{ready_for}
use Rattle.toplevel.proofs.engines.run_engines.Goals as goal

pub run_over-requires-clause-none : goal.run_over-requires-clause-none
run_over-requires-clause-none g c = λ l b k. let v : View = seen c.in_ok-table.field-0.keeper.seat in ap (λ o. times_in o k) c.in_ok-table.ensures.keeper.1.0 ∙ counted_none v.size.slots k

pub run_over-requires-clause-goals : goal.run_over-requires-clause-goals
run_over-requires-clause-goals g c = λ l b. c.len-goals.ensures ∙ c.args.command.now.goals.ok.0

pub returns : goal.returns
returns g c all read =
    let command = c.args.command.now in
    IfOk-weaker c.run_over.result _ _
    (λ r is. ready_for (told_command command) all c.args.bytes.items command.file (program_read (told_command command) c.args.bytes.items) r read refl refl is)
    c.run_over.ensures
