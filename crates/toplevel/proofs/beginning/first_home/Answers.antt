use Rattle.std.proofs.Common.{◌≡◌, sym, ap, ◌∙◌}
use Rattle.std.proofs.lemmas.Result.{IfOk-at_ok}
use Rattle.atom_words.specs.Seats.{seen}
use Rattle.atom_table.specs.Naming.{names}
use Rattle.run_model.specs.Execution.{consults}
use Rattle.run_model.specs.Lawful.{Program, main_job}
use Rattle.pl_consult.specs.FileScripts.{Begins}
use Rattle.toplevel.proofs.BeginLaws.{main_home, main_writes}
use Rattle.toplevel.proofs.beginning.first_home.Goals as goal

pub new-requires-2-clause-home : goal.new-requires-2-clause-home
new-requires-2-clause-home g c =
    let p = g.K.Command.program in
    let s = c.in_ok-script.script in
    let out = c.new.new.out.items in
    let begins = IfOk-at_ok (λ x. Begins x (main_job p) c.args.command.now.file out) c.in_ok-script.was
    (c.new.ensures.begins (main_job p) (ap (λ (q : Program). consults q.bytes q.words) c.requires.program ∙ ap (consults c.args.bytes.items) (sym (c.in_ok-words.ensures ∙ c.as_slice.ensures.value)))) in
    main_home p c.args.command.now.limits s out c.runner_of-engine.result c.runner_of-engine.ensures (ap (λ (q : Program). q.limits) c.requires.program) c.args.command.now.file begins
    c.in_ok-script.ensures.fresh g.K.Naming.history g.K.Naming.goals (names (seen c.args.atoms.seat)) c.args.front c.requires.front

pub new-requires-2-clause-writes : goal.new-requires-2-clause-writes
new-requires-2-clause-writes g c =
    let p = g.K.Command.program in
    let s = c.in_ok-script.script in
    let out = c.new.new.out.items in
    let begins = IfOk-at_ok (λ x. Begins x (main_job p) c.args.command.now.file out) c.in_ok-script.was
    (c.new.ensures.begins (main_job p) (ap (λ (q : Program). consults q.bytes q.words) c.requires.program ∙ ap (consults c.args.bytes.items) (sym (c.in_ok-words.ensures ∙ c.as_slice.ensures.value)))) in
    main_writes p c.args.command.now.limits s out c.runner_of-engine.result c.runner_of-engine.ensures (ap (λ (q : Program). q.limits) c.requires.program) c.args.command.now.file begins
    c.in_ok-script.ensures.fresh g.K.Naming.history g.K.Naming.goals (names (seen c.args.atoms.seat)) g.K.Command.file g.K.Command.board (sym c.requires.file) (c.in_ok-script.ensures.board ∙ c.requires.board)
