use Rattle.std.proofs.Common.{◌≡◌}
use Rattle.std.proofs.lemmas.Result.{err_from_is_err_and}
use Rattle.pl_model.specs.OperatorTable.{operator_at}
use Rattle.pl_model.proofs.TermDepth.{whole}
use Rattle.prolog_reader.specs.declared.stack.Mode.TheVariants.{Term, Part, Ended}
use Rattle.prolog_reader.specs.Stack.{outcome, start_at, turns_left}
use Rattle.prolog_reader.proofs.Clauses.{turns-stop}
use Rattle.prolog_reader.proofs.read.read_whole.Goals as goal

pub returns-in_err-mode-in-Term-clause-stops : goal.returns-in_err-mode-in-Term-clause-stops
returns-in_err-mode-in-Term-clause-stops c =
    let p = err_from_is_err_and c.from_residual-in_err-mode-in-Term.result c.from_residual-in_err-mode-in-Term.ensures.1 in
    let ops = operator_at c.args.ops.now in
    let mode = Term c.in-Term.max in
    let here : outcome c.args.text.now ops c.args.quotes c.loop-mode.reader mode ≡ whole c.args.text.now ops c.args.quotes 1200 (start_at c.args.at)
    = rw c.in-Term.is at c.loop-mode.invariant.1 in
    rw (p.1, p.2)
    (turns-stop c.args.text.now ops c.args.quotes (outcome c.args.text.now ops c.args.quotes c.loop-mode.reader mode) (whole c.args.text.now ops c.args.quotes 1200 (start_at c.args.at))
    (turns_left c.args.text.now c.loop-mode.reader mode) c.primary.new.self c.in_err-mode-in-Term.field-0.0 here c.in_err-mode-in-Term.ensures)

pub returns-in_err-mode-in-Part-clause-stops : goal.returns-in_err-mode-in-Part-clause-stops
returns-in_err-mode-in-Part-clause-stops c =
    let p = err_from_is_err_and c.from_residual-in_err-mode-in-Part.result c.from_residual-in_err-mode-in-Part.ensures.1 in
    let ops = operator_at c.args.ops.now in
    let mode = Part c.in-Part.max c.in-Part.priority c.in-Part.start in
    let here : outcome c.args.text.now ops c.args.quotes c.loop-mode.reader mode ≡ whole c.args.text.now ops c.args.quotes 1200 (start_at c.args.at)
    = rw c.in-Part.is at c.loop-mode.invariant.1 in
    rw (p.1, p.2)
    (turns-stop c.args.text.now ops c.args.quotes (outcome c.args.text.now ops c.args.quotes c.loop-mode.reader mode) (whole c.args.text.now ops c.args.quotes 1200 (start_at c.args.at))
    (turns_left c.args.text.now c.loop-mode.reader mode) c.go_on.new.self c.in_err-mode-in-Part.field-0.0 here (c.in_err-mode-in-Part.ensures c.args.quotes))

pub returns-in_err-mode-in-Ended-clause-stops : goal.returns-in_err-mode-in-Ended-clause-stops
returns-in_err-mode-in-Ended-clause-stops c =
    let p = err_from_is_err_and c.from_residual-in_err-mode-in-Ended.result c.from_residual-in_err-mode-in-Ended.ensures.1 in
    let ops = operator_at c.args.ops.now in
    let mode = Ended c.in-Ended.priority c.in-Ended.start in
    let here : outcome c.args.text.now ops c.args.quotes c.loop-mode.reader mode ≡ whole c.args.text.now ops c.args.quotes 1200 (start_at c.args.at)
    = rw c.in-Ended.is at c.loop-mode.invariant.1 in
    rw (p.1, p.2)
    (turns-stop c.args.text.now ops c.args.quotes (outcome c.args.text.now ops c.args.quotes c.loop-mode.reader mode) (whole c.args.text.now ops c.args.quotes 1200 (start_at c.args.at))
    (turns_left c.args.text.now c.loop-mode.reader mode) c.ended.new.self c.in_err-mode-in-Ended.field-0.0 here (c.in_err-mode-in-Ended.ensures ops c.args.quotes))
