use Rattle.std.proofs.Common.{arith}
use Rattle.term_store.specs.Contents.{arguments_at}
use Rattle.builtin_term.proofs.Compounds.{how_many}
use Rattle.builtin_term.proofs.Selecting.{no_argument, no_argument_zero, one_argument}
use Rattle.builtin_term.proofs.argument.argument_at.Goals.{then-number-eq0-via-then-number-eq0, then-number-eq0-via-else-number-eq0+then-number-len}
use Rattle.builtin_term.proofs.argument.argument_at.Goals as goal

pub returns-then-number-eq0 : goal.returns-then-number-eq0
returns-then-number-eq0 c =
    let s = c.args.store.now in
    let ts = arguments_at s c.args.arguments in
    elim c.then-number-eq0.branch [
      | then-number-eq0-via-then-number-eq0 w ↦ no_argument_zero s ts c.args.number (omega arith)
      | then-number-eq0-via-else-number-eq0+then-number-len w ↦ no_argument s ts c.args.number (omega (arith, how_many s c.args.arguments c.requires))
    ]

pub returns : goal.returns
returns c =
    let s = c.args.store.now in
    let ts = arguments_at s c.args.arguments in
    one_argument s ts c.args.number c.argument.result c.if-number-eq0.false (omega (arith, how_many s c.args.arguments c.requires)) c.argument.ensures.holds c.argument.ensures.stands
