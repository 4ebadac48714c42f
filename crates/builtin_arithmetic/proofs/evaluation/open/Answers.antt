use Rattle.std.proofs.Common.{◌≡◌, ◌<◌, length, Err, sym, subst, ◌∙◌, arith}
use Rattle.term_store.specs.Contents.{arguments_at}
use Rattle.builtin_arithmetic.specs.declared.values.ValueFault.TheVariants.{NoEvaluable}
use Rattle.builtin_arithmetic.specs.declared.steps.Step.TheVariants.{Ended}
use Rattle.builtin_arithmetic.specs.Steps.{IsStepFor}
use Rattle.builtin_arithmetic.proofs.Opening.{how_many, no_binary, no_unary, of_binary, of_unary, too_many}
use Rattle.builtin_arithmetic.proofs.evaluation.open.Goals as goal

pub returns-in-Some : goal.returns-in-Some
returns-in-Some c =
    let s = c.args.store.now in
    let xs = arguments_at s c.args.arguments in
    let long : length xs ≡ 1 = omega (arith, how_many s c.args.arguments c.requires.arguments, c.len-count.ensures, c.if-count-eq1.true) in
    of_unary s c.args.place c.args.name xs c.requires.stands c.argument.result c.in-Some.op long (sym c.in-Some.is ∙ c.unary.ensures) c.argument.ensures.holds c.argument.ensures.stands

pub returns-in-None : goal.returns-in-None
returns-in-None c =
    let s = c.args.store.now in
    let xs = arguments_at s c.args.arguments in
    let long : length xs ≡ 1 = omega (arith, how_many s c.args.arguments c.requires.arguments, c.len-count.ensures, c.if-count-eq1.true) in
    no_unary s c.args.place c.args.name xs c.requires.stands long (sym c.in-None.is ∙ c.unary.ensures)

pub returns-in-Some-binary : goal.returns-in-Some-binary
returns-in-Some-binary c =
    let s = c.args.store.now in
    let xs = arguments_at s c.args.arguments in
    let long : length xs ≡ 2 = omega (arith, how_many s c.args.arguments c.requires.arguments, c.len-count.ensures, c.if-count-eq2.true) in
    of_binary s c.args.place c.args.name xs c.requires.stands c.argument-in-Some-binary.result c.argument-in-Some-binary-2.result c.in-Some-binary.op long
    (sym c.in-Some-binary.is ∙ c.binary.ensures) c.argument-in-Some-binary.ensures.holds c.argument-in-Some-binary.ensures.stands c.argument-in-Some-binary-2.ensures.holds c.argument-in-Some-binary-2.ensures.stands

pub returns-in-None-binary : goal.returns-in-None-binary
returns-in-None-binary c =
    let s = c.args.store.now in
    let xs = arguments_at s c.args.arguments in
    let long : length xs ≡ 2 = omega (arith, how_many s c.args.arguments c.requires.arguments, c.len-count.ensures, c.if-count-eq2.true) in
    no_binary s c.args.place c.args.name xs c.requires.stands long (sym c.in-None-binary.is ∙ c.binary.ensures)

pub returns : goal.returns
returns c =
    let s = c.args.store.now in
    let xs = arguments_at s c.args.arguments in
    let long : length xs ≡ c.len-count.result = omega (arith, how_many s c.args.arguments c.requires.arguments, c.len-count.ensures) in
    let many : 2 < length xs =
    omega (arith, long, how_many s c.args.arguments c.requires.arguments, c.requires.some, c.len-count.ensures, c.if-count-eq1.false, c.if-count-eq2.false) in
    subst (λ k. IsStepFor s c.args.place (Ended (Err (NoEvaluable c.args.name k)))) long (too_many s c.args.place c.args.name xs c.requires.stands many)
