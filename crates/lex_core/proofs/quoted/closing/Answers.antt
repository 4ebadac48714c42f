use Rattle.std.proofs.Common.{◌∙◌, ap, arith}
use Rattle.pl_model.specs.declared.lexical.Piece.TheVariants.{Character, Continuation, Bad}
use Rattle.pl_model.specs.LexicalQuoted.{piece}
use Rattle.lex_core.proofs.LexQuoted.{closing_from-passes, piece-within}
use Rattle.lex_core.proofs.quoted.closing.Goals as goal

pub overflow_add-at : goal.overflow_add-at
overflow_add-at c = omega (arith, piece-within c.args.quote c.args.bytes.now c.loop-at.at (Character c.in-Character.field-0 c.in-Character.size) c.loop-at-test.true (c.in-Character.ensures.value ∙ ap (piece c.args.quote) c.behind.ensures))

pub loop-at-smaller-in-Character : goal.loop-at-smaller-in-Character
loop-at-smaller-in-Character c = omega (arith, piece-within c.args.quote c.args.bytes.now c.loop-at.at (Character c.in-Character.field-0 c.in-Character.size) c.loop-at-test.true (c.in-Character.ensures.value ∙ ap (piece c.args.quote) c.behind.ensures))

pub loop-at-preserved-in-Character : goal.loop-at-preserved-in-Character
loop-at-preserved-in-Character c =
    let p = Character c.in-Character.field-0 c.in-Character.size in
    let e = c.in-Character.ensures.value ∙ ap (piece c.args.quote) c.behind.ensures in (
      omega (arith, piece-within c.args.quote c.args.bytes.now c.loop-at.at p c.loop-at-test.true e),
      c.loop-at.invariant.1 ∙ closing_from-passes c.args.quote c.args.bytes.now c.loop-at.at p c.loop-at-test.true e tt,
    )

pub overflow_add-at-in-Continuation : goal.overflow_add-at-in-Continuation
overflow_add-at-in-Continuation c = omega (arith, piece-within c.args.quote c.args.bytes.now c.loop-at.at (Continuation c.in-Continuation.size) c.loop-at-test.true (c.in-Continuation.ensures.value ∙ ap (piece c.args.quote) c.behind.ensures))

pub loop-at-smaller-in-Continuation : goal.loop-at-smaller-in-Continuation
loop-at-smaller-in-Continuation c = omega (arith, piece-within c.args.quote c.args.bytes.now c.loop-at.at (Continuation c.in-Continuation.size) c.loop-at-test.true (c.in-Continuation.ensures.value ∙ ap (piece c.args.quote) c.behind.ensures))

pub loop-at-preserved-in-Continuation : goal.loop-at-preserved-in-Continuation
loop-at-preserved-in-Continuation c =
    let p = Continuation c.in-Continuation.size in
    let e = c.in-Continuation.ensures.value ∙ ap (piece c.args.quote) c.behind.ensures in (
      omega (arith, piece-within c.args.quote c.args.bytes.now c.loop-at.at p c.loop-at-test.true e),
      c.loop-at.invariant.1 ∙ closing_from-passes c.args.quote c.args.bytes.now c.loop-at.at p c.loop-at-test.true e tt,
    )

pub overflow_add-at-in-Bad : goal.overflow_add-at-in-Bad
overflow_add-at-in-Bad c = omega (arith, piece-within c.args.quote c.args.bytes.now c.loop-at.at (Bad c.in-Bad.field-0 c.in-Bad.size) c.loop-at-test.true (c.in-Bad.ensures.value ∙ ap (piece c.args.quote) c.behind.ensures))

pub loop-at-smaller : goal.loop-at-smaller
loop-at-smaller c = omega (arith, piece-within c.args.quote c.args.bytes.now c.loop-at.at (Bad c.in-Bad.field-0 c.in-Bad.size) c.loop-at-test.true (c.in-Bad.ensures.value ∙ ap (piece c.args.quote) c.behind.ensures))

pub loop-at-preserved : goal.loop-at-preserved
loop-at-preserved c =
    let p = Bad c.in-Bad.field-0 c.in-Bad.size in
    let e = c.in-Bad.ensures.value ∙ ap (piece c.args.quote) c.behind.ensures in (
      omega (arith, piece-within c.args.quote c.args.bytes.now c.loop-at.at p c.loop-at-test.true e),
      c.loop-at.invariant.1 ∙ closing_from-passes c.args.quote c.args.bytes.now c.loop-at.at p c.loop-at-test.true e tt,
    )
