use Rattle.std.proofs.Common.{◌∙◌, ap, arith, string_bytes}
use Rattle.pl_model.specs.declared.lexical.Piece.TheVariants.{Character, Continuation}
use Rattle.pl_model.specs.LexicalQuoted.{piece}
use Rattle.lex_core.proofs.LexQuoted.{piece-within, spelled_from-start, spelled_from-character, spelled_from-continuation}
use Rattle.lex_core.proofs.quoted.spelled.Goals as goal

pub loop-at-init : goal.loop-at-init
loop-at-init c = (omega arith, spelled_from-start c.args.quote c.args.bytes.now (string_bytes c.new-text.result) c.new-text.ensures.bytes)

pub overflow_add-at : goal.overflow_add-at
overflow_add-at c = omega (arith, piece-within c.args.quote c.args.bytes.now c.loop-at.at (Character c.in-Character.c c.in-Character.size) c.loop-at-test.true (c.in-Character.ensures.value ∙ ap (piece c.args.quote) c.behind.ensures))

pub loop-at-smaller-in-Character : goal.loop-at-smaller-in-Character
loop-at-smaller-in-Character c = omega (arith, piece-within c.args.quote c.args.bytes.now c.loop-at.at (Character c.in-Character.c c.in-Character.size) c.loop-at-test.true (c.in-Character.ensures.value ∙ ap (piece c.args.quote) c.behind.ensures))

pub loop-at-preserved-in-Character : goal.loop-at-preserved-in-Character
loop-at-preserved-in-Character c =
    let e = c.in-Character.ensures.value ∙ ap (piece c.args.quote) c.behind.ensures in (
      omega (arith, piece-within c.args.quote c.args.bytes.now c.loop-at.at (Character c.in-Character.c c.in-Character.size) c.loop-at-test.true e),
      spelled_from-character c.args.quote c.args.bytes.now (string_bytes c.loop-at.text) c.loop-at.at c.loop-at.invariant.1 c.in-Character.c c.in-Character.size
          (string_bytes c.push.new.text) c.loop-at-test.true e c.in_ok-push-in-Character.ensures,
    )

pub overflow_add-at-in-Continuation : goal.overflow_add-at-in-Continuation
overflow_add-at-in-Continuation c = omega (arith, piece-within c.args.quote c.args.bytes.now c.loop-at.at (Continuation c.in-Continuation.size) c.loop-at-test.true (c.in-Continuation.ensures.value ∙ ap (piece c.args.quote) c.behind.ensures))

pub loop-at-smaller : goal.loop-at-smaller
loop-at-smaller c = omega (arith, piece-within c.args.quote c.args.bytes.now c.loop-at.at (Continuation c.in-Continuation.size) c.loop-at-test.true (c.in-Continuation.ensures.value ∙ ap (piece c.args.quote) c.behind.ensures))

pub loop-at-preserved : goal.loop-at-preserved
loop-at-preserved c =
    let e = c.in-Continuation.ensures.value ∙ ap (piece c.args.quote) c.behind.ensures in (
      omega (arith, piece-within c.args.quote c.args.bytes.now c.loop-at.at (Continuation c.in-Continuation.size) c.loop-at-test.true e),
      spelled_from-continuation c.args.quote c.args.bytes.now (string_bytes c.loop-at.text) c.loop-at.at c.loop-at.invariant.1 c.in-Continuation.size c.loop-at-test.true e,
    )
