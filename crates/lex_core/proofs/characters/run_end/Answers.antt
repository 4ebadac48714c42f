use Rattle.std.proofs.Common.{◌∙◌, drop, sym, arith}
use Rattle.pl_model.specs.Tokens.{front}
use Rattle.lex_core.specs.Views.{passes_run}
use Rattle.lex_core.proofs.LexRuns.{character-some, run_end-passes}
use Rattle.lex_core.proofs.characters.run_end.Goals as goal

pub loop-end-preserved : goal.loop-end-preserved
loop-end-preserved c =
    let at = character-some (front (drop c.loop-end.end c.args.text.now)) c.in-Some.c c.in-Some.size (sym c.in-Some.ensures.value) in (
      omega arith,
      omega (arith, c.in-Some.ensures.within),
      c.loop-end.invariant.2
          ∙ run_end-passes (passes_run c.args.run) c.args.text.now c.loop-end.end c.in-Some.c c.in-Some.size at (sym c.if-passes.ensures),
    )
