use Rattle.std.proofs.Common.{◌∙◌, sym, ap}
use Rattle.pl_model.specs.Tokens.{front}
use Rattle.pl_model.specs.Skipping.{whole}
use Rattle.lex_core.proofs.LexRuns.{character-some}
use Rattle.lex_core.proofs.LexPassing.{line-passing, block-passing}
use Rattle.lex_core.proofs.passing.passing.Goals as goal
use Rattle.lex_core.proofs.passing.passing.Goals.{in-Some-block_end, in-None}

pub returns-then-c-eq37-clause-value : goal.returns-then-c-eq37-clause-value
returns-then-c-eq37-clause-value c =
    let at = character-some (front c.args.bytes.now) c.in-Some.c c.in-Some.size (sym c.in-Some.ensures.value) in
    line-passing c.args.bytes.now c.in-Some.c c.in-Some.size c.line_end.result at c.if-c-eq37.true c.line_end.ensures.value

pub returns-then-begins_block-clause-value : goal.returns-then-begins_block-clause-value
returns-then-begins_block-clause-value c =
    let at = character-some (front c.args.bytes.now) c.in-Some.c c.in-Some.size (sym c.in-Some.ensures.value) in
    let is = block-passing c.args.bytes.now c.in-Some.c c.in-Some.size c.block_end.result at c.if-c-eq47.true (sym c.begins_block.ensures ∙ c.if-begins_block.true) c.block_end.ensures.value in
    elim c.match-block_end.branch [
      | in-Some-block_end w ↦ w.result-is ∙ ap whole (sym w.in-Some-block_end.is) ∙ is
      | in-None w ↦ w.result-is ∙ ap whole (sym w.in-None.is) ∙ is
    ]
