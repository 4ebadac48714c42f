use Rattle.std.proofs.Common.{◌∙◌, drop, sym, ap}
use Rattle.pl_model.specs.Tokens.{scalar, front}
use Rattle.lex_core.proofs.LexRuns.{blank-comment, character-some}
use Rattle.lex_core.proofs.layout.blank.Goals as goal

pub returns-then-c-eq37-clause-value : goal.returns-then-c-eq37-clause-value
returns-then-c-eq37-clause-value c =
    let at = character-some (front (drop c.args.at c.args.text.now)) c.in-Some.c c.in-Some.size (sym c.in-Some.ensures.value) in
    c.comment.ensures.value
    ∙ blank-comment c.args.text.now c.args.at c.line_end.result c.in-Some.size (at ∙ ap (λ n. scalar n c.in-Some.size) c.if-c-eq37.true)
    c.line_end.ensures.value
