use Rattle.lex_core.proofs.LexRuns.{comment-bad, comment-good}
use Rattle.lex_core.proofs.layout.comment.Goals as goal

pub returns-then-valid-end-clause-value : goal.returns-then-valid-end-clause-value
returns-then-valid-end-clause-value c =
    comment-bad c.args.text.now c.args.at c.args.end c.run_end-valid.result c.requires.at c.run_end-valid.ensures.end c.if-valid-end.true

pub returns-clause-value : goal.returns-clause-value
returns-clause-value c =
    comment-good c.args.text.now c.args.at c.args.end c.run_end-valid.result c.requires.at c.run_end-valid.ensures.end c.if-valid-end.false
