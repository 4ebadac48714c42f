use Rattle.std.proofs.Common.{◌∙◌}
use Rattle.lex_core.proofs.LexRuns.{block-some, block-none}
use Rattle.lex_core.proofs.layout.block.Goals as goal

pub returns-in-Some-clause-value : goal.returns-in-Some-clause-value
returns-in-Some-clause-value c = c.comment.ensures.value ∙ block-some c.args.text.now c.args.at c.in-Some.end c.in-Some.ensures.value

pub returns-in-None-clause-value : goal.returns-in-None-clause-value
returns-in-None-clause-value c = block-none c.args.text.now c.args.at c.in-None.ensures.value
