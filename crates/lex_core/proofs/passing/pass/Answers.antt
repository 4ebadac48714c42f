use Rattle.lex_core.proofs.LexPassing.{skips-of}
use Rattle.lex_core.proofs.LexDecimals.{decimal-skips}
use Rattle.lex_core.proofs.passing.pass.Goals as goal

pub returns-then-n-gt0 : goal.returns-then-n-gt0
returns-then-n-gt0 c =
    decimal-skips c.args.text.now c.args.at c.behind-bytes.result.now c.decimal_size-n.result c.behind-bytes.ensures c.requires c.if-n-gt0.true
    (c.decimal_size-n.ensures c.if-n-gt0.true)

pub returns : goal.returns
returns c =
    skips-of c.args.text.now c.args.at c.behind-bytes.result.now c.passing.result c.behind-bytes.ensures c.requires c.passing.ensures.value c.passing.ensures.within
