use Rattle.lex_core.proofs.LexTokens.{word-text, solo-text}
use Rattle.lex_core.proofs.tokens.token_of.Goals as goal

pub spelling-requires : goal.spelling-requires
spelling-requires c =
    word-text c.args.bytes.now c.args.c c.args.size c.run_end-n.result c.first.result.now c.requires c.run_end-n.ensures.end c.first.ensures

pub spelling-requires-in-Variable : goal.spelling-requires-in-Variable
spelling-requires-in-Variable c =
    word-text c.args.bytes.now c.args.c c.args.size c.run_end-n-in-Variable.result c.first-in-Variable.result.now c.requires
    c.run_end-n-in-Variable.ensures.end c.first-in-Variable.ensures

pub spelling-requires-in-Solo : goal.spelling-requires-in-Solo
spelling-requires-in-Solo c = solo-text c.args.bytes.now c.args.c c.args.size c.first-in-Solo.result.now c.requires c.first-in-Solo.ensures
