use Rattle.lex_core.proofs.LexTokens.{symbols-text}
use Rattle.pl_model.specs.Characters.{is_symbol}
use Rattle.lex_core.proofs.tokens.symbols.Goals as goal

pub spelling-requires : goal.spelling-requires
spelling-requires c = symbols-text is_symbol c.args.bytes.now c.run_end-n.result _ c.run_end-n.ensures.end c.first.ensures
