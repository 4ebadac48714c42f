use Rattle.std.proofs.Common.{◌∙◌, sym}
use Rattle.lex_core.proofs.LexPassing.{begins-quote, quote-first, some-symbols, numeral-lies}
use Rattle.lex_core.proofs.passing.token_passing.Goals as goal

pub behind_reading-requires-clause-within : goal.behind_reading-requires-clause-within
behind_reading-requires-clause-within c =
    numeral-lies c.args.bytes.now c.args.c c.args.size c.numeral.result c.requires.front (sym c.in-Digit.is ∙ c.begins.ensures) c.numeral.ensures

pub symbols_passing-requires : goal.symbols_passing-requires
symbols_passing-requires c = some-symbols c.args.bytes.now c.args.c c.args.size c.requires.front (sym c.in-Symbol.is ∙ c.begins.ensures)

pub quoted_passing-requires-clause-quote : goal.quoted_passing-requires-clause-quote
quoted_passing-requires-clause-quote c = begins-quote c.args.c (sym c.in-Quote.is ∙ c.begins.ensures)

pub quoted_passing-requires-clause-first : goal.quoted_passing-requires-clause-first
quoted_passing-requires-clause-first c = quote-first c.args.bytes.now c.args.c c.args.size c.requires.front (sym c.in-Quote.is ∙ c.begins.ensures)
