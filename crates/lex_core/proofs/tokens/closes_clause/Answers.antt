use Rattle.std.proofs.Common.{◌<◌, drop, sym, arith, length}
use Rattle.std.proofs.lemmas.List.{length-drop}
use Rattle.pl_model.proofs.TokenPlaces.{closes_clause-broken}
use Rattle.lex_core.proofs.LexRuns.{character-none}
use Rattle.lex_core.proofs.tokens.closes_clause.Goals as goal

pub returns-in-None : goal.returns-in-None
returns-in-None c =
    let some : 0 < length (drop c.args.at c.args.text.now) = omega (arith, length-drop c.args.at c.args.text.now) in
    sym (closes_clause-broken (drop c.args.at c.args.text.now)
    (character-none (drop c.args.at c.args.text.now) some (sym c.in-None.ensures.value)))
