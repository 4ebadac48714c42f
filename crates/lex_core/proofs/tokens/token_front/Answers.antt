use Rattle.std.proofs.Common.{◌∙◌, sym, ap}
use Rattle.pl_model.specs.Tokens.{front}
use Rattle.pl_model.specs.LexicalTokens.{token_of, token_front}
use Rattle.pl_model.proofs.LexicalPlaces.{token_front-scalar}
use Rattle.lex_core.proofs.LexRuns.{character-some}
use Rattle.lex_core.proofs.LexTokens.{equal_if_ok}
use Rattle.lex_core.proofs.tokens.token_front.Goals as goal

pub returns-in-Some : goal.returns-in-Some
returns-in-Some c =
    let at = character-some (front c.args.bytes.now) c.in-Some.c c.in-Some.size (sym c.in-Some.ensures.value) in
    equal_if_ok c.token_of.result (token_of c.args.direct c.args.bytes.now c.begins.result c.in-Some.c c.in-Some.size)
    (token_front c.args.direct c.args.bytes.now)
    (ap (λ class. token_of c.args.direct c.args.bytes.now class c.in-Some.c c.in-Some.size) c.begins.ensures
    ∙ sym (token_front-scalar c.args.direct c.args.bytes.now c.in-Some.c c.in-Some.size at)) c.token_of.ensures
