use Rattle.std.proofs.Common.{◌∙◌, sym, ap}
use Rattle.pl_model.specs.LexicalQuoted.{escape}
use Rattle.pl_model.specs.Tokens.{front}
use Rattle.pl_model.proofs.LexicalPieces.{piece-escape}
use Rattle.lex_core.proofs.LexRuns.{character-some}
use Rattle.lex_core.proofs.LexQuoted.{has_size}
use Rattle.lex_core.proofs.quoted.piece.Goals as goal

pub returns-then-c-eq92-clause-value : goal.returns-then-c-eq92-clause-value
returns-then-c-eq92-clause-value c =
    let at = character-some (front c.args.bytes.now) c.in-Some.c c.in-Some.size (sym c.in-Some.ensures.value) in
    c.escape.ensures ∙ ap escape c.behind.ensures
    ∙ sym (piece-escape c.args.quote c.args.bytes.now c.in-Some.c c.in-Some.size at c.if-c-quote.false c.if-c-eq92.true)

pub returns-then-c-eq92-clause-within : goal.returns-then-c-eq92-clause-within
returns-then-c-eq92-clause-within c =
    let at = character-some (front c.args.bytes.now) c.in-Some.c c.in-Some.size (sym c.in-Some.ensures.value) in
    has_size c.args.quote c.args.bytes.now c.escape.result c.requires
    (c.escape.ensures ∙ ap escape c.behind.ensures
    ∙ sym (piece-escape c.args.quote c.args.bytes.now c.in-Some.c c.in-Some.size at c.if-c-quote.false c.if-c-eq92.true))
