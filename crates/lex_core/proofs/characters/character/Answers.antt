use Rattle.std.proofs.Common.{◌+◌, ◌∙◌, length, min, ap, sym}
use Rattle.lex_core.specs.Views.{character_of}
use Rattle.lex_core.proofs.LexRuns.{front-at}
use Rattle.lex_core.proofs.characters.character.Goals as goal

pub returns-clause-value : goal.returns-clause-value
returns-clause-value c =
    c.wide_character.ensures.value
    ∙ ap character_of (sym (front-at c.args.text.now c.args.at c.min-end.result c.requires c.if-first-lt128.false
    (c.min-end.ensures ∙ ap (λ n. min (length c.args.text.now) (c.args.at + n)) c.size_of.ensures)))
