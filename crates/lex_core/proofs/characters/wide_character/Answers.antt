use Rattle.std.proofs.Common.{◌∙◌, ap}
use Rattle.std.specs.List.{slice_get}
use Rattle.std.specs.Str.{chars}
use Rattle.lex_core.proofs.LexRuns.{wide-character, wide-none}
use Rattle.lex_core.proofs.characters.wide_character.Goals as goal

pub returns-in_default-clause-value : goal.returns-in_default-clause-value
returns-in_default-clause-value c = wide-none c.args.piece.now c.in_default.ensures.cases.0

pub returns-clause-value : goal.returns-clause-value
returns-clause-value c =
    wide-character c.args.piece.now c.in_ok-c.c c.in-Ok.ensures.cases.1
    (c.in_ok-c.ensures.steps.2 ∙ ap (λ bs. slice_get (chars bs) 0) (c.chars.ensures.rest ∙ c.in-Ok.ensures.cases.0))
