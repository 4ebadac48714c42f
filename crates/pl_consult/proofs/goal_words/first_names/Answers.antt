use Rattle.std.proofs.Common.{sym, ap, ◌∙◌}
use Rattle.std.specs.Option.{option_copied}
use Rattle.pl_consult.proofs.FirstWords.{names_none, names_some}
use Rattle.pl_consult.proofs.goal_words.first_names.Goals as goal

pub returns-in-None : goal.returns-in-None
returns-in-None c = names_none c.args.words.now (sym c.first.ensures.value ∙ ap (λ o. option_copied o) c.in-None.is)

pub returns-in-Some : goal.returns-in-Some
returns-in-Some c =
    names_some c.args.words.now c.in-Some.word.now c.names_in.result.now (sym c.first.ensures.value ∙ ap (λ o. option_copied o) c.in-Some.is) c.names_in.ensures
