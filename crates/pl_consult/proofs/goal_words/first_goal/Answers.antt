use Rattle.std.proofs.Common.{sym, ap, ◌∙◌}
use Rattle.std.specs.Option.{option_copied}
use Rattle.pl_consult.proofs.FirstWords.{first_none, first_some}
use Rattle.pl_consult.proofs.goal_words.first_goal.Goals as goal

pub returns-in-None : goal.returns-in-None
returns-in-None c = first_none c.args.words.now (sym c.first.ensures.value ∙ ap (λ o. option_copied o) c.in-None.is)

pub returns-in-Some : goal.returns-in-Some
returns-in-Some c =
    first_some c.goal_in.result c.args.words.now c.in-Some.word.now (sym c.first.ensures.value ∙ ap (λ o. option_copied o) c.in-Some.is) c.goal_in.ensures
