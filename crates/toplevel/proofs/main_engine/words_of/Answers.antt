use Rattle.std.proofs.Common.{[], ◌∙◌, ap, sym, refl}
use Rattle.pl_consult.specs.GoalWords.{read_of, words_of as words_told}
use Rattle.toplevel.specs.Mains.{words_in}
use Rattle.toplevel.proofs.StandingLaws.{no_job}
use Rattle.toplevel.proofs.main_engine.words_of.Goals as goal

pub returns-in-None : goal.returns-in-None
returns-in-None c =
    sym (c.read.ensures no_job []) ∙ ap (λ o. words_told (words_in (read_of c.args.main.now.script.read) o)) (sym c.in-None.is)
