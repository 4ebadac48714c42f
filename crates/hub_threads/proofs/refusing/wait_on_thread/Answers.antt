use Rattle.std.proofs.Common.{sym, ◌∙◌}
use Rattle.std.proofs.lemmas.Option.{same_Some}
use Rattle.hub_threads.proofs.refusing.wait_on_thread.Goals as goal

pub returns-in-Some-clause-says : goal.returns-in-Some-clause-says
returns-in-Some-clause-says c = λ m n stand named. same_Some _ _ (sym (c.in-Some.ensures.says m stand) ∙ named)
