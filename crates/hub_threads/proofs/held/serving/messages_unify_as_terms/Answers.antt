use Rattle.hub_threads.proofs.Served.{find_alike}
use Rattle.pl_model.specs.FirstArguments.{unify_apart}
use Rattle.hub_threads.proofs.held.serving.messages_unify_as_terms.Goals as goal

pub returns : goal.returns
unfolding unify_apart
returns g c = λ text apart pattern q. find_alike _ _ (λ m. g.met.M.Kept.terms_tell text apart pattern m.content) q.messages
