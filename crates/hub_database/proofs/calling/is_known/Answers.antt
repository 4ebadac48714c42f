use Rattle.std.proofs.Common.{◌∙◌}
use Rattle.pl_model.specs.laws.Shown.{proc_of}
use Rattle.hub_database.proofs.ErasedClauses.{known_is}
use Rattle.hub_database.proofs.calling.is_known.Goals as goal

pub returns : goal.returns
returns c = λ f d s. c.is_some.ensures ∙ known_is c.access.result (d c.args.g) (proc_of c.args.p.now) (c.access.ensures.says f d s)
