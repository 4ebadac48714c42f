use Rattle.pl_hub.proofs.Apart.{alone}
use Rattle.pl_hub.proofs.settling.hub_is_apart.Goals as goal

pub returns-clause-apart : goal.returns-clause-apart
returns-clause-apart c = alone c.args.engine c.args.hub.now.lives c.args.front.now.lives c.requires.own c.requires.runs (c.apart_from_hub.ensures.apart c.args.engine)
