use Rattle.std.proofs.Common.{◌∙◌}
use Rattle.hub_threads.proofs.Numbers.{any_is_in}
use Rattle.hub_threads.proofs.held.searches.has.Goals as goal

pub returns : goal.returns
returns c = c.contains.ensures.value ∙ any_is_in c.args.n c.args.numbers.now
