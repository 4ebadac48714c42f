use Rattle.std.specs.Prelude.{bytes_eq}
use Rattle.std.proofs.lemmas.Bool.Decides.{same_from_decides}
use Rattle.std.proofs.lemmas.Slice.Eq.{bytes_eq-Decides}
use Rattle.hub_threads.proofs.held.searches.spells.Goals as goal

pub returns : goal.returns
returns c = same_from_decides c.same.result (bytes_eq c.args.alias.now c.args.name.now) c.same.ensures (bytes_eq-Decides c.args.alias.now c.args.name.now)
