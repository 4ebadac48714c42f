use Rattle.hub_tests.proofs.HeldNames.{fail_some, some_fixed}
use Rattle.hub_tests.proofs.players.own_atom.Goals as goal

pub returns : goal.returns
returns g c = some_fixed _ (g.met.A.Atoms.fixed_held c.intern.new.self) 88 fail_some
