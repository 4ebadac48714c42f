use Rattle.toplevel.proofs.beginning.terms_for.Goals as goal

pub returns : goal.returns
returns g c = c.terms_of.ensures g.K.Command.program c.requires
