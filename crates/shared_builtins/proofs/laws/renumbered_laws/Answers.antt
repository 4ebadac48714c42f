use Rattle.shared_builtins.proofs.Renumbering.{handed_renumbered, on_renumbered, served_renumbered}
use Rattle.shared_builtins.proofs.laws.renumbered_laws.Goals as goal

pub returns-clause-served : goal.returns-clause-served
returns-clause-served c = served_renumbered

pub returns-clause-awaited : goal.returns-clause-awaited
returns-clause-awaited c = on_renumbered

pub returns-clause-handed : goal.returns-clause-handed
returns-clause-handed c = handed_renumbered
