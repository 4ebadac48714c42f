use Rattle.builtin_rows.proofs.Balls.{makes_nothing}
use Rattle.shared_builtins.proofs.Faulting.{unbound_held, unbound_reads}
use Rattle.shared_builtins.proofs.faults.unbound_term.Goals as goal

pub returns-clause-made : goal.returns-clause-made
returns-clause-made c = let s = c.args.store.now in (makes_nothing s, (c.atom-term.ensures s).0)

pub returns-clause-term : goal.returns-clause-term
returns-clause-term c m stands = let s = c.args.store.now in unbound_reads m stands s s c.atom-term.result (c.atom-term.ensures s).1

pub returns-clause-held : goal.returns-clause-held
returns-clause-held c m stands held = let s = c.args.store.now in unbound_held m stands s s c.atom-term.result (c.atom-term.ensures s).1
