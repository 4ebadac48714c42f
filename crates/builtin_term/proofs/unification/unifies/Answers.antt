use Rattle.builtin_term.proofs.Rooms.{both_stand}
use Rattle.builtin_term.proofs.unification.unifies.Goals as goal

pub returns-clause-row : goal.returns-clause-row
returns-clause-row c =
    both_stand c.args.store.now c.answered.new.store c.answered.result c.args.right c.answered.ensures.row
