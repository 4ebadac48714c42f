use Rattle.std.proofs.Common.{sym, ◌∙◌}
use Rattle.pl_sched.proofs.LedgerLaws.{each_carried}
use Rattle.pl_sched.proofs.ledger.are_done.Goals as goal

pub returns : goal.returns
returns g c =
    λ is.
    each_carried c.in_ok-numbers.numbers c.args.done.now c.args.started.now c.in_ok-numbers.ensures (sym c.contains.ensures ∙ c.if-not-contains.false) (c.all_in.ensures is)
