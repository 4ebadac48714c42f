use Rattle.std.proofs.Common.{length, ap, arith}
use Rattle.pl_term.specs.Variables.{place}
use Rattle.pl_term.proofs.Places.{place-with}
use Rattle.term_store.proofs.stored.renumbered.Goals as goal

pub returns-in_ok-number-in-Var-clause-below : goal.returns-in_ok-number-in-Var-clause-below
returns-in_ok-number-in-Var-clause-below c =
    let e = c.in_ok-number-in-Var.ensures in
    omega (arith, e.number, ap (place c.in-Var.x) e.met, ap length e.met, place-with c.in-Var.x c.args.met.now)
