use Rattle.std.proofs.Common.{◌≤◌, length, arith}
use Rattle.term_store.specs.Contents.{term_at}
use Rattle.builtin_term.proofs.MetVariables.{met_all}
use Rattle.builtin_term.proofs.met_variables.met_variables.Goals as goal

pub returns-clause-all : goal.returns-clause-all
returns-clause-all c =
    let s = c.args.store.now in
    let ps = c.in_ok-places.places.items in
    let over : length ps ≤ c.loop-i.i = omega (arith, c.loop-i-test.false, c.len-i-end.ensures, c.in_ok-places.places.ok.0) in
    met_all s (term_at s c.args.term) c.loop-i.met.items ps c.loop-i.i over c.loop-i.invariant.met c.loop-i.invariant.places c.in_ok-places.ensures.stand
