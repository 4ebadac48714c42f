use Rattle.std.proofs.Common.{arith, sym, ◌∙◌}
use Rattle.std.specs.Prelude.{slice_index_or}
use Rattle.hub_threads.specs.Goals.{is_within}
use Rattle.hub_threads.proofs.Searched.{passed_all, passed_next}
use Rattle.hub_threads.proofs.Within.{at_any, between, no_number, one_number}
use Rattle.hub_threads.proofs.held.searches.number_within.Goals as goal

pub loop-i-preserved : goal.loop-i-preserved
loop-i-preserved c =
    passed_next (is_within c.args.first c.args.last) c.args.numbers.now c.loop-i.i (slice_index_or c.args.numbers.now c.loop-i.i 0) (omega (arith, c.loop-i-test.true)) (at_any c.args.numbers.now c.loop-i.i 0 (omega (arith, c.loop-i-test.true))) c.loop-i.invariant (sym c.lies_within.ensures ∙ c.if-lies_within.false)

pub returns-then-lies_within-clause-one : goal.returns-then-lies_within-clause-one
returns-then-lies_within-clause-one c = λ hit.
    let n = slice_index_or c.args.numbers.now c.loop-i.i 0 in
    let lies = between c.args.first c.args.last n (sym c.lies_within.ensures ∙ c.if-lies_within.true) in
    (n, lies.0, lies.1, one_number c.args.numbers.now c.loop-i.i n (omega (arith, c.loop-i-test.true)) (at_any c.args.numbers.now c.loop-i.i 0 (omega (arith, c.loop-i-test.true))))

pub returns-clause-none : goal.returns-clause-none
returns-clause-none c = λ none m above below.
    no_number c.args.first c.args.last m above below c.args.numbers.now
    (passed_all (is_within c.args.first c.args.last) c.args.numbers.now c.loop-i.i (omega (arith, c.loop-i-test.false)) c.loop-i.invariant)
