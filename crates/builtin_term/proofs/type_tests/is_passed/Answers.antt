use Rattle.std.proofs.Common.{sym}
use Rattle.builtin_term.proofs.Passing.{ground_passed, kind_some}
use Rattle.builtin_term.proofs.type_tests.is_passed.Goals as goal

pub returns-in_ok-ground-in-None-clause-test : goal.returns-in_ok-ground-in-None-clause-test
returns-in_ok-ground-in-None-clause-test c m =
    ground_passed c.args.test m c.args.store.now c.args.term c.in_ok-ground-in-None.ground (sym c.in-None.ensures) c.in_ok-ground-in-None.ensures.ground

pub returns-in-Some-clause-test : goal.returns-in-Some-clause-test
returns-in-Some-clause-test c m = kind_some c.args.test m c.args.store.now c.args.term c.in-Some.kinds c.passes.result (sym c.in-Some.ensures) c.passes.ensures
