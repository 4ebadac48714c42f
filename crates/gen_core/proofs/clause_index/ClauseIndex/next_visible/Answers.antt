use Rattle.std.proofs.Common.{arith}
use Rattle.pl_model.specs.FirstArguments.{are_apart}
use Rattle.std.specs.Prelude.{not}
use Rattle.gen_core.specs.ClauseIndex.{holds}
use Rattle.gen_core.specs.Visible.{is_visible}
use Rattle.gen_core.proofs.RunLaws.{number_below}
use Rattle.gen_core.proofs.Searches.{passed_run, holds-both}
use Rattle.gen_core.proofs.clause_index.ClauseIndex.next_visible.Goals as goal

pub past-from-requires-clause-bound : goal.past-from-requires-clause-bound
past-from-requires-clause-bound g c =
    number_below g.C.Key.Ord.cmp g.C.Kept.any g.C.Kept.key_of c.args.self.now c.requires.sound (λ s. not (are_apart g.C.Key.Ord.cmp g.C.Kept.any c.args.first.now (g.C.Kept.key_of s.clause))) c.in-Some.number c.in-Some.ensures.1

pub loop-number-preserved : goal.loop-number-preserved
loop-number-preserved g c =
    (omega (arith, c.in-Some.ensures.0, c.past-from.ensures.later), passed_run _ (holds c.args.self.now.clauses (is_visible c.args.g)) _ (holds-both c.args.self.now.clauses (is_visible c.args.g) _) c.args.from c.loop-number.from c.loop-number.invariant.1 c.in-Some.number c.past-from.result c.in-Some.ensures c.past-from.ensures.unseen)
