use Rattle.std.proofs.Common.{true}
use Rattle.gen_core.proofs.RunLaws.{number_below}
use Rattle.gen_core.proofs.clause_index.ClauseIndex.next_seen.Goals as goal

pub past-from-requires-clause-bound : goal.past-from-requires-clause-bound
past-from-requires-clause-bound g c =
    number_below g.C.Key.Ord.cmp g.C.Kept.any g.C.Kept.key_of c.args.self.now c.requires.sound (λ d. true) c.in-Some.number c.in-Some.ensures.1
