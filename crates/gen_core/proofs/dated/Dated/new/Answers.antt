use Rattle.gen_core.proofs.RunLaws.{runs_none}
use Rattle.gen_core.proofs.SharedLaws.{shared_empty}
use Rattle.gen_core.proofs.dated.Dated.new.Goals as goal

pub invariant_of-result : goal.invariant_of-result
invariant_of-result g c = (
  c.new.ensures.sound,
  runs_none c.new.result.clauses c.new.result.clauses c.new-2.result c.new-2.ensures,
  shared_empty g.C.Key.Ord.cmp g.C.Kept.any g.C.Kept.key_of c.new.result.clauses c.new-3.result c.new.ensures.none,
)
