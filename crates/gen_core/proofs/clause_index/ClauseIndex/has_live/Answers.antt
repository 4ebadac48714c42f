use Rattle.gen_core.proofs.Listed.{live_none, live_some}
use Rattle.gen_core.proofs.clause_index.ClauseIndex.has_live.Goals as goal

pub returns-in-Some : goal.returns-in-Some
returns-in-Some g c =
    live_some g.C.Key.Ord.cmp g.C.Kept.any g.C.Kept.key_of c.args.self.now c.requires c.args.clause c.in-Some.number c.is_live.result c.in-Some.ensures.number c.is_live.ensures

pub returns-in-None : goal.returns-in-None
returns-in-None g c =
    live_none g.C.Key.Ord.cmp g.C.Kept.any g.C.Kept.key_of c.args.self.now c.requires c.args.clause c.in-None.ensures.number
