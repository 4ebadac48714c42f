use Rattle.gen_core.proofs.Listed.{droppable_is, droppable_none}
use Rattle.gen_core.proofs.clause_index.ClauseIndex.droppable.Goals as goal

pub returns-in-Some : goal.returns-in-Some
returns-in-Some g c =
    droppable_is g.C.Key.Ord.cmp g.C.Kept.any g.C.Kept.key_of c.args.self.now c.requires c.args.floor c.in-Some.place c.in-Some.field-0-1 c.in-Some.ensures.0 c.in-Some.ensures.1

pub returns-in-None : goal.returns-in-None
returns-in-None g c = droppable_none g.C.Key.Ord.cmp g.C.Kept.any g.C.Kept.key_of c.args.self.now c.requires c.args.floor c.in-None.ensures
