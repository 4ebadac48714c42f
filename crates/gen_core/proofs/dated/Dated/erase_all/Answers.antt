use Rattle.gen_core.proofs.RunLaws.{gone_by, runs_stay}
use Rattle.gen_core.proofs.SharedLaws.{kept_by, shared_stay}
use Rattle.gen_core.proofs.dated.Dated.erase_all.Goals as goal

pub invariant_of-self : goal.invariant_of-self
invariant_of-self g c =
    let old = c.self.inside.index.clauses in
    let new = c.erase_all.new.self.clauses in (
      c.erase_all.ensures.sound,
      runs_stay old new c.self.inside.runs c.self.invariant.1 (gone_by old new c.erase_all.result c.erase_all.ensures.stay c.erase_all.ensures.err),
      shared_stay g.C.Key.Ord.cmp g.C.Kept.any g.C.Kept.key_of old new c.self.inside.shared c.self.invariant.2 (kept_by old new c.erase_all.result c.erase_all.ensures.kept c.erase_all.ensures.err),
    )
