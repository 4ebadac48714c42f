use Rattle.gen_core.proofs.RunLaws.{stay_all}
use Rattle.gen_core.proofs.SharedLaws.{kept_all}
use Rattle.std.proofs.Common.{ap, map, refl, ◌∙◌}
use Rattle.gen_core.proofs.AllErased.{sound_all, clauses_all}
use Rattle.gen_core.proofs.clause_index.ClauseIndex.erase_all.Goals as goal

pub returns-clause-sound : goal.returns-clause-sound
returns-clause-sound g c =
    sound_all g.C.Key.Ord.cmp g.C.Kept.any g.C.Kept.key_of c.args.self.now _ c.args.place c.requires c.mark_all.ensures.ordered c.mark_all.ensures.entries refl refl c.in_ok-self.ensures

pub returns-clause-ok : goal.returns-clause-ok
returns-clause-ok g c = ap (map (λ e. e.1.dated)) c.mark_all.ensures.entries ∙ clauses_all c.args.place c.args.self.now.clauses.entries

pub returns-clause-stay : goal.returns-clause-stay
returns-clause-stay g c = stay_all c.args.self.now.clauses c.mark_all.new.self c.args.place c.mark_all.ensures.entries

pub returns-clause-kept : goal.returns-clause-kept
returns-clause-kept g c = kept_all c.args.self.now.clauses c.mark_all.new.self c.args.place c.mark_all.ensures.entries
