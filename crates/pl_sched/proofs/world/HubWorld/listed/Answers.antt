use Rattle.std.proofs.Common.{refl, sym, subst}
use Rattle.atom_words.specs.Seats.{seen}
use Rattle.atom_table.specs.Naming.{names}
use Rattle.term_store.specs.ArgumentKeys.{clause_key}
use Rattle.term_store.specs.NumberedNames.{term_by}
use Rattle.world_api.specs.Answers.{CanVisit}
use Rattle.world_api.specs.Texts.{text_of}
use Rattle.world_api.specs.Visits.{visit_for}
use Rattle.pl_history.specs.Fronts.{FrontState}
use Rattle.pl_hub.specs.Fronts.{told_of}
use Rattle.pl_sched.proofs.Again.{visit_answered}
use Rattle.pl_sched.proofs.OnlyLaws.{begun_after}
use Rattle.pl_sched.proofs.Running.{same_visit}
use Rattle.pl_sched.proofs.world.HubWorld.listed.Goals as goal

pub listed-requires-clause-next : goal.listed-requires-clause-next
listed-requires-clause-next g c =
    subst (λ (f : FrontState). CanVisit term_by clause_key (text_of (names (seen c.args.atoms.now.seat))) (visit_for c.args.asked.now) (told_of g.K.Naming.goals f)) (sym c.self.view_is) c.requires.next

pub listed-requires-clause-begun : goal.listed-requires-clause-begun
listed-requires-clause-begun g c = c.self.invariant.2

pub returns : goal.returns
returns g c = visit_answered (same_visit refl c.self.view_is c.listed.ensures)

pub invariant_of-self : goal.invariant_of-self
invariant_of-self g c =
    (c.self.invariant.0, c.listed.ensures.own, begun_after c.listed.result c.self.inside.front c.listed.new.front _ _ c.listed.ensures c.self.invariant.2)
