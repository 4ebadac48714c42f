use Rattle.std.proofs.Common.{refl, sym, subst, arith, length}
use Rattle.atom_words.specs.Seats.{seen}
use Rattle.pl_history.specs.Fronts.{FrontState}
use Rattle.pl_term.specs.Tree.{Tree}
use Rattle.world_api.specs.declared.answer.Answer.{Answer}
use Rattle.world_api.specs.declared.visit.Visit.TheVariants.{Next}
use Rattle.counted_terms.specs.Keeping.{keeper_view}
use Rattle.hub_database.proofs.Readings.{all_counted}
use Rattle.pl_hub.specs.Settling.{next_answer, next_front}
use Rattle.pl_hub.specs.State.{IsShared}
use Rattle.pl_hub.specs.Visits.{IsVisit}
use Rattle.pl_hub.proofs.ClauseRows.{clause_counts_of, shared_steady}
use Rattle.pl_hub.proofs.NextClauses.{next_by}
use Rattle.pl_hub.proofs.shared.Shared.next_clause.Goals as goal

pub next_clause-found-requires-clause-counted : goal.next_clause-found-requires-clause-counted
next_clause-found-requires-clause-counted g c =
    all_counted (keeper_view c.self.inside.keeper) c.self.inside.db (length c.self.inside.front.seen) (clause_counts_of c.self.invariant (length c.self.inside.front.seen) refl)

pub invariant_of-self : goal.invariant_of-self
invariant_of-self g c =
    subst (λ (x : FrontState). IsShared g.K.NamesTable.atoms g.K.NamesTable.size g.K.Naming.history g.K.Naming.goals x c.next_clause-found.new.keeper c.self.inside.db c.self.inside.queues c.self.inside.count c.self.inside.begun.items)
    (sym c.settle_next.ensures.hub)
    (shared_steady g.K.NamesTable.atoms g.K.NamesTable.size g.K.Naming.history g.K.Naming.goals c.self.inside.front c.self.inside.keeper c.next_clause-found.new.keeper c.self.inside.db c.self.inside.queues c.self.inside.count c.self.inside.begun.items
    c.self.invariant c.is_sound.ensures c.next_clause-found.ensures.keeper (record { keeps = c.next_clause-found.ensures.keeps; counts = c.next_clause-found.ensures.counts }))

pub returns : goal.returns
returns g c =
    let v = seen c.args.atoms.now.seat in
    let w = seen c.next_clause-found.new.atoms.seat in
    let f = c.self.inside.front in
    let found = c.next_clause-found.result in
    let visit = Next c.args.procedure c.args.first c.args.generation c.args.place in
    subst (λ (x : Answer Tree). IsVisit g.K.Naming.history g.K.Naming.goals c.args.engine v w visit x c.args.front.now c.settle_next.new.front c.args.self.now c.settle_next.new.hub) (sym c.settle_next.ensures.answer)
    (subst (λ (x : FrontState). IsVisit g.K.Naming.history g.K.Naming.goals c.args.engine v w visit (next_answer c.args.generation found) c.args.front.now x c.args.self.now c.settle_next.new.hub) (sym c.settle_next.ensures.front)
    (subst (λ (x : FrontState). IsVisit g.K.Naming.history g.K.Naming.goals c.args.engine v w visit (next_answer c.args.generation found) c.args.front.now (next_front found f.seen c.args.front.now) c.args.self.now x) (sym c.settle_next.ensures.hub)
    (subst (λ (x : FrontState). IsVisit g.K.Naming.history g.K.Naming.goals c.args.engine v w visit (next_answer c.args.generation found) c.args.front.now (next_front found f.seen c.args.front.now) x f) c.self.view_is
    (next_by g.K.Naming.history g.K.Naming.goals c.args.engine v w c.args.atoms.now.lawful (keeper_view c.self.inside.keeper) c.self.inside.db f c.self.invariant.database c.args.front.now c.requires.front
    c.args.procedure c.args.first c.args.generation c.args.place (let z = c.self.invariant.floor in omega (arith, z)) c.requires.next found
    c.next_clause-found.ensures.says c.settle_next.ensures.sees c.next_clause-found.ensures.named c.next_clause-found.ensures.holds c.next_clause-found.ensures.refusals c.next_clause-found.ensures.requests))))
