use Rattle.std.proofs.Common.{sym, subst}
use Rattle.std.specs.List.{All}
use Rattle.std.specs.Prelude.{IsSome}
use Rattle.pl_term.specs.Tree.{Tree}
use Rattle.term_store.specs.ArgumentKeys.{clause_key, key_atoms}
use Rattle.term_store.specs.declared.argument_key.ArgumentKey.{ArgumentKey}
use Rattle.term_store.specs.NumberedNames.{names_of, term_by}
use Rattle.world_api.specs.Answers.{CanVisit, Visited}
use Rattle.world_api.specs.Asked.{IsInAnswer}
use Rattle.world_api.specs.Gains.{Gains}
use Rattle.world_api.specs.Texts.{text_of}
use Rattle.world_api.specs.Visits.{visit_names}
use Rattle.world_api.specs.declared.answer.Answer.TheVariants.{Served, Waits}
use Rattle.world_api.specs.declared.visit.Visit.{Visit}
use Rattle.iso_engine.proofs.CollectGoals.{can_visit, collected_by, names_nothing, never_waits}
use Rattle.iso_engine.proofs.state.collecting.ask_for_cycle.Goals as goal

pub visit-requires-clause-held : goal.visit-requires-clause-held
visit-requires-clause-held g c =
    let m = g.W.A.Atoms.held c.args.atoms.now in
    subst (λ (v : Visit Tree ArgumentKey). All (λ a. IsSome (m a)) (visit_names names_of key_atoms v)) (sym c.request.ensures) (names_nothing m c.args.collection)

pub visit-requires-clause-next : goal.visit-requires-clause-next
visit-requires-clause-next g c =
    let m = g.W.A.Atoms.held c.args.atoms.now in
    let t = g.W.World.told c.args.world.now in
    subst (λ (v : Visit Tree ArgumentKey). CanVisit term_by clause_key (text_of m) v t) (sym c.request.ensures) (can_visit (text_of m) c.args.collection t)

pub unreachable-requires : goal.unreachable-requires
unreachable-requires g c =
    let m = text_of (g.W.A.Atoms.held c.args.atoms.now) in
    let n = text_of (g.W.A.Atoms.held c.visit.new.atoms) in
    let t = g.W.World.told c.args.world.now in
    let u = g.W.World.told c.visit.new.self in
    let v = c.in-Waits.ensures.visited in
    never_waits m n t u v.0 c.args.collection c.in-Waits.on c.in-Waits.generation
    (subst (λ (w : Visit Tree ArgumentKey). Visited term_by clause_key m n w (Waits c.in-Waits.on c.in-Waits.generation) t v.0 u) c.request.ensures v.1)

pub returns-in-Served-clause-asked : goal.returns-in-Served-clause-asked
returns-in-Served-clause-asked g c =
    let m = text_of (g.W.A.Atoms.held c.args.atoms.now) in
    let n = text_of (g.W.A.Atoms.held c.visit.new.atoms) in
    let t = g.W.World.told c.args.world.now in
    let u = g.W.World.told c.visit.new.self in
    let v = c.in-Served.ensures.visited in
    collected_by m n t u v.0 c.args.collection c.in-Served.reply c.in-Served.generation
    (subst (λ (w : Visit Tree ArgumentKey). Visited term_by clause_key m n w (Served c.in-Served.reply c.in-Served.generation) t v.0 u) c.request.ensures v.1)

pub returns-in-Served-clause-gains : goal.returns-in-Served-clause-gains
returns-in-Served-clause-gains g c =
    let a = c.args.atoms.now in
    subst (λ (v : Visit Tree ArgumentKey). Gains (IsInAnswer term_by clause_key (text_of (g.W.A.Atoms.held a)) v (g.W.World.told c.args.world.now)) (g.W.A.Atoms.asked a) (g.W.A.Atoms.asked c.visit.new.atoms))
    c.request.ensures c.in-Served.ensures.asked

pub returns-in-NeedsAtoms-clause-gains : goal.returns-in-NeedsAtoms-clause-gains
returns-in-NeedsAtoms-clause-gains g c =
    let a = c.args.atoms.now in
    subst (λ (v : Visit Tree ArgumentKey). Gains (IsInAnswer term_by clause_key (text_of (g.W.A.Atoms.held a)) v (g.W.World.told c.args.world.now)) (g.W.A.Atoms.asked a) (g.W.A.Atoms.asked c.visit.new.atoms))
    c.request.ensures c.in-NeedsAtoms.ensures.asked

pub returns-in-Retry-clause-gains : goal.returns-in-Retry-clause-gains
returns-in-Retry-clause-gains g c =
    let a = c.args.atoms.now in
    subst (λ (v : Visit Tree ArgumentKey). Gains (IsInAnswer term_by clause_key (text_of (g.W.A.Atoms.held a)) v (g.W.World.told c.args.world.now)) (g.W.A.Atoms.asked a) (g.W.A.Atoms.asked c.visit.new.atoms))
    c.request.ensures c.in-Retry.ensures.asked

pub returns-in-Worn-clause-gains : goal.returns-in-Worn-clause-gains
returns-in-Worn-clause-gains g c =
    let a = c.args.atoms.now in
    subst (λ (v : Visit Tree ArgumentKey). Gains (IsInAnswer term_by clause_key (text_of (g.W.A.Atoms.held a)) v (g.W.World.told c.args.world.now)) (g.W.A.Atoms.asked a) (g.W.A.Atoms.asked c.visit.new.atoms))
    c.request.ensures c.in-Worn.ensures.asked

pub returns-in-Memory-clause-gains : goal.returns-in-Memory-clause-gains
returns-in-Memory-clause-gains g c =
    let a = c.args.atoms.now in
    subst (λ (v : Visit Tree ArgumentKey). Gains (IsInAnswer term_by clause_key (text_of (g.W.A.Atoms.held a)) v (g.W.World.told c.args.world.now)) (g.W.A.Atoms.asked a) (g.W.A.Atoms.asked c.visit.new.atoms))
    c.request.ensures c.in-Memory.ensures.asked
