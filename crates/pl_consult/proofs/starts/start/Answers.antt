use Rattle.std.proofs.Common.{IsSome, refl}
use Rattle.pl_model.specs.Requests.{start_goal}
use Rattle.term_store.specs.NumberedNames.{names_of, term_by}
use Rattle.world_api.specs.Texts.{text_of}
use Rattle.script_api.proofs.LaterLaws.{later_by, later_same}
use Rattle.pl_consult.proofs.AddLaws.{added_named}
use Rattle.pl_consult.proofs.StartLaws.{start_serves, start_told, start_started, visit_asked}
use Rattle.pl_consult.proofs.starts.start.Goals as goal

pub refused_by-requires : goal.refused_by-requires
refused_by-requires g c =
    start_told term_by _ (text_of (g.W.A.Atoms.held c.args.atoms.now)) (text_of (g.W.A.Atoms.held c.visit.new.atoms)) c.args.number c.args.kept c.in-Served.reply
    c.in-Served.generation (g.W.World.told c.args.world.now) c.in-Served.ensures.visited.0 (g.W.World.told c.visit.new.self) c.in-Served.ensures.visited.1

pub unreachable-requires : goal.unreachable-requires
unreachable-requires g c =
    let v = c.in-Waits.ensures.visited in
    start_serves _ _ v.0 _ _ (v.1.1.waiting (start_goal c.args.number (term_by (text_of (g.W.A.Atoms.held c.args.atoms.now)) c.args.kept)) refl)

pub returns-in-Served-clause-starts : goal.returns-in-Served-clause-starts
returns-in-Served-clause-starts g c =
    start_started term_by _ (text_of (g.W.A.Atoms.held c.args.atoms.now)) (text_of (g.W.A.Atoms.held c.visit.new.atoms)) c.args.number c.args.kept c.in-Served.reply
    c.in-Served.generation (g.W.World.told c.args.world.now) c.in-Served.ensures.visited.0 (g.W.World.told c.visit.new.self) c.refused_by.result
    c.in-Served.ensures.visited.1 c.refused_by.ensures

pub returns-in-Served-clause-named : goal.returns-in-Served-clause-named
returns-in-Served-clause-named g c =
    added_named (λ a. IsSome (g.W.A.Atoms.held c.visit.new.atoms a)) names_of c.in-Served.reply c.refused_by.result c.refused_by.ensures c.in-Served.ensures.names

pub returns-in-Served-clause-told : goal.returns-in-Served-clause-told
returns-in-Served-clause-told g c =
    let v = c.in-Served.ensures.visited in
    later_by (g.W.World.told c.args.world.now) (g.W.World.told c.visit.new.self) v.0 v.1.1.update _ v.1.0 v.1.1.told

pub returns-in-NeedsAtoms-clause-told : goal.returns-in-NeedsAtoms-clause-told
returns-in-NeedsAtoms-clause-told g c = later_same (g.W.World.told c.args.world.now) (g.W.World.told c.visit.new.self) c.in-NeedsAtoms.ensures.visited.1

pub returns-in-Retry-clause-told : goal.returns-in-Retry-clause-told
returns-in-Retry-clause-told g c = later_same (g.W.World.told c.args.world.now) (g.W.World.told c.visit.new.self) c.in-Retry.ensures.visited.1

pub returns-in-Worn-clause-told : goal.returns-in-Worn-clause-told
returns-in-Worn-clause-told g c = later_same (g.W.World.told c.args.world.now) (g.W.World.told c.visit.new.self) c.in-Worn.ensures.visited.1

pub returns-in-Memory-clause-told : goal.returns-in-Memory-clause-told
returns-in-Memory-clause-told g c = later_same (g.W.World.told c.args.world.now) (g.W.World.told c.visit.new.self) c.in-Memory.ensures.visited.1

pub returns-in-Served-clause-asked : goal.returns-in-Served-clause-asked
returns-in-Served-clause-asked g c =
    visit_asked term_by _ (text_of (g.W.A.Atoms.held c.args.atoms.now)) (text_of (g.W.A.Atoms.held c.visit.new.atoms)) c.args.number c.args.kept
    (g.W.World.told c.args.world.now) (g.W.A.Atoms.asked c.args.atoms.now) (g.W.A.Atoms.asked c.visit.new.atoms) c.in-Served.ensures.asked

pub returns-in-NeedsAtoms-clause-asked : goal.returns-in-NeedsAtoms-clause-asked
returns-in-NeedsAtoms-clause-asked g c =
    visit_asked term_by _ (text_of (g.W.A.Atoms.held c.args.atoms.now)) (text_of (g.W.A.Atoms.held c.visit.new.atoms)) c.args.number c.args.kept
    (g.W.World.told c.args.world.now) (g.W.A.Atoms.asked c.args.atoms.now) (g.W.A.Atoms.asked c.visit.new.atoms) c.in-NeedsAtoms.ensures.asked

pub returns-in-Retry-clause-asked : goal.returns-in-Retry-clause-asked
returns-in-Retry-clause-asked g c =
    visit_asked term_by _ (text_of (g.W.A.Atoms.held c.args.atoms.now)) (text_of (g.W.A.Atoms.held c.visit.new.atoms)) c.args.number c.args.kept
    (g.W.World.told c.args.world.now) (g.W.A.Atoms.asked c.args.atoms.now) (g.W.A.Atoms.asked c.visit.new.atoms) c.in-Retry.ensures.asked

pub returns-in-Worn-clause-asked : goal.returns-in-Worn-clause-asked
returns-in-Worn-clause-asked g c =
    visit_asked term_by _ (text_of (g.W.A.Atoms.held c.args.atoms.now)) (text_of (g.W.A.Atoms.held c.visit.new.atoms)) c.args.number c.args.kept
    (g.W.World.told c.args.world.now) (g.W.A.Atoms.asked c.args.atoms.now) (g.W.A.Atoms.asked c.visit.new.atoms) c.in-Worn.ensures.asked

pub returns-in-Memory-clause-asked : goal.returns-in-Memory-clause-asked
returns-in-Memory-clause-asked g c =
    visit_asked term_by _ (text_of (g.W.A.Atoms.held c.args.atoms.now)) (text_of (g.W.A.Atoms.held c.visit.new.atoms)) c.args.number c.args.kept
    (g.W.World.told c.args.world.now) (g.W.A.Atoms.asked c.args.atoms.now) (g.W.A.Atoms.asked c.visit.new.atoms) c.in-Memory.ensures.asked
