use Rattle.std.proofs.Common.{sym, subst}
use Rattle.std.specs.Prelude.{IsSome}
use Rattle.std.specs.List.{All}
use Rattle.pl_term.specs.Tree.{Tree}
use Rattle.atom_words.specs.Seats.{seen}
use Rattle.atom_table.specs.Naming.{names}
use Rattle.term_store.specs.ArgumentKeys.{clause_key, key_atoms}
use Rattle.term_store.specs.NumberedNames.{names_of, term_by}
use Rattle.term_store.specs.declared.argument_key.ArgumentKey.{ArgumentKey}
use Rattle.world_api.specs.declared.visit.Visit.{Visit}
use Rattle.world_api.specs.declared.answer.Answer.TheVariants.{Memory}
use Rattle.world_api.specs.Answers.{CanVisit}
use Rattle.world_api.specs.Texts.{text_of}
use Rattle.world_api.specs.Visits.{visit_names}
use Rattle.pl_history.specs.Fronts.{FrontState}
use Rattle.pl_hub.specs.Fronts.{told_of}
use Rattle.pl_sched.specs.Answering.{IsAnswered}
use Rattle.pl_sched.proofs.Again.{memory_answered}
use Rattle.pl_sched.proofs.world.HubWorld.other.Goals as goal

pub locked-requires-clause-held : goal.locked-requires-clause-held
locked-requires-clause-held g c = subst (λ (x : Visit Tree ArgumentKey). All (λ a. IsSome (names (seen c.args.atoms.now.seat) a)) (visit_names names_of key_atoms x)) (sym c.in-Ok.ensures) c.requires.held

pub locked-requires-clause-next : goal.locked-requires-clause-next
locked-requires-clause-next g c =
    subst (λ (x : Visit Tree ArgumentKey). CanVisit term_by clause_key (text_of (names (seen c.args.atoms.now.seat))) x (told_of g.K.Naming.goals c.args.self.now)) (sym c.in-Ok.ensures) c.requires.next

pub returns-in-Ok : goal.returns-in-Ok
returns-in-Ok g c =
    subst (λ (x : Visit Tree ArgumentKey). IsAnswered g.K.Naming.goals (seen c.args.atoms.now.seat) (seen c.locked.new.atoms.seat) x c.locked.result c.args.self.now c.locked.new.self) c.in-Ok.ensures c.locked.ensures

pub returns-in-Err : goal.returns-in-Err
returns-in-Err g c =
    subst (λ (f : FrontState). IsAnswered g.K.Naming.goals (seen c.args.atoms.now.seat) (seen c.args.atoms.now.seat) c.args.visit Memory f f) c.self.view_is (memory_answered g.K.Naming.history g.K.Naming.goals c.self.inside.engine (seen c.args.atoms.now.seat) c.args.visit c.self.inside.front c.self.invariant.1)
