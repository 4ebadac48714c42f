use Rattle.std.proofs.Common.{ℕ}
use Rattle.std.specs.Prelude.{IsSome, Option, false, ◌≡◌}
use Rattle.std.specs.List.{All}
use Rattle.pl_term.specs.Tree.{Tree}
use Rattle.pl_model.specs.History.{History}
use Rattle.atom_words.specs.Seats.{seen}
use Rattle.atom_table.specs.Naming.{names}
use Rattle.term_store.specs.ArgumentKeys.{clause_key}
use Rattle.term_store.specs.NumberedNames.{names_of, term_by}
use Rattle.world_api.specs.declared.answer.Answer.TheVariants.{Served}
use Rattle.world_api.specs.declared.reply.Found.{Found}
use Rattle.world_api.specs.declared.reply.Reply.TheVariants.{Clauses}
use Rattle.world_api.specs.Answers.{Visited}
use Rattle.world_api.specs.Replies.{found_names}
use Rattle.world_api.specs.Texts.{text_of}
use Rattle.world_api.specs.Told.{has_ended}
use Rattle.world_api.specs.Visits.{visit_for}
use Rattle.kept_answers.specs.Answered.{found_at}
use Rattle.pl_hub.specs.Fronts.{told_of}
use Rattle.pl_sched.specs.Answering.{IsAnswered}
use Rattle.pl_sched.proofs.Again.{if_known}
use Rattle.pl_sched.proofs.world.HubWorldWorld.again.Goals as goal

pub returns-clause-visited : goal.returns-clause-visited
returns-clause-visited g c =
    let v = seen c.args.atoms.now.atoms.seat in
    let b = c.known.new.atoms in
    let f : Option (Found Tree) = found_at b.answers.spaces.items b.at b.nothing in
    if_known (λ (n : ℕ). IsAnswered g.K.Naming.goals v (seen b.atoms.seat) (visit_for c.args.asked.now) (Served (Clauses f) n) c.args.self.now c.known.new.self)
    (λ (n : ℕ). (before : History) × Visited term_by clause_key (text_of (names v)) (text_of (names (seen b.atoms.seat))) (visit_for c.args.asked.now) (Served (Clauses f) n) (told_of g.K.Naming.goals c.args.self.now) before (told_of g.K.Naming.goals c.known.new.self))
    (λ n a. (a.before, a.visited)) c.known.result c.known.ensures.some

pub returns-clause-runs : goal.returns-clause-runs
returns-clause-runs g c =
    let v = seen c.args.atoms.now.atoms.seat in
    let b = c.known.new.atoms in
    let f : Option (Found Tree) = found_at b.answers.spaces.items b.at b.nothing in
    if_known (λ (n : ℕ). IsAnswered g.K.Naming.goals v (seen b.atoms.seat) (visit_for c.args.asked.now) (Served (Clauses f) n) c.args.self.now c.known.new.self)
    (λ (n : ℕ). has_ended (told_of g.K.Naming.goals c.known.new.self).engine (told_of g.K.Naming.goals c.known.new.self).history ≡ false)
    (λ n a. a.runs) c.known.result c.known.ensures.some

pub returns-clause-names : goal.returns-clause-names
returns-clause-names g c =
    let v = seen c.args.atoms.now.atoms.seat in
    let b = c.known.new.atoms in
    let f : Option (Found Tree) = found_at b.answers.spaces.items b.at b.nothing in
    if_known (λ (n : ℕ). IsAnswered g.K.Naming.goals v (seen b.atoms.seat) (visit_for c.args.asked.now) (Served (Clauses f) n) c.args.self.now c.known.new.self)
    (λ (n : ℕ). All (λ x. IsSome (names (seen b.atoms.seat) x)) (found_names names_of f))
    (λ n a. a.named) c.known.result c.known.ensures.some
