use Rattle.std.proofs.Common.{◌≡◌, ℕ, Option, sym, subst}
use Rattle.std.specs.Prelude.{IsSome, is_some, true}
use Rattle.std.specs.List.{All, slice_get}
use Rattle.std.proofs.lemmas.Result.{IfOk-weaker}
use Rattle.pl_term.specs.Tree.{Chars, Tree}
use Rattle.pl_model.specs.Database.{choices}
use Rattle.pl_model.specs.FirstArguments.{head_of}
use Rattle.pl_model.specs.History.{Clause, Proc}
use Rattle.pl_model.specs.Predicates.{is_excluded}
use Rattle.pl_model.specs.laws.Shown.{proc_of}
use Rattle.clause_db.specs.Parts.{Piece}
use Rattle.clause_db.specs.Stands.{program_access}
use Rattle.term_store.specs.ArgumentKeys.{key_atoms}
use Rattle.term_store.specs.NumberedNames.{term_by}
use Rattle.atom_api.specs.Names.{Names}
use Rattle.atom_words.specs.Seats.{seen}
use Rattle.atom_table.specs.Naming.{names}
use Rattle.world_api.specs.Replies.{IsFront}
use Rattle.world_api.specs.Texts.{text_of}
use Rattle.world_api.specs.Visits.{proc_named}
use Rattle.world_api.specs.declared.reply.Found.{Found}
use Rattle.counted_terms.specs.CountedTerms.{said}
use Rattle.counted_terms.specs.Keeping.{keeper_view}
use Rattle.hub_database.specs.Clauses.{clause_by}
use Rattle.hub_database.specs.Database.{databases}
use Rattle.hub_database.specs.Rows.{HandsOut}
use Rattle.hub_database.proofs.CalledClauses.{known_tells}
use Rattle.hub_database.proofs.Deciding.{quiet_then}
use Rattle.hub_database.proofs.Fronts.{some_at}
use Rattle.hub_database.proofs.HintedCalls.{handed_out, known_there}
use Rattle.hub_database.proofs.Readings.{all_counted}
use Rattle.hub_database.proofs.finding.called_as_noted.Goals as goal

pub first_clause-requires-clause-counted : goal.first_clause-requires-clause-counted
first_clause-requires-clause-counted g c = all_counted (keeper_view c.args.keeper.now) c.args.db.now c.args.generation c.requires.counts

pub first_clause-requires-clause-key : goal.first_clause-requires-clause-key
first_clause-requires-clause-key g c = subst (λ (m : Names). All (λ a. IsSome (m a)) (key_atoms c.args.first.now)) (sym c.noted_place.ensures.held) c.requires.key

pub returns-clause-steady : goal.returns-clause-steady
returns-clause-steady g c = record { keeps = c.first_clause.ensures.keeps; counts = c.first_clause.ensures.counts }

pub returns-clause-quiet : goal.returns-clause-quiet
returns-clause-quiet g c =
    quiet_then (seen c.args.atoms.now.seat) (seen c.noted_place.new.atoms.seat) (seen c.first_clause.new.atoms.seat) c.noted_place.ensures.quiet
    (record { holds = c.first_clause.ensures.holds; refusals = c.first_clause.ensures.refusals; requests = c.first_clause.ensures.requests })

pub returns-clause-says : goal.returns-clause-says
returns-clause-says g c = λ goals e h t at is own key.
    let v : Names = names (seen c.args.atoms.now.seat) in
    let k = keeper_view c.args.keeper.now in
    let text : ℕ → Chars = text_of (names (seen c.first_clause.new.atoms.seat)) in
    let p = proc_named (text_of v) c.args.procedure.now in
    let d = databases goals h in
    let g = c.args.generation in
    let part = slice_get c.args.db.now.parts c.in-Some.i in
    let there = c.in-Some.ensures.there in
    known_tells goals e h k c.args.db.now g at is (said v t) p own text
    (known_there (d g) p (some_at part (λ (x : Piece Tree). proc_of x.name) p there (λ (q : Proc). is_some (program_access (d g) q) ≡ true) (c.stands_at.ensures.there c.if-not-stands_at.false (clause_by k) d is.says)))
    c.handed.result
    (subst (HandsOut (λ f. IsFront term_by text f (choices (λ (x : Clause). is_excluded (head_of (said v t)) x.head) g p (d g)))) (sym c.handed.ensures.row)
    (handed_out c.first_clause.result (λ f. IsFront term_by text f (choices (λ (x : Clause). is_excluded (head_of (said v t)) x.head) g p (d g)))
    (IfOk-weaker c.first_clause.result _ (λ (f : Option (Found Tree)). IsFront term_by text f (choices (λ (x : Clause). is_excluded (head_of (said v t)) x.head) g p (d g)))
    (λ r front. subst (λ (m : Names). IsFront term_by text r (choices (λ (x : Clause). is_excluded (head_of (said m t)) x.head) g p (d g))) c.noted_place.ensures.held
    (some_at part (λ (x : Piece Tree). proc_of x.name) p there (λ (q : Proc). IsFront term_by text r (choices (λ (x : Clause). is_excluded (head_of (said (names (seen c.noted_place.new.atoms.seat)) t)) x.head) g q (d g))) front))
    (c.first_clause.ensures.says d t is.says key))))
