use Rattle.std.proofs.Common.{◌≡◌, ◌∷◌, [], ℕ, sym, subst}
use Rattle.std.specs.Prelude.{IsSome}
use Rattle.std.specs.List.{All}
use Rattle.pl_model.specs.History.{set_dynamic}
use Rattle.pl_model.specs.Predicates.{proc_of as predicate_of}
use Rattle.pl_model.specs.Requests as requests
use Rattle.atom_api.specs.Names.{Names}
use Rattle.atom_words.specs.Seats.{seen}
use Rattle.atom_table.specs.Naming.{names}
use Rattle.term_store.specs.ArgumentKeys.{key_atoms}
use Rattle.world_api.specs.Texts.{text_of}
use Rattle.world_api.specs.Visits.{proc_named}
use Rattle.counted_terms.specs.CountedTerms.{said}
use Rattle.counted_terms.specs.Keeping.{keeper_view}
use Rattle.hub_database.specs.Database.{IsDatabase, IsUpTo, clause_counts}
use Rattle.hub_database.specs.Rows.{Decides, history_after}
use Rattle.hub_database.proofs.CalledClauses.{cleared_tells}
use Rattle.hub_database.proofs.ChangedRows.{reply_after, reply_or_made, unmade_database}
use Rattle.hub_database.proofs.Deciding.{quiet_then, steady_database, told_decides}
use Rattle.hub_database.proofs.HintedCalls.{counts_steady, steady_then}
use Rattle.hub_database.proofs.procedures.clear_clauses.Goals as goal

pub clear_by_text-requires-clause-counts : goal.clear_by_text-requires-clause-counts
clear_by_text-requires-clause-counts g c = counts_steady (clause_counts c.args.db.now) (keeper_view c.args.keeper.now) (keeper_view c.opened.new.keeper) c.args.generation c.requires.counts c.opened.ensures.steady

pub clear_by_text-requires-clause-name : goal.clear_by_text-requires-clause-name
clear_by_text-requires-clause-name g c = subst (λ (m : Names). IsSome (m c.args.procedure.now.name)) (sym c.in-None.ensures.missed) c.requires.name

pub clear_by_text-requires-clause-key : goal.clear_by_text-requires-clause-key
clear_by_text-requires-clause-key g c = subst (λ (m : Names). All (λ a. IsSome (m a)) (key_atoms c.args.first.now)) (sym c.in-None.ensures.missed) c.requires.key

pub returns-in-None-clause-steady : goal.returns-in-None-clause-steady
returns-in-None-clause-steady g c = steady_then (keeper_view c.args.keeper.now) (keeper_view c.opened.new.keeper) (keeper_view c.clear_by_text.new.keeper) c.opened.ensures.steady c.clear_by_text.ensures.steady

pub returns-in-None-clause-quiet : goal.returns-in-None-clause-quiet
returns-in-None-clause-quiet g c = quiet_then (seen c.args.atoms.now.seat) (seen c.opened.new.atoms.seat) (seen c.clear_by_text.new.atoms.seat) c.opened.ensures.quiet c.clear_by_text.ensures.quiet

pub clear_by_text-requires-clause-has : goal.clear_by_text-requires-clause-has
clear_by_text-requires-clause-has g c =
    let has = c.requires.has in
    record { goals = has.goals; history = has.history; long = has.long; is = steady_database (keeper_view c.args.keeper.now) (keeper_view c.opened.new.keeper) c.args.db.now has.goals has.history c.opened.ensures.steady.keeps has.is }

pub returns-in-None-clause-database : goal.returns-in-None-clause-database
returns-in-None-clause-database g c = λ goals e h at is.
    subst (λ (m : Names). IsDatabase (keeper_view c.clear_by_text.new.keeper) c.clear_by_text.new.db goals (history_after e c.clear_by_text.result (set_dynamic (proc_named (text_of m) c.args.procedure.now ∷ [])) h)) c.in-None.ensures.missed
    (c.clear_by_text.ensures.database goals e h at (steady_database (keeper_view c.args.keeper.now) (keeper_view c.opened.new.keeper) c.args.db.now goals h c.opened.ensures.steady.keeps is))

pub returns-in-None-clause-says : goal.returns-in-None-clause-says
returns-in-None-clause-says g c = λ goals e h t at is own key.
    subst (λ (m : Names). Decides goals e (text_of (names (seen c.clear_by_text.new.atoms.seat))) (requests.cleared_clauses (said m t)) h (set_dynamic (proc_named (text_of m) c.args.procedure.now ∷ [])) (keeper_view c.clear_by_text.new.keeper) c.clear_by_text.new.db c.clear_by_text.result) c.in-None.ensures.missed
    (c.clear_by_text.ensures.says goals e h t at (steady_database (keeper_view c.args.keeper.now) (keeper_view c.opened.new.keeper) c.args.db.now goals h c.opened.ensures.steady.keeps is)
    (subst (λ (m : Names). predicate_of (said m t) ≡ proc_named (text_of m) c.args.procedure.now) (sym c.in-None.ensures.missed) own) key)

pub returns-in-Some-clause-upto : goal.returns-in-Some-clause-upto
returns-in-Some-clause-upto g c = subst (λ (n : ℕ). IsUpTo n c.args.db.now) (sym (reply_after c.in-Some.row c.in-Some.ensures.replies c.args.generation)) c.requires.upto

pub returns-in-Some-clause-replies : goal.returns-in-Some-clause-replies
returns-in-Some-clause-replies g c = reply_or_made c.in-Some.row c.in-Some.ensures.replies

pub returns-in-Some-clause-early : goal.returns-in-Some-clause-early
returns-in-Some-clause-early g c = λ n. absurd (n (reply_after c.in-Some.row c.in-Some.ensures.replies c.args.generation))

pub returns-in-Some-clause-database : goal.returns-in-Some-clause-database
returns-in-Some-clause-database g c = λ goals e h at is.
    unmade_database goals e h (keeper_view c.opened.new.keeper) c.args.db.now (set_dynamic (proc_named (text_of (names (seen c.args.atoms.now.seat))) c.args.procedure.now ∷ [])) c.in-Some.row c.args.generation (reply_after c.in-Some.row c.in-Some.ensures.replies c.args.generation)
    (steady_database (keeper_view c.args.keeper.now) (keeper_view c.opened.new.keeper) c.args.db.now goals h c.opened.ensures.steady.keeps is)

pub returns-in-Some-clause-says : goal.returns-in-Some-clause-says
returns-in-Some-clause-says g c = λ goals e h t at is own key.
    let v = names (seen c.args.atoms.now.seat) in
    let text = text_of (names (seen c.opened.new.atoms.seat)) in
    let p = proc_named (text_of v) c.args.procedure.now in
    let found = c.in-Some.ensures.says goals h t at is own key in
    told_decides goals e text (requests.cleared_clauses (said v t)) h (set_dynamic (p ∷ [])) (keeper_view c.opened.new.keeper) c.args.db.now
    (steady_database (keeper_view c.args.keeper.now) (keeper_view c.opened.new.keeper) c.args.db.now goals h c.opened.ensures.steady.keeps is) c.in-Some.row
    (cleared_tells goals e h (keeper_view c.args.keeper.now) c.args.db.now c.args.generation at is (said v t) p own text found.open_ found.known c.in-Some.row found.hands)
