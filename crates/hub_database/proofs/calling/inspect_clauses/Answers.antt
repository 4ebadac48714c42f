use Rattle.std.proofs.Common.{◌≡◌, sym, subst}
use Rattle.std.specs.Prelude.{IsSome}
use Rattle.std.specs.List.{All}
use Rattle.pl_model.specs.Predicates.{proc_of as predicate_of}
use Rattle.pl_model.specs.Requests as requests
use Rattle.atom_api.specs.Names.{Names}
use Rattle.atom_words.specs.Seats.{seen}
use Rattle.atom_table.specs.Naming.{names}
use Rattle.term_store.specs.ArgumentKeys.{key_atoms}
use Rattle.world_api.specs.Texts.{text_of}
use Rattle.world_api.specs.Visits.{proc_named}
use Rattle.counted_terms.specs.CountedTerms.{said}
use Rattle.counted_terms.specs.Keeping.{keeper_view}
use Rattle.hub_database.specs.Database.{clause_counts}
use Rattle.hub_database.specs.Rows.{Tells}
use Rattle.hub_database.proofs.CalledClauses.{inspected_tells}
use Rattle.hub_database.proofs.Deciding.{quiet_then, steady_database}
use Rattle.hub_database.proofs.HintedCalls.{counts_steady, steady_then}
use Rattle.hub_database.proofs.calling.inspect_clauses.Goals as goal

pub inspect_by_text-requires-clause-counts : goal.inspect_by_text-requires-clause-counts
inspect_by_text-requires-clause-counts g c = counts_steady (clause_counts c.args.db.now) (keeper_view c.args.keeper.now) (keeper_view c.opened.new.keeper) c.args.generation c.requires.counts c.opened.ensures.steady

pub inspect_by_text-requires-clause-name : goal.inspect_by_text-requires-clause-name
inspect_by_text-requires-clause-name g c = subst (λ (m : Names). IsSome (m c.args.procedure.now.name)) (sym c.in-None.ensures.missed) c.requires.name

pub inspect_by_text-requires-clause-key : goal.inspect_by_text-requires-clause-key
inspect_by_text-requires-clause-key g c = subst (λ (m : Names). All (λ a. IsSome (m a)) (key_atoms c.args.first.now)) (sym c.in-None.ensures.missed) c.requires.key

pub returns-in-None-clause-steady : goal.returns-in-None-clause-steady
returns-in-None-clause-steady g c = steady_then (keeper_view c.args.keeper.now) (keeper_view c.opened.new.keeper) (keeper_view c.inspect_by_text.new.keeper) c.opened.ensures.steady c.inspect_by_text.ensures.steady

pub returns-in-None-clause-quiet : goal.returns-in-None-clause-quiet
returns-in-None-clause-quiet g c = quiet_then (seen c.args.atoms.now.seat) (seen c.opened.new.atoms.seat) (seen c.inspect_by_text.new.atoms.seat) c.opened.ensures.quiet c.inspect_by_text.ensures.quiet

pub returns-in-None-clause-says : goal.returns-in-None-clause-says
returns-in-None-clause-says g c = λ goals e h t at is own key.
    subst (λ (m : Names). Tells goals e (text_of (names (seen c.inspect_by_text.new.atoms.seat))) (requests.inspected_clauses (said m t)) h c.inspect_by_text.result) c.in-None.ensures.missed
    (c.inspect_by_text.ensures.says goals e h t at (steady_database (keeper_view c.args.keeper.now) (keeper_view c.opened.new.keeper) c.args.db.now goals h c.opened.ensures.steady.keeps is)
    (subst (λ (m : Names). predicate_of (said m t) ≡ proc_named (text_of m) c.args.procedure.now) (sym c.in-None.ensures.missed) own) key)

pub returns-in-Some-clause-says : goal.returns-in-Some-clause-says
returns-in-Some-clause-says g c = λ goals e h t at is own key.
    let v = names (seen c.args.atoms.now.seat) in
    let found = c.in-Some.ensures.says goals h t at is own key in
    inspected_tells goals e h (keeper_view c.args.keeper.now) c.args.db.now c.args.generation at is (said v t) (proc_named (text_of v) c.args.procedure.now) own (text_of (names (seen c.opened.new.atoms.seat))) found.open_ c.in-Some.row found.hands
