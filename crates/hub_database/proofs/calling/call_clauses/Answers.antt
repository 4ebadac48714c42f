use Rattle.std.proofs.Common.{◌≡◌, sym, subst}
use Rattle.std.specs.Prelude.{IsSome}
use Rattle.std.specs.List.{All}
use Rattle.pl_model.specs.Predicates.{proc_of as predicate_of}
use Rattle.pl_model.specs.Requests as requests
use Rattle.atom_api.specs.Names.{Names}
use Rattle.atom_words.specs.Seats.{seen}
use Rattle.atom_table.specs.Naming.{names}
use Rattle.term_store.specs.ArgumentKeys.{key_atoms}
use Rattle.world_api.specs.Texts.{text_of}
use Rattle.world_api.specs.Visits.{proc_named}
use Rattle.counted_terms.specs.CountedTerms.{said}
use Rattle.counted_terms.specs.Keeping.{keeper_view}
use Rattle.hub_database.specs.Database.{clause_counts}
use Rattle.hub_database.specs.Rows.{Tells}
use Rattle.hub_database.proofs.Deciding.{quiet_then, steady_database}
use Rattle.hub_database.proofs.HintedCalls.{counts_steady, steady_then}
use Rattle.hub_database.proofs.calling.call_clauses.Goals as goal

pub call_by_text-requires-clause-counts : goal.call_by_text-requires-clause-counts
call_by_text-requires-clause-counts g c = counts_steady (clause_counts c.args.db.now) (keeper_view c.args.keeper.now) (keeper_view c.called.new.keeper) c.args.generation c.requires.counts c.called.ensures.steady

pub call_by_text-requires-clause-name : goal.call_by_text-requires-clause-name
call_by_text-requires-clause-name g c = subst (λ (m : Names). IsSome (m c.args.procedure.now.name)) (sym c.in-None.ensures.missed) c.requires.name

pub call_by_text-requires-clause-key : goal.call_by_text-requires-clause-key
call_by_text-requires-clause-key g c = subst (λ (m : Names). All (λ a. IsSome (m a)) (key_atoms c.args.first.now)) (sym c.in-None.ensures.missed) c.requires.key

pub returns-in-None-clause-steady : goal.returns-in-None-clause-steady
returns-in-None-clause-steady g c = steady_then (keeper_view c.args.keeper.now) (keeper_view c.called.new.keeper) (keeper_view c.call_by_text.new.keeper) c.called.ensures.steady c.call_by_text.ensures.steady

pub returns-in-None-clause-quiet : goal.returns-in-None-clause-quiet
returns-in-None-clause-quiet g c = quiet_then (seen c.args.atoms.now.seat) (seen c.called.new.atoms.seat) (seen c.call_by_text.new.atoms.seat) c.called.ensures.quiet c.call_by_text.ensures.quiet

pub returns-in-None-clause-says : goal.returns-in-None-clause-says
returns-in-None-clause-says g c = λ goals e h t at is own key.
    subst (λ (m : Names). Tells goals e (text_of (names (seen c.call_by_text.new.atoms.seat))) (requests.call_clauses (said m t)) h c.call_by_text.result) c.in-None.ensures.missed
    (c.call_by_text.ensures.says goals e h t at (steady_database (keeper_view c.args.keeper.now) (keeper_view c.called.new.keeper) c.args.db.now goals h c.called.ensures.steady.keeps is)
    (subst (λ (m : Names). predicate_of (said m t) ≡ proc_named (text_of m) c.args.procedure.now) (sym c.in-None.ensures.missed) own) key)
