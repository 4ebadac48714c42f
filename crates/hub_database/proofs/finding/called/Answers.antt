use Rattle.std.proofs.Common.{◌≡◌, sym, subst, ◌∙◌}
use Rattle.std.specs.Prelude.{IfSome, IsSome}
use Rattle.std.specs.List.{All}
use Rattle.pl_model.specs.Predicates.{proc_of as predicate_of}
use Rattle.pl_model.specs.Requests as requests
use Rattle.atom_api.specs.Names.{Names}
use Rattle.atom_words.specs.Seats.{seen}
use Rattle.atom_table.specs.Naming.{names}
use Rattle.term_store.specs.ArgumentKeys.{key_atoms}
use Rattle.world_api.specs.Texts.{text_of}
use Rattle.world_api.specs.Visits.{proc_named}
use Rattle.counted_terms.specs.CountedTerms.{said}
use Rattle.counted_terms.specs.Keeping.{keeper_view}
use Rattle.hub_database.specs.Database.{clause_counts}
use Rattle.hub_database.specs.Rows.{Tells}
use Rattle.hub_database.proofs.Deciding.{quiet_then, steady_database}
use Rattle.hub_database.proofs.HintedCalls.{counts_steady, none_weaker, steady_then}
use Rattle.hub_database.proofs.finding.called.Goals as goal

pub called_as_noted-requires-clause-counts : goal.called_as_noted-requires-clause-counts
called_as_noted-requires-clause-counts g c = counts_steady (clause_counts c.args.db.now) (keeper_view c.args.keeper.now) (keeper_view c.called_by_number.new.keeper) c.args.generation c.requires.counts c.called_by_number.ensures.steady

pub called_as_noted-requires-clause-name : goal.called_as_noted-requires-clause-name
called_as_noted-requires-clause-name g c = subst (λ (m : Names). IsSome (m c.args.procedure.now.name)) (sym c.in-None.ensures.missed) c.requires.name

pub called_as_noted-requires-clause-key : goal.called_as_noted-requires-clause-key
called_as_noted-requires-clause-key g c = subst (λ (m : Names). All (λ a. IsSome (m a)) (key_atoms c.args.first.now)) (sym c.in-None.ensures.missed) c.requires.key

pub returns-in-None-clause-steady : goal.returns-in-None-clause-steady
returns-in-None-clause-steady g c = steady_then (keeper_view c.args.keeper.now) (keeper_view c.called_by_number.new.keeper) (keeper_view c.called_as_noted.new.keeper) c.called_by_number.ensures.steady c.called_as_noted.ensures.steady

pub returns-in-None-clause-quiet : goal.returns-in-None-clause-quiet
returns-in-None-clause-quiet g c = quiet_then (seen c.args.atoms.now.seat) (seen c.called_by_number.new.atoms.seat) (seen c.called_as_noted.new.atoms.seat) c.called_by_number.ensures.quiet c.called_as_noted.ensures.quiet

pub returns-in-None-clause-missed : goal.returns-in-None-clause-missed
returns-in-None-clause-missed g c = none_weaker c.called_as_noted.result (λ e. e ∙ c.in-None.ensures.missed) c.called_as_noted.ensures.missed

pub returns-in-None-clause-says : goal.returns-in-None-clause-says
returns-in-None-clause-says g c = λ goals e h t at is own key.
    subst (λ (m : Names). IfSome c.called_as_noted.result (Tells goals e (text_of (names (seen c.called_as_noted.new.atoms.seat))) (requests.call_clauses (said m t)) h)) c.in-None.ensures.missed
    (c.called_as_noted.ensures.says goals e h t at (steady_database (keeper_view c.args.keeper.now) (keeper_view c.called_by_number.new.keeper) c.args.db.now goals h c.called_by_number.ensures.steady.keeps is)
    (subst (λ (m : Names). predicate_of (said m t) ≡ proc_named (text_of m) c.args.procedure.now) (sym c.in-None.ensures.missed) own) key)
