use Rattle.std.proofs.Common.{◌≡◌, sym, subst, ◌∙◌}
use Rattle.std.specs.Prelude.{IfSome, IsSome}
use Rattle.std.specs.List.{All}
use Rattle.pl_model.specs.FirstArguments.{head_of}
use Rattle.pl_model.specs.Predicates.{proc_of as predicate_of}
use Rattle.atom_api.specs.Names.{Names}
use Rattle.atom_words.specs.Seats.{seen}
use Rattle.atom_table.specs.Naming.{names}
use Rattle.term_store.specs.ArgumentKeys.{key_atoms}
use Rattle.world_api.specs.Texts.{text_of}
use Rattle.world_api.specs.Visits.{proc_named}
use Rattle.counted_terms.specs.CountedTerms.{said}
use Rattle.counted_terms.specs.Keeping.{keeper_view}
use Rattle.hub_database.specs.Database.{clause_counts}
use Rattle.hub_database.specs.Found.{IsOpenFound}
use Rattle.hub_database.proofs.Deciding.{quiet_then, steady_database}
use Rattle.hub_database.proofs.HintedCalls.{counts_steady, none_weaker, steady_then}
use Rattle.hub_database.proofs.finding.opened.Goals as goal

pub opened_as_noted-requires-clause-counts : goal.opened_as_noted-requires-clause-counts
opened_as_noted-requires-clause-counts g c = counts_steady (clause_counts c.args.db.now) (keeper_view c.args.keeper.now) (keeper_view c.opened_by_number.new.keeper) c.args.generation c.requires.counts c.opened_by_number.ensures.steady

pub opened_as_noted-requires-clause-name : goal.opened_as_noted-requires-clause-name
opened_as_noted-requires-clause-name g c = subst (λ (m : Names). IsSome (m c.args.procedure.now.name)) (sym c.in-None.ensures.missed) c.requires.name

pub opened_as_noted-requires-clause-key : goal.opened_as_noted-requires-clause-key
opened_as_noted-requires-clause-key g c = subst (λ (m : Names). All (λ a. IsSome (m a)) (key_atoms c.args.first.now)) (sym c.in-None.ensures.missed) c.requires.key

pub returns-in-None-clause-steady : goal.returns-in-None-clause-steady
returns-in-None-clause-steady g c = steady_then (keeper_view c.args.keeper.now) (keeper_view c.opened_by_number.new.keeper) (keeper_view c.opened_as_noted.new.keeper) c.opened_by_number.ensures.steady c.opened_as_noted.ensures.steady

pub returns-in-None-clause-quiet : goal.returns-in-None-clause-quiet
returns-in-None-clause-quiet g c = quiet_then (seen c.args.atoms.now.seat) (seen c.opened_by_number.new.atoms.seat) (seen c.opened_as_noted.new.atoms.seat) c.opened_by_number.ensures.quiet c.opened_as_noted.ensures.quiet

pub returns-in-None-clause-missed : goal.returns-in-None-clause-missed
returns-in-None-clause-missed g c = none_weaker c.opened_as_noted.result (λ e. e ∙ c.in-None.ensures.missed) c.opened_as_noted.ensures.missed

pub returns-in-None-clause-says : goal.returns-in-None-clause-says
returns-in-None-clause-says g c = λ goals h t at is own key.
    subst (λ (m : Names). IfSome c.opened_as_noted.result (IsOpenFound goals h c.args.generation (proc_named (text_of m) c.args.procedure.now) (text_of (names (seen c.opened_as_noted.new.atoms.seat))) (head_of (said m t)))) c.in-None.ensures.missed
    (c.opened_as_noted.ensures.says goals h t at (steady_database (keeper_view c.args.keeper.now) (keeper_view c.opened_by_number.new.keeper) c.args.db.now goals h c.opened_by_number.ensures.steady.keeps is)
    (subst (λ (m : Names). predicate_of (said m t) ≡ proc_named (text_of m) c.args.procedure.now) (sym c.in-None.ensures.missed) own) key)
