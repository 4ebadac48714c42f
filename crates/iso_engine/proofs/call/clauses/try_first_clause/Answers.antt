use Rattle.pl_model.specs.Control.{tried_by}
use Rattle.iso_search.specs.Choices.{purpose_of}
use Rattle.iso_search.specs.Outcomes.{result_in}
use Rattle.iso_search.specs.Reading.{reads}
use Rattle.iso_search.specs.Searching.{node_of}
use Rattle.iso_engine.proofs.Listing.{no_choice, some_choice}
use Rattle.iso_engine.proofs.call.clauses.try_first_clause.Goals as goal

pub returns-then-is_full-clause-step : goal.returns-then-is_full-clause-step
returns-then-is_full-clause-step c t cs view listed =
    let e = c.args.search.now in
    no_choice t e (purpose_of c.args.purpose) (node_of t.view e c.args.rest) (reads t.view e.store c.args.goal) c.args.generation c.args.found.now cs c.is_full.result listed
    c.is_full.ensures c.if-is_full.true

pub returns-in_ok-outcome-clause-step : goal.returns-in_ok-outcome-clause-step
returns-in_ok-outcome-clause-step c t cs view listed =
    let e = c.args.search.now in
    let g = reads t.view e.store c.args.goal in
    let n = node_of t.view e c.args.rest in
    some_choice t e (purpose_of c.args.purpose) n g c.args.generation c.args.found.now cs c.is_full.result (result_in t c.try_next_clause.new.search n (tried_by (purpose_of c.args.purpose) g) c.in_ok-outcome.outcome)
    listed c.is_full.ensures c.if-is_full.false (c.in_ok-outcome.ensures.step t cs view listed)
