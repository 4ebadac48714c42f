use Rattle.std.proofs.Common.{◌≡◌, length, ap, subst, arith}
use Rattle.pl_term.specs.Tree.{Tree}
use Rattle.world_api.specs.declared.reply.Found.{Found}
use Rattle.std.specs.Prelude.{Option}
use Rattle.iso_search.specs.declared.search.Search.{Search}
use Rattle.iso_search.specs.Choices.{listed_goal, purpose_of}
use Rattle.iso_search.specs.Reading.{reads}
use Rattle.iso_search.specs.Searching.{node_of}
use Rattle.iso_search.proofs.After.{after_behind, keeps_choices}
use Rattle.iso_search.proofs.Over.{length_choices}
use Rattle.iso_engine.specs.Lists.{IsListed}
use Rattle.iso_engine.proofs.Listing.{nothing_next, one_alone, one_of_more}
use Rattle.iso_engine.proofs.call.clauses.try_next_clause.Goals as goal

pub returns-in-None-clause-step : goal.returns-in-None-clause-step
returns-in-None-clause-step c t cs view listed =
    let e = c.args.search.now in
    let g = reads t.view e.store c.args.goal in
    nothing_next t e (purpose_of c.args.purpose) (node_of t.view e c.args.rest) g c.args.generation cs
    (subst (λ (x : Option (Found Tree)). IsListed t.view (listed_goal (purpose_of c.args.purpose) g) c.args.generation x cs) c.in-None.is listed)

pub returns-in_ok-outcome-in-Some-clause-step : goal.returns-in_ok-outcome-in-Some-clause-step
returns-in_ok-outcome-in-Some-clause-step c t cs view listed =
    let e = c.args.search.now in
    let g = reads t.view e.store c.args.goal in
    let pushed = c.in_ok-push_choice-in-Some.ensures in
    one_of_more t (purpose_of c.args.purpose) e c.push_choice.new.self c.try_clause.new.search c.args.goal c.args.rest c.args.generation c.len-height.result c.in-Some.f cs
    c.in_ok-outcome-in-Some.outcome c.if-f.true
    (subst (λ (x : Option (Found Tree)). IsListed t.view (listed_goal (purpose_of c.args.purpose) g) c.args.generation x cs) c.in-Some.is listed)
    pushed.kept (pushed.choices t.view) (omega (arith, c.len-height.ensures, e.choices.ok.0, length_choices t.view e))
    (λ k is at. c.in_ok-outcome-in-Some.ensures.step t k view is at)

pub returns-in_ok-outcome-in-Some-clause-after : goal.returns-in_ok-outcome-in-Some-clause-after
returns-in_ok-outcome-in-Some-clause-after c =
    let e = c.args.search.now in
    let d = c.push_choice.new.self in
    let pushed = c.in_ok-push_choice-in-Some.ensures in
    let frames : length d.frames.items ≡ length e.frames.items = ap (λ (x : Search). length x.frames.items) pushed.kept in
    after_behind e d c.try_clause.new.search c.in_ok-outcome-in-Some.outcome (omega (arith, frames)) (ap (λ (x : Search). x.budgets) pushed.kept)
    (keeps_choices e d pushed.kept) c.in_ok-outcome-in-Some.ensures.after

pub returns-in_ok-outcome-in-Some-2-clause-step : goal.returns-in_ok-outcome-in-Some-2-clause-step
returns-in_ok-outcome-in-Some-2-clause-step c t cs view listed =
    let e = c.args.search.now in
    let g = reads t.view e.store c.args.goal in
    one_alone t (purpose_of c.args.purpose) e c.try_clause-else-f.new.search c.args.goal c.args.rest c.args.generation c.len-height.result c.in-Some.f cs
    c.in_ok-outcome-in-Some-2.outcome c.if-f.false
    (subst (λ (x : Option (Found Tree)). IsListed t.view (listed_goal (purpose_of c.args.purpose) g) c.args.generation x cs) c.in-Some.is listed)
    (omega (arith, c.len-height.ensures, e.choices.ok.0, length_choices t.view e))
    (λ k is at. c.in_ok-outcome-in-Some-2.ensures.step t k view is at)
