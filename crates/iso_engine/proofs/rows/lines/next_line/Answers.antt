use Rattle.std.proofs.Common.{sym, subst}
use Rattle.std.specs.List.{All}
use Rattle.term_store.specs.Contents.{Holds as IsIn}
use Rattle.iso_engine.proofs.Lined.{IsTried, last_after, last_gone, line_goal, line_places, line_whole, more_after, more_goal, more_gone, more_places}
use Rattle.iso_engine.proofs.rows.lines.next_line.Goals as goal

pub try_places-requires-clause-whole : goal.try_places-requires-clause-whole
try_places-requires-clause-whole c =
    line_whole c.requires.made.0 c.args.goal c.args.search.now c.args.places c.args.following c.requires.made.1

pub try_places-requires-clause-goal : goal.try_places-requires-clause-goal
try_places-requires-clause-goal c =
    line_goal c.requires.made.0 c.args.goal c.args.search.now c.args.places c.args.following c.requires.made.1

pub try_places-requires-clause-places : goal.try_places-requires-clause-places
try_places-requires-clause-places c =
    subst (All (IsIn c.args.search.now.store)) (sym c.deref.ensures.value)
    (line_places c.requires.made.0 c.args.goal c.args.search.now c.args.places c.args.following c.requires.made.1)

pub returns-in-None-clause-after : goal.returns-in-None-clause-after
returns-in-None-clause-after c x m =
    let o = c.in_ok-outcome-in-None in
    last_after x c.args.goal c.args.search.now c.args.places c.args.following m c.try_places.new.search o.outcome o.ensures.after

pub returns-in-None-clause-step : goal.returns-in-None-clause-step
returns-in-None-clause-step c x m t view known =
    let o = c.in_ok-outcome-in-None in
    last_gone x c.args.goal c.args.search.now c.args.places c.args.following m c.args.rest t view known c.in-None.is c.try_places.new.search o.outcome
    (subst
    (λ ps. IsTried x c.args.goal c.args.search.now c.args.places c.args.following m c.args.rest t view known ps c.args.search.now c.try_places.new.search o.outcome)
    c.deref.ensures.value (o.ensures.step t _ view))

pub push_choice-requires-clause-whole : goal.push_choice-requires-clause-whole
push_choice-requires-clause-whole c =
    line_whole c.requires.made.0 c.args.goal c.args.search.now c.args.places c.args.following c.requires.made.1

pub push_choice-requires-clause-words : goal.push_choice-requires-clause-words
push_choice-requires-clause-words c =
    line_goal c.requires.made.0 c.args.goal c.args.search.now c.args.places c.args.following c.requires.made.1

pub try_places-requires-in-Some-clause-goal : goal.try_places-requires-in-Some-clause-goal
try_places-requires-in-Some-clause-goal c =
    more_goal c.requires.made.0 c.args.goal c.args.search.now c.args.places c.args.following c.requires.made.1 c.push_choice.new.self c.push_choice.ensures.kept

pub try_places-requires-in-Some-clause-places : goal.try_places-requires-in-Some-clause-places
try_places-requires-in-Some-clause-places c =
    let e = c.args.search.now in
    let d = c.push_choice.new.self in
    subst (All (IsIn d.store)) (sym c.deref-in-Some.ensures.value)
    (more_places c.requires.made.0 c.args.goal e c.args.places c.args.following c.requires.made.1 d c.push_choice.ensures.kept)

pub returns-clause-after : goal.returns-clause-after
returns-clause-after c x m =
    let o = c.in_ok-outcome-in-Some in
    more_after x c.args.goal c.args.search.now c.args.places c.args.following m c.push_choice.new.self c.push_choice.ensures.kept
    c.try_places-in-Some.new.search o.outcome o.ensures.after

pub returns-clause-step : goal.returns-clause-step
returns-clause-step c x m t view known =
    let o = c.in_ok-outcome-in-Some in
    more_gone x c.args.goal c.args.search.now c.args.places c.args.following m c.args.rest t view known c.in-Some.line c.in-Some.is
    c.push_choice.new.self c.push_choice.ensures.kept (c.in_ok-push_choice-in-Some.ensures.choices t.view) c.try_places-in-Some.new.search o.outcome
    (subst
    (λ ps. IsTried x c.args.goal c.args.search.now c.args.places c.args.following m c.args.rest t view known ps c.push_choice.new.self c.try_places-in-Some.new.search o.outcome)
    c.deref-in-Some.ensures.value (o.ensures.step t _ view))
