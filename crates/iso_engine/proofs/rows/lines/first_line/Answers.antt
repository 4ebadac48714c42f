use Rattle.iso_engine.proofs.Lined.{first_full, first_full_after, first_gone, first_made, first_origin, first_whole}
use Rattle.iso_engine.proofs.rows.lines.first_line.Goals as goal

pub returns-then-is_full-clause-whole : goal.returns-then-is_full-clause-whole
returns-then-is_full-clause-whole c =
    first_whole c.requires.made.0 c.args.goal c.args.search.now c.args.places c.args.following c.requires.made.1

pub returns-then-is_full-clause-after : goal.returns-then-is_full-clause-after
returns-then-is_full-clause-after c x m = first_full_after x c.args.goal c.args.search.now c.args.places c.args.following m

pub returns-then-is_full-clause-step : goal.returns-then-is_full-clause-step
returns-then-is_full-clause-step c x t m view known =
    first_full x c.args.goal c.args.search.now c.args.places c.args.following m c.args.rest t view known c.is_full.result c.is_full.ensures c.if-is_full.true

pub next_line-requires-clause-made : goal.next_line-requires-clause-made
next_line-requires-clause-made c =
    let x = c.requires.made.0 in
    let m = c.requires.made.1 in (
      first_origin x c.args.goal c.args.search.now c.args.places c.args.following m,
      first_made x c.args.goal c.args.search.now c.args.places c.args.following m,
    )

pub returns-clause-after : goal.returns-clause-after
returns-clause-after c x m =
    c.in_ok-outcome.ensures.after (first_origin x c.args.goal c.args.search.now c.args.places c.args.following m)
    (first_made x c.args.goal c.args.search.now c.args.places c.args.following m)

pub returns-clause-step : goal.returns-clause-step
returns-clause-step c x t m view known =
    let o = c.in_ok-outcome in
    first_gone x c.args.goal c.args.search.now c.args.places c.args.following m c.args.rest t view known c.is_full.result c.is_full.ensures c.if-is_full.false
    c.next_line.new.search o.outcome
    (o.ensures.step (first_origin x c.args.goal c.args.search.now c.args.places c.args.following m)
    (first_made x c.args.goal c.args.search.now c.args.places c.args.following m))
