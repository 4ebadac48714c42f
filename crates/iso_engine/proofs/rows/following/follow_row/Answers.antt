use Rattle.std.proofs.Common.{subst}
use Rattle.iso_engine.specs.Leading.{IsRowMade}
use Rattle.iso_engine.proofs.FollowedRows.{ball_after, ball_step, ball_whole, fails_step, full_step, holds_step}
use Rattle.iso_engine.proofs.rows.following.follow_row.Goals as goal

pub returns-in-Fails-clause-step : goal.returns-in-Fails-clause-step
returns-in-Fails-clause-step c x t m view known =
    let e = c.args.search.now in
    fails_step x c.args.goal e c.args.rest (subst (IsRowMade x c.args.goal e) c.in-Fails.is m) t known

pub returns-in-Holds-clause-step : goal.returns-in-Holds-clause-step
returns-in-Holds-clause-step c x t m view known =
    let e = c.args.search.now in
    holds_step x c.args.goal e c.args.rest (subst (IsRowMade x c.args.goal e) c.in-Holds.is m) t known

pub returns-in-Ball-clause-whole : goal.returns-in-Ball-clause-whole
returns-in-Ball-clause-whole c =
    let e = c.args.search.now in
    let x = c.requires.made.0 in
    ball_whole x c.args.goal e c.in-Ball.ball (subst (IsRowMade x c.args.goal e) c.in-Ball.is c.requires.made.1)

pub returns-in-Ball-clause-after : goal.returns-in-Ball-clause-after
returns-in-Ball-clause-after c x m =
    let e = c.args.search.now in
    ball_after x c.args.goal e c.in-Ball.ball (subst (IsRowMade x c.args.goal e) c.in-Ball.is m)

pub returns-in-Ball-clause-step : goal.returns-in-Ball-clause-step
returns-in-Ball-clause-step c x t m view known =
    let e = c.args.search.now in
    ball_step x c.args.goal e c.args.rest c.in-Ball.ball (subst (IsRowMade x c.args.goal e) c.in-Ball.is m) t known

pub returns-in-CellsFull-clause-step : goal.returns-in-CellsFull-clause-step
returns-in-CellsFull-clause-step c x t m view known =
    let e = c.args.search.now in
    full_step x c.args.goal e c.args.rest c.in-CellsFull.used c.in-CellsFull.need (subst (IsRowMade x c.args.goal e) c.in-CellsFull.is m) t known
