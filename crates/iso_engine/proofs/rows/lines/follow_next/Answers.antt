use Rattle.std.proofs.Common.{subst}
use Rattle.iso_engine.specs.TableLines.{IsNextMade}
use Rattle.iso_engine.proofs.Lined.{none_gone, none_whole}
use Rattle.iso_engine.proofs.rows.lines.follow_next.Goals as goal

pub returns-in-Fails-clause-whole : goal.returns-in-Fails-clause-whole
returns-in-Fails-clause-whole c =
    let x = c.requires.made.0 in
    none_whole x c.args.goal c.args.search.now (subst (IsNextMade x c.args.goal c.args.search.now) c.in-Fails.is c.requires.made.1)

pub returns-in-Fails-clause-step : goal.returns-in-Fails-clause-step
returns-in-Fails-clause-step c x m =
    none_gone x c.args.goal c.args.search.now (subst (IsNextMade x c.args.goal c.args.search.now) c.in-Fails.is m) c.args.rest
