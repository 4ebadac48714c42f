use Rattle.std.proofs.Common.{subst}
use Rattle.iso_engine.specs.ToldLines.{IsLineUnified}
use Rattle.iso_engine.proofs.ToldLaws.{line_fails, line_runs, line_whole}
use Rattle.iso_engine.proofs.rows.told.unify_told.Goals as goal

pub returns-then-same-clause-whole : goal.returns-then-same-clause-whole
returns-then-same-clause-whole c =
    line_whole c.args.search.now c.args.goal c.args.line c.args.rest c.unify_line.new.store c.requires.whole c.requires.goal c.in_ok-same.same c.in_ok-same.ensures

pub returns-else-same-clause-whole : goal.returns-else-same-clause-whole
returns-else-same-clause-whole c =
    line_whole c.args.search.now c.args.goal c.args.line c.args.rest c.unify_line.new.store c.requires.whole c.requires.goal c.in_ok-same.same c.in_ok-same.ensures

pub returns-then-same-clause-step : goal.returns-then-same-clause-step
returns-then-same-clause-step c t p view =
    let e = c.args.search.now in
    let u = c.unify_line.new.store in
    line_runs e c.args.goal c.args.line c.args.rest u c.requires.whole c.requires.goal
    (subst (λ b. IsLineUnified b e.store c.args.goal c.args.line u) c.if-same.true c.in_ok-same.ensures) t p view

pub returns-else-same-clause-step : goal.returns-else-same-clause-step
returns-else-same-clause-step c t p view =
    let e = c.args.search.now in
    let u = c.unify_line.new.store in
    line_fails e c.args.goal c.args.line c.args.rest u c.requires.whole c.requires.goal
    (subst (λ b. IsLineUnified b e.store c.args.goal c.args.line u) c.if-same.false c.in_ok-same.ensures) t p view
