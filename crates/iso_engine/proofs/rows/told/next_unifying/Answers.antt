use Rattle.std.proofs.Common.{true, false, ◌∙◌}
use Rattle.pl_model.specs.Terms.{arguments}
use Rattle.iso_search.specs.Reading.{reads}
use Rattle.iso_search.specs.Told.{line_answer}
use Rattle.iso_engine.proofs.ToldLaws.{met, none_met, passed, tells_here}
use Rattle.iso_engine.proofs.rows.told.next_unifying.Goals as goal

pub returns-then-same-clause-found : goal.returns-then-same-clause-found
returns-then-same-clause-found c v view =
    let s = c.args.store.now in
    let line = c.index-lines-i.result in
    met (line_answer v.names) (arguments (reads v s c.args.goal)) c.args.lines.now c.args.from c.loop-i.i line c.loop-i-test.true c.index-lines-i.is
    (tells_here v s c.loop-i.store c.loop-i.invariant.same c.args.goal line c.in_ok-same.same true (c.in_ok-same.ensures.tells v view) c.if-same.true)
    (c.loop-i.invariant.passed v view)

pub loop-i-preserved : goal.loop-i-preserved
loop-i-preserved c =
    let s = c.args.store.now in
    let line = c.index-lines-i.result in
    record {
      same = c.in_ok-same.ensures.same ∙ c.loop-i.invariant.same;
      passed =
          λ v view.
          c.loop-i.invariant.passed v view
          ∙ passed (line_answer v.names) (arguments (reads v s c.args.goal)) c.args.lines.now c.loop-i.i line c.loop-i-test.true c.index-lines-i.is
          (tells_here v s c.loop-i.store c.loop-i.invariant.same c.args.goal line c.in_ok-same.same false (c.in_ok-same.ensures.tells v view) c.if-same.false);
    }

pub returns-clause-found : goal.returns-clause-found
returns-clause-found c v view =
    none_met (line_answer v.names) (arguments (reads v c.args.store.now c.args.goal)) c.args.lines.now c.args.from c.loop-i.i c.loop-i-test.false
    (c.loop-i.invariant.passed v view)
