use Rattle.std.proofs.Common.{refl}
use Rattle.iso_engine.specs.declared.engine.Engine.{Engine}
use Rattle.iso_engine.proofs.ToldLaws.{no_told_tried, told_tried}
use Rattle.iso_engine.proofs.engine.Engine.retry_told.Goals as goal

pub returns-in_default-clause-gone : goal.returns-in_default-clause-gone
returns-in_default-clause-gone c n t =
    no_told_tried n t c.args.self.now c.args.goal c.args.lines c.args.line c.args.next c.in_default.ensures

pub returns-clause-gone : goal.returns-clause-gone
returns-clause-gone c n t =
    let e = c.args.self.now in
    let f : Engine = record e { search = c.next_told.new.search; doing = c.in_ok-self.field-0 } in
    let o = c.in_ok-outcome in
    told_tried n t e f c.args.goal c.args.lines c.args.line c.args.next c.in-Some.procedure o.outcome c.requires.next c.in-Some.ensures.0
    o.ensures.after o.ensures.step c.in_ok-self.ensures refl
