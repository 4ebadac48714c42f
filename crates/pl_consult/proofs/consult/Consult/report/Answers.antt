use Rattle.pl_consult.proofs.ConsultLemmas.{on_ok, failed_stands, threw_stands, halted_stands}
use Rattle.pl_consult.specs.Consults.{rest_of}
use Rattle.pl_consult.proofs.consult.Consult.report.Goals as goal

pub returns-in-False : goal.returns-in-False
returns-in-False c job x e s ends =
    on_ok c.put_failed_directive.result
    (failed_stands c.args.self.now job x c.args.self.now.place c.args.place c.args.how.now e c.args.ops.now c.args.out.now.items _ c.in-False.is ends s)
    (c.put_failed_directive.ensures _ s.lines)

pub returns-in-Threw : goal.returns-in-Threw
returns-in-Threw c job x e s ends =
    on_ok c.put_uncaught_item.result
    (threw_stands c.args.self.now job x c.args.self.now.place c.args.place c.args.how.now c.in-Threw.ball e c.args.ops.now c.args.out.now.items _ c.in-Threw.is ends s)
    (c.put_uncaught_item.ensures _ s.lines)

pub returns-in-Halted : goal.returns-in-Halted
returns-in-Halted c job x e s ends =
    on_ok c.put_halted_directive.result
    (halted_stands c.args.self.now job x (rest_of c.args.self.now.place) c.args.place c.args.how.now c.in-Halted.status e c.args.ops.now c.args.out.now.items _ c.in-Halted.is ends s)
    (c.put_halted_directive.ensures _ s.lines)
