use Rattle.std.proofs.Common.{sym, ◌∙◌}
use Rattle.pl_consult.specs.declared.stage.Stage.TheVariants.{Items}
use Rattle.pl_consult.proofs.StepLaws.{report_goes, report_halts, report_failed}
use Rattle.std.proofs.Common.{refl}
use Rattle.pl_consult.specs.declared.stage.Stage.TheVariants.{Over, Report}
use Rattle.pl_consult.proofs.NarrowLaws.{narrows_bare}
use Rattle.pl_consult.proofs.reports.report_under.Goals as goal

pub returns-in-None-clause-moved : goal.returns-in-None-clause-moved
returns-in-None-clause-moved c term t u quotes l =
    report_goes term c.args.consult.now c.args.place c.args.how c.args.operators.now quotes t u c.args.text.now.items c.report.new.out.items l
    (sym c.status-halted.ensures ∙ c.in-None.is)
    c.in-Ok.ensures

pub returns-in-Ok-clause-moved : goal.returns-in-Ok-clause-moved
returns-in-Ok-clause-moved c term t u quotes l =
    report_halts term c.args.consult.now c.args.place c.args.how c.args.operators.now quotes t u c.args.text.now.items c.report.new.out.items c.in-Some.status l
    (sym c.status-halted.ensures ∙ c.in-Some.is)
    c.in-Ok.ensures

pub returns-clause-moved : goal.returns-clause-moved
returns-clause-moved c term t u quotes l =
    report_failed term c.args.consult.now c.args.place c.args.how c.args.operators.now quotes t u c.args.text.now.items c.report.new.out.items Items l

pub returns-in-None-clause-narrows : goal.returns-in-None-clause-narrows
returns-in-None-clause-narrows c word = narrows_bare word c.args.consult.now (Report c.args.place c.args.how) Items refl refl refl

pub returns-in-Ok-clause-narrows : goal.returns-in-Ok-clause-narrows
returns-in-Ok-clause-narrows c word = narrows_bare word c.args.consult.now (Report c.args.place c.args.how) Over refl refl refl

pub returns-clause-narrows : goal.returns-clause-narrows
returns-clause-narrows c word = narrows_bare word c.args.consult.now (Report c.args.place c.args.how) Items refl refl refl
