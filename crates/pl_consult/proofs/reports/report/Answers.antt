use Rattle.std.proofs.Common.{◌++◌, IsSome, refl, ap, subst, sym, ◌∙◌}
use Rattle.pl_model.specs.OperatorTable.{OperatorTable}
use Rattle.term_store.specs.NumberedNames.{names_of, term_by}
use Rattle.world_api.specs.Texts.{text_of}
use Rattle.pl_consult.specs.declared.stage.Stage.TheVariants.{Report}
use Rattle.pl_consult.specs.Steps.{Looked}
use Rattle.pl_consult.proofs.StepLaws.{stayed, stay_after, quiet_names, quiet_refusals}
use Rattle.pl_consult.proofs.NarrowLaws.{narrows_same}
use Rattle.pl_consult.proofs.reports.report.Goals as goal

pub returns-in-Err-clause-moved : goal.returns-in-Err-clause-moved
returns-in-Err-clause-moved g c =
    stayed _ c.args.consult.now (Report c.args.place c.args.how) _ _ _ c.next_by.result c.next_by.ensures.stays c.in-Err.ensures.looks refl

pub returns-in-Ok-clause-moved : goal.returns-in-Ok-clause-moved
returns-in-Ok-clause-moved g c =
    c.report_under.ensures.moved (term_by (text_of (g.W.A.Atoms.held c.look_at.new.atoms))) _ _ _
    (subst
    (λ (o : OperatorTable). Looked (g.W.World.told c.args.world.now) (g.W.World.told c.look_at.new.world) o c.in-Ok.standing.quotes)
    (sym c.deref.ensures)
    c.in-Ok.ensures.looks)

pub returns-in-Ok-clause-named : goal.returns-in-Ok-clause-named
returns-in-Ok-clause-named g c =
    quiet_names (λ a. IsSome (g.W.A.Atoms.held c.look_at.new.atoms a)) names_of c.report_under.result.1 c.report_under.ensures.quiet

pub returns-in-Ok-clause-refusals : goal.returns-in-Ok-clause-refusals
returns-in-Ok-clause-refusals g c =
    c.in-Ok.ensures.refusals
    ∙ ap (λ rs. g.W.A.Atoms.refusals c.args.atoms.now ++ rs) (sym (quiet_refusals c.report_under.result.1 c.report_under.ensures.quiet))

pub returns-in-Err-clause-stage : goal.returns-in-Err-clause-stage
returns-in-Err-clause-stage g c = stay_after c.next_by.result (Report c.args.place c.args.how) c.next_by.ensures.stays refl

pub returns-in-Err-clause-narrows : goal.returns-in-Err-clause-narrows
returns-in-Err-clause-narrows g c word = narrows_same word c.args.consult.now (Report c.args.place c.args.how)

pub returns-in-Ok-clause-narrows : goal.returns-in-Ok-clause-narrows
returns-in-Ok-clause-narrows g c = c.report_under.ensures.narrows
