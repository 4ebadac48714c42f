use Rattle.std.proofs.Common.{◌≡◌, sym, subst}
use Rattle.pl_model.specs.Control.{tried_by}
use Rattle.atom_api.specs.FixedNames.{clause_name, retract_name}
use Rattle.term_store.specs.Contents.{term_at}
use Rattle.iso_search.specs.declared.choices.Purpose.{Purpose}
use Rattle.iso_search.specs.Choices.{purpose_of}
use Rattle.iso_search.specs.Reading.{reads}
use Rattle.iso_engine.specs.Following.{proc_in}
use Rattle.iso_engine.proofs.Procedures.{clause_proc, proc_as, retract_proc}
use Rattle.iso_engine.proofs.Requests.{procedure_by}
use Rattle.iso_engine.proofs.procedure.trying_procedure.Goals as goal

pub returns-in-Resolving : goal.returns-in-Resolving
returns-in-Resolving c s at asked t view =
    subst (λ (q : Purpose). tried_by (purpose_of q) (reads t.view s at) ≡ proc_in t.view c.args.procedure) (sym c.in-Resolving.is)
    (procedure_by t.view view (term_at s at) c.args.procedure (asked c.in-Resolving.is))

pub returns-in-Inspecting : goal.returns-in-Inspecting
returns-in-Inspecting c s at asked t view =
    subst (λ (q : Purpose). tried_by (purpose_of q) (reads t.view s at) ≡ proc_as t.view clause_name 2) (sym c.in-Inspecting.is)
    (clause_proc t.view view)

pub returns-in-Retracting : goal.returns-in-Retracting
returns-in-Retracting c s at asked t view =
    subst (λ (q : Purpose). tried_by (purpose_of q) (reads t.view s at) ≡ proc_as t.view retract_name 1) (sym c.in-Retracting.is)
    (retract_proc t.view view)
