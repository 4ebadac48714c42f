-- Goals of clause/2 and retract/1 that are refused.
use Rattle.std.proofs.Common.{◌≡◌, ℕ, ◌<◌, Some, sym, ap, ◌∙◌}
use Rattle.pl_model.specs.Resolution.{goes}
use Rattle.atom_api.specs.Names.{Names}
use Rattle.world_api.specs.Texts.{Holds}
use Rattle.iso_search.specs.declared.outcome.Outcome.{Outcome}
use Rattle.iso_search.specs.declared.search.Search.{Search}
use Rattle.iso_search.specs.Outcomes.{IsAfter, Setting}
use Rattle.iso_search.specs.Reading.{IsView, View}
use Rattle.shared_builtins.specs.declared.faults.Fault.{Fault}
use Rattle.shared_builtins.specs.Faults.{fault_term}
use Rattle.iso_engine.specs.declared.state.looks.LookGoal.{LookGoal}
use Rattle.iso_engine.specs.ClauseLooks.{IsLookAt, look_error}
use Rattle.iso_engine.specs.GoalSteps.{IsStepAlone}
use Rattle.iso_engine.proofs.ClauseLooks.{look_wrong}
use Rattle.iso_engine.proofs.RaisedRows.{IsRaisedLed}
use Rattle.iso_engine.proofs.StateRows.{counted_in}

-- Where the goal is refused nothing is asked.
pub looked_alone : (n : Names) (e : Search) (x : LookGoal) (rest : ℕ) (at : IsLookAt e.store x) → e.inferences < e.budgets.inferences → (fault : Fault) (f : Search) (o : Outcome)
    → ((v : View) → IsView v → Holds n v.names → look_error v e.store x.look ≡ Some (fault_term n e.store fault))
    → ((s : Setting) → IsView s.view → Holds n s.view.names → IsRaisedLed n (counted_in e) x.place rest (fault_term n e.store fault) f o s)
    → IsAfter e f o → IsStepAlone n e x.place rest f o
looked_alone n e x rest at count fault f o wrong led after =
    record {
      leads = λ s h view known. look_wrong e x rest at s h (fault_term n e.store fault) view count (wrong s.view view known) ∙ ap goes (sym (led s view known));
      after = after;
    }
