use Rattle.std.proofs.Common.{Some, sym, subst}
use Rattle.std.specs.List.{All}
use Rattle.std.proofs.lemmas.List.Elements.{All-pop, All-push}
use Rattle.iso_search.specs.Parts.{IsCompoundIn, IsStepIn}
use Rattle.iso_search.proofs.walk.parts_of.Goals.{in-Enter+in_ok-enter-in-Enter, in-Leave+in_ok-add-in-Leave}
use Rattle.iso_search.proofs.walk.parts_of.Goals as goal

pub loop-preserved : goal.loop-preserved
loop-preserved c =
    let s = c.args.store.now in
    let popped = All-pop (IsStepIn s) c.loop.steps.items c.pop.new.self.items (Some c.in-Some.step) c.in-Some.ensures.items c.loop.invariant.steps in
    elim c.match-step.branch [
      | in-Enter+in_ok-enter-in-Enter w ↦
          record {
            steps = subst (λ v. All (IsStepIn s) v.items) (sym w.steps-is) w.in_ok-enter-in-Enter.ensures.steps;
            compounds = subst (λ p. All (IsCompoundIn s) p.compounds.items) (sym w.parts-is) w.in_ok-enter-in-Enter.ensures.compounds;
          }
      | in-Leave+in_ok-add-in-Leave w ↦
          record {
            steps = subst (λ v. All (IsStepIn s) v.items) (sym w.steps-is) popped.0;
            compounds =
                subst (λ p. All (IsCompoundIn s) p.compounds.items) (sym w.parts-is)
                (subst (All (IsCompoundIn s)) (sym w.in_ok-add-in-Leave.ensures)
                (All-push (IsCompoundIn s) c.loop.parts.compounds.items w.in-Leave.compound c.loop.invariant.compounds (subst (IsStepIn s) w.in-Leave.is popped.1)));
          }
    ]
