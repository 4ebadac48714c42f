use Rattle.std.proofs.Common.{◌≡◌}
use Rattle.std.specs.List.{All}
use Rattle.pl_model.specs.BodyChecks.{converted}
use Rattle.term_store.specs.Contents.{Holds}
use Rattle.iso_search.specs.Conversions.{Grows, IsStepIn, finish, goals_made, parts}
use Rattle.iso_search.specs.Reading.{View, IsView, reads}
use Rattle.iso_search.proofs.bodies.converted_at.Given as goal

abbrev pub invariant-loop : goal.invariant-loop
invariant-loop l =
    record {
      steps : All (IsStepIn l.store) l.steps.items;
      goals : All (Holds l.store) l.goals.items;
      grows : Grows l.fn.store l.store;
      same :
          (v : View) → IsView v → finish (parts v l.store l.steps.items) (goals_made v l.store l.goals.items) ≡ converted (reads v l.fn.store l.fn.body);
    }
