-- What is held and told only grows.
use Rattle.std.proofs.Common.{[], ◌++◌, refl, sym, ap, ◌∙◌, append-nil, append_assoc}
use Rattle.world_api.specs.Texts.{Holds}
use Rattle.atom_api.specs.Names.{Names}
use Rattle.world_api.specs.Told.{Told}
use Rattle.iso_engine.specs.Views.{IsLater}

pub later_stays : (m : Names) (t : Told) → IsLater m t m t
later_stays m t = record { holds = λ a x h. h; later = []; grown = sym (append-nil t.history); engine = refl; goals = refl }

pub later_then : (m n k : Names) (t u w : Told) → IsLater m t n u → IsLater n u k w → IsLater m t k w
later_then m n k t u w a b =
    record {
      holds = λ i x h. b.holds i x (a.holds i x h);
      later = a.later ++ b.later;
      grown = b.grown ∙ ap (λ h. h ++ b.later) a.grown ∙ append_assoc t.history a.later b.later;
      engine = b.engine ∙ a.engine;
      goals = b.goals ∙ a.goals;
    }

pub held_later : (m n : Names) (t : Told) → Holds m n → IsLater m t n t
held_later m n t h = record { holds = h; later = []; grown = sym (append-nil t.history); engine = refl; goals = refl }
