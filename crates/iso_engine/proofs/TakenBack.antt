-- A step that was taken back.
use Rattle.std.proofs.Common.{◌≡◌, [], refl, sym, subst}
use Rattle.atom_api.specs.Names.{Names}
use Rattle.world_api.specs.Texts.{Holds}
use Rattle.world_api.specs.Told.{Told}
use Rattle.iso_search.specs.Reading.{IsView}
use Rattle.iso_engine.specs.declared.engine.Engine.{Engine}
use Rattle.iso_engine.specs.Advancing.{Advances}
use Rattle.iso_engine.specs.Views.{view_of}
use Rattle.iso_engine.specs.Ready.{IsReady}
use Rattle.iso_engine.proofs.Alike.{visits_same}
use Rattle.iso_engine.proofs.Later.{held_later}
use Rattle.iso_engine.proofs.Stability.{advance_same, ready_later}

-- Nothing has changed, but that more may be held.
pub called_back : (m n : Names) (t u : Told) (e f : Engine) → Holds m n → IsView (view_of n u) → IsReady m t e → u ≡ t → f ≡ e
    → Advances 0 m t e n u f [] × IsReady n u f
called_back m n t u e f holds view ready told same =
    let here : IsView (view_of n t) = subst (λ (w : Told). IsView (view_of n w)) told view
    in let stays : Advances 0 m t e n t e [] = advance_same m n t t e ready.stable here refl holds
    in let again : IsReady n t e = ready_later m n t t e here (held_later m n t holds) (visits_same t t refl) ready
    in (
      subst (λ (w : Told). Advances 0 m t e n w f []) (sym told) (subst (λ (x : Engine). Advances 0 m t e n t x []) (sym same) stays),
      subst (λ (w : Told). IsReady n w f) (sym told) (subst (λ (x : Engine). IsReady n t x) (sym same) again),
    )
