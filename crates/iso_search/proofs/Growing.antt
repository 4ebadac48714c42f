-- A search with one more frame.
use Rattle.std.proofs.Common.{◌≡◌, List, [], ◌∷◌, ◌++◌, sym, subst}
use Rattle.std.specs.List.{All}
use Rattle.std.proofs.lemmas.List.Elements.{All-push}
use Rattle.term_store.specs.declared.words.Place.{Place}
use Rattle.term_store.specs.Contents.{Contents}
use Rattle.iso_search.specs.declared.frames.Frame.{Frame}
use Rattle.iso_search.specs.declared.choices.ChoicePoint.{ChoicePoint}
use Rattle.iso_search.specs.Frames.{AreLinked}
use Rattle.iso_search.specs.Reading.{View}
use Rattle.iso_search.specs.Choices.{choices_at, IsTaskIn, IsBase, AreRests}
use Rattle.iso_search.proofs.Cutting.{adds_nothing}
use Rattle.iso_search.proofs.Resting.{rests_added, choices_added}

pub base_pushed : (ws : List Place) (s : Contents) (fs gs : List Frame) (f : Frame) → IsBase ws s fs → IsTaskIn s f.task → gs ≡ fs ++ f ∷ [] → AreLinked gs
    → IsBase ws s gs
base_pushed ws s fs gs f base inside e linked =
    record {
      answer = base.answer;
      words = subst (All (λ g. IsTaskIn s g.task)) (sym e) (All-push (λ g. IsTaskIn s g.task) fs f base.words inside);
      linked = linked;
    }

pub rests_pushed : (ws : List Place) (s : Contents) (fs gs : List Frame) (f : Frame) (ks : List ChoicePoint) → AreRests ws s fs ks → gs ≡ fs ++ f ∷ []
    → AreRests ws s gs ks
rests_pushed ws s fs gs f ks r e = subst (λ l. AreRests ws s l ks) (sym e) (rests_added ws s s fs (f ∷ []) ks (adds_nothing s) r)

pub choices_pushed : (v : View) (ws : List Place) (s : Contents) (fs gs : List Frame) (f : Frame) (ks : List ChoicePoint) → AreRests ws s fs ks → gs ≡ fs ++ f ∷ []
    → choices_at v ws s gs ks ≡ choices_at v ws s fs ks
choices_pushed v ws s fs gs f ks r e =
    subst (λ l. choices_at v ws s l ks ≡ choices_at v ws s fs ks) (sym e) (choices_added v ws s s fs (f ∷ []) ks (adds_nothing s) r)
