-- Choice points over a store and frames that have gained more since they were made.
use Rattle.std.proofs.Common.{◌≡◌, ℕ, suc, ◌≤◌, List, [], ◌∷◌, ◌++◌, length, take, drop, refl, sym, ap, ap₂, subst, ◌∙◌, arith, length-append}
use Rattle.std.proofs.lemmas.List.{take-append-le, take-append-drop}
use Rattle.term_store.specs.declared.words.Place.{Place}
use Rattle.term_store.specs.Contents.{Contents, Adds, back_to}
use Rattle.iso_search.specs.declared.frames.Frame.{Frame}
use Rattle.iso_search.specs.declared.choices.ChoicePoint.{ChoicePoint}
use Rattle.iso_search.specs.Frames.{tasks}
use Rattle.iso_search.specs.Reading.{View, reads, node_at}
use Rattle.iso_search.specs.Choices.{choice_at, choices_at, IsAlternativeIn, IsBase, AreRests}
use Rattle.iso_search.proofs.Cutting.{adds_since}

both_moved : (P : Contents → List Frame → Type 0) (c d : Contents) (fs gs : List Frame) → d ≡ c → gs ≡ fs → P c fs → P d gs
both_moved P c d fs gs e t p = subst (λ s. P s gs) (sym e) (subst (P c) (sym t) p)

le_more : {X : Type 0} (n : ℕ) (xs ys : List X) → n ≤ length xs → n ≤ length (xs ++ ys)
le_more n xs ys h = omega (arith, length-append xs ys)

pub rests_added : (ws : List Place) (s t : Contents) (fs gs : List Frame) (ks : List ChoicePoint)
    → Adds s t → AreRests ws s fs ks → AreRests ws t (fs ++ gs) ks
rests_added ws s t fs gs [] e r = tt
rests_added ws s t fs gs (k ∷ ks) e r =
    let at : back_to k.mark t ≡ back_to k.mark s = e.back k.mark r.0.mark in
    let shorter : take k.frames (fs ++ gs) ≡ take k.frames fs = take-append-le k.frames fs gs r.0.frames in (
      record {
        mark = e.marks k.mark r.0.mark;
        frames = le_more k.frames fs gs r.0.frames;
        next = r.0.next;
        base = both_moved (λ c l. IsBase ws c l) (back_to k.mark s) (back_to k.mark t) (take k.frames fs) (take k.frames (fs ++ gs)) at shorter r.0.base;
        words = subst (λ c. IsAlternativeIn c k.alternative) (sym at) r.0.words;
      },
      both_moved (λ c l. AreRests ws c l ks) (back_to k.mark s) (back_to k.mark t) (take k.frames fs) (take k.frames (fs ++ gs)) at shorter r.1,
    )

pub choices_added : (v : View) (ws : List Place) (s t : Contents) (fs gs : List Frame) (ks : List ChoicePoint)
    → Adds s t → AreRests ws s fs ks → choices_at v ws t (fs ++ gs) ks ≡ choices_at v ws s fs ks
choices_added v ws s t fs gs [] e r = refl
choices_added v ws s t fs gs (k ∷ ks) e r =
    ap₂ (λ c l. choice_at v (reads v c) (node_at (reads v c) (tasks l k.next) ws k.mark.used) k.alternative ∷ choices_at v ws c l ks)
    (e.back k.mark r.0.mark) (take-append-le k.frames fs gs r.0.frames)

-- Without the newest choice point, the others stand for what they stood for after it.
pub older_rests : (ws : List Place) (s : Contents) (fs : List Frame) (k : ChoicePoint) (ks : List ChoicePoint)
    → AreRests ws s fs (k ∷ ks) → AreRests ws s fs ks
older_rests ws s fs k ks r =
    subst (λ l. AreRests ws s l ks) (take-append-drop k.frames fs)
    (rests_added ws (back_to k.mark s) s (take k.frames fs) (drop k.frames fs) ks (adds_since k.mark s r.0.mark) r.1)

pub older_choices : (v : View) (ws : List Place) (s : Contents) (fs : List Frame) (k : ChoicePoint) (ks : List ChoicePoint)
    → AreRests ws s fs (k ∷ ks) → choices_at v ws (back_to k.mark s) (take k.frames fs) ks ≡ choices_at v ws s fs ks
older_choices v ws s fs k ks r =
    sym (ap (λ l. choices_at v ws s l ks) (sym (take-append-drop k.frames fs))
    ∙ choices_added v ws (back_to k.mark s) s (take k.frames fs) (drop k.frames fs) ks (adds_since k.mark s r.0.mark) r.1)

pub length-choices_at : (v : View) (ws : List Place) (s : Contents) (fs : List Frame) (ks : List ChoicePoint) → length (choices_at v ws s fs ks) ≡ length ks
length-choices_at v ws s fs [] = refl
length-choices_at v ws s fs (k ∷ ks) = ap suc (length-choices_at v ws (back_to k.mark s) (take k.frames fs) ks)
