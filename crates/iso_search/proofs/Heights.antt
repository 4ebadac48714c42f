-- Choices up to a height.
use Rattle.std.proofs.Common.{◌≡◌, ℕ, zero, suc, ◌-◌, ◌<◌, ◌≤◌, List, [], ◌∷◌, ◌++◌, length, take, drop, reverse, refl, sym, ap, ap₂, subst, ◌∙◌, arith, length-drop}
use Rattle.std.proofs.Math.Seq.{drop-append_seam}
use Rattle.std.proofs.lemmas.List.{reverse-append, length-reverse, take-append-drop}
use Rattle.term_store.specs.declared.words.Place.{Place}
use Rattle.term_store.specs.Contents.{Contents}
use Rattle.pl_model.specs.Resolution.{up_to}
use Rattle.iso_search.specs.declared.frames.Frame.{Frame}
use Rattle.iso_search.specs.declared.choices.ChoicePoint.{ChoicePoint}
use Rattle.iso_search.specs.Reading.{View}
use Rattle.iso_search.specs.Choices.{choices_at, AreRests}
use Rattle.iso_search.proofs.Resting.{older_rests, older_choices, length-choices_at}

-- The newest choice point is the first of the list that begins with it.
pub newest_first : (ks : List ChoicePoint) (k : ChoicePoint) → reverse (ks ++ k ∷ []) ≡ k ∷ reverse ks
newest_first ks k = reverse-append ks (k ∷ [])

pub reverse-take : (n : ℕ) (ks : List ChoicePoint) → reverse (take n ks) ≡ drop (length ks - n) (reverse ks)
reverse-take n ks =
    let e : reverse ks ≡ reverse (drop n ks) ++ reverse (take n ks) = ap reverse (sym (take-append-drop n ks)) ∙ reverse-append (take n ks) (drop n ks) in
    let long : length (reverse (drop n ks)) ≡ length ks - n = length-reverse (drop n ks) ∙ length-drop n ks in
    sym (ap₂ drop (sym long) e ∙ drop-append_seam (reverse (drop n ks)) (reverse (take n ks)))

pub rests-drop : (ws : List Place) (s : Contents) (fs : List Frame) (n : ℕ) (ks : List ChoicePoint) → AreRests ws s fs ks → AreRests ws s fs (drop n ks)
rests-drop ws s fs zero ks r = r
rests-drop ws s fs (suc n) [] r = tt
rests-drop ws s fs (suc n) (k ∷ ks) r = rests-drop ws s fs n ks (older_rests ws s fs k ks r)

pub choices-drop : (v : View) (ws : List Place) (s : Contents) (fs : List Frame) (n : ℕ) (ks : List ChoicePoint) → AreRests ws s fs ks
    → choices_at v ws s fs (drop n ks) ≡ drop n (choices_at v ws s fs ks)
choices-drop v ws s fs zero ks r = refl
choices-drop v ws s fs (suc n) [] r = refl
choices-drop v ws s fs (suc n) (k ∷ ks) r =
    choices-drop v ws s fs n ks (older_rests ws s fs k ks r) ∙ ap (drop n) (sym (older_choices v ws s fs k ks r))

pub rests-truncated : (ws : List Place) (s : Contents) (fs : List Frame) (n : ℕ) (ks : List ChoicePoint) → AreRests ws s fs (reverse ks)
    → AreRests ws s fs (reverse (take n ks))
rests-truncated ws s fs n ks r =
    subst (AreRests ws s fs) (sym (reverse-take n ks)) (rests-drop ws s fs (length ks - n) (reverse ks) r)

pub choices-truncated : (v : View) (ws : List Place) (s : Contents) (fs : List Frame) (n : ℕ) (ks : List ChoicePoint) → AreRests ws s fs (reverse ks)
    → choices_at v ws s fs (reverse (take n ks)) ≡ up_to n (choices_at v ws s fs (reverse ks))
choices-truncated v ws s fs n ks r =
    let long : length ks ≡ length (choices_at v ws s fs (reverse ks)) = sym (length-choices_at v ws s fs (reverse ks) ∙ length-reverse ks) in
    ap (choices_at v ws s fs) (reverse-take n ks)
    ∙ choices-drop v ws s fs (length ks - n) (reverse ks) r
    ∙ ap (λ m. drop (m - n) (choices_at v ws s fs (reverse ks))) long

-- As many as there are, or as the height says.
pub take_as_far : {X : Type 0} (n h : ℕ) (xs : List X) → n ≤ h → n ≤ length xs → (n < length xs → h ≤ n) → take n xs ≡ take h xs
take_as_far zero zero xs le within far = refl
take_as_far zero (suc h) [] le within far = refl
take_as_far zero (suc h) (x ∷ xs) le within far = let none = far (omega arith) in absurd (omega (arith, none))
take_as_far (suc n) zero xs le within far = absurd (omega (arith, le))
take_as_far (suc n) (suc h) [] le within far = absurd (omega (arith, within))
take_as_far (suc n) (suc h) (x ∷ xs) le within far =
    ap (λ ys. x ∷ ys) (take_as_far n h xs (omega (arith, le)) (omega (arith, within)) (λ lt. let more = far (omega (arith, lt)) in omega (arith, more)))
