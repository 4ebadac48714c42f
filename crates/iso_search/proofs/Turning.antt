-- A choice point is made, and gone back to.
use Rattle.std.proofs.Common.{◌≡◌, ◌≤◌, List, [], ◌∷◌, ◌++◌, length, take, reverse, sym, ap, ap₂, subst, ◌∙◌, arith}
use Rattle.std.proofs.Math.Seq.{take-length}
use Rattle.std.proofs.lemmas.List.{length-take-le}
use Rattle.term_store.specs.declared.words.Place.{Place}
use Rattle.term_store.specs.Contents.{Contents, IsMark, back_to}
use Rattle.iso_search.specs.declared.frames.Frame.{Frame}
use Rattle.iso_search.specs.declared.choices.ChoicePoint.{ChoicePoint}
use Rattle.iso_search.specs.Frames.{tasks}
use Rattle.iso_search.specs.Reading.{View, reads, node_at}
use Rattle.iso_search.specs.Choices.{choice_at, choices_at, IsAlternativeIn, IsBase, AreRests}
use Rattle.iso_search.proofs.Heights.{newest_first}

-- What the search is after it has gone back to its newest choice point.
module _ (ws : List Place) (s d : Contents) (fs gs : List Frame) (all ks : List ChoicePoint) (k : ChoicePoint)
    (newest : all ≡ ks ++ k ∷ []) (at : d ≡ back_to k.mark s) (shorter : gs ≡ take k.frames fs) where
  first_rest : AreRests ws s fs (reverse all) → AreRests ws s fs (k ∷ reverse ks)
  first_rest r = subst (AreRests ws s fs) (ap reverse newest ∙ newest_first ks k) r

  pub mark_back : AreRests ws s fs (reverse all) → IsMark k.mark s
  mark_back r = (first_rest r).0.mark

  pub base_back : AreRests ws s fs (reverse all) → IsBase ws d gs
  base_back r = subst (λ c. IsBase ws c gs) (sym at) (subst (IsBase ws (back_to k.mark s)) (sym shorter) (first_rest r).0.base)

  pub rests_back : AreRests ws s fs (reverse all) → AreRests ws d gs (reverse ks)
  rests_back r =
      subst (λ c. AreRests ws c gs (reverse ks)) (sym at)
      (subst (λ l. AreRests ws (back_to k.mark s) l (reverse ks)) (sym shorter) (first_rest r).1)

  pub words_back : AreRests ws s fs (reverse all) → IsAlternativeIn d k.alternative
  words_back r = subst (λ c. IsAlternativeIn c k.alternative) (sym at) (first_rest r).0.words

  pub next_back : AreRests ws s fs (reverse all) → k.next ≤ length gs
  next_back r =
      let q = (first_rest r).0 in
      let long : length gs ≡ k.frames = ap length shorter ∙ length-take-le k.frames fs q.frames in
      omega (arith, long, q.next)

  pub choices_back : (v : View) → choices_at v ws s fs (reverse all)
      ≡ choice_at v (reads v d) (node_at (reads v d) (tasks gs k.next) ws k.mark.used) k.alternative ∷ choices_at v ws d gs (reverse ks)
  choices_back v =
      ap (choices_at v ws s fs) (ap reverse newest ∙ newest_first ks k)
      ∙ ap₂ (λ c l. choice_at v (reads v c) (node_at (reads v c) (tasks l k.next) ws k.mark.used) k.alternative ∷ choices_at v ws c l (reverse ks)) (sym at) (sym shorter)

-- What the search is with one more choice point.
module _ (ws : List Place) (s : Contents) (fs : List Frame) (all ks : List ChoicePoint) (k : ChoicePoint)
    (newest : all ≡ ks ++ k ∷ []) (at : back_to k.mark s ≡ s) (long : k.frames ≡ length fs) where
  whole_frames : take k.frames fs ≡ fs
  whole_frames = ap (λ n. take n fs) long ∙ take-length fs

  pub rests_more : IsBase ws s fs → IsMark k.mark s → IsAlternativeIn s k.alternative → k.next ≤ length fs → AreRests ws s fs (reverse ks)
      → AreRests ws s fs (reverse all)
  rests_more base within inside next r =
      subst (AreRests ws s fs) (sym (ap reverse newest ∙ newest_first ks k)) (
        record {
          mark = within;
          frames = omega (arith, long);
          next = omega (arith, long, next);
          base = subst (λ c. IsBase ws c (take k.frames fs)) (sym at) (subst (IsBase ws s) (sym whole_frames) base);
          words = subst (λ c. IsAlternativeIn c k.alternative) (sym at) inside;
        },
        subst (λ c. AreRests ws c (take k.frames fs) (reverse ks)) (sym at) (subst (λ l. AreRests ws s l (reverse ks)) (sym whole_frames) r),
      )

  pub choices_more : (v : View) → choices_at v ws s fs (reverse all)
      ≡ choice_at v (reads v s) (node_at (reads v s) (tasks fs k.next) ws k.mark.used) k.alternative ∷ choices_at v ws s fs (reverse ks)
  choices_more v =
      ap (choices_at v ws s fs) (ap reverse newest ∙ newest_first ks k)
      ∙ ap₂ (λ c l. choice_at v (reads v c) (node_at (reads v c) (tasks l k.next) ws k.mark.used) k.alternative ∷ choices_at v ws c l (reverse ks)) at whole_frames
