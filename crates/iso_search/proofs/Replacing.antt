-- A frame in the place of those that are forgotten.
use Rattle.std.proofs.Common.{◌≡◌, ℕ, suc, ◌+◌, ◌<◌, ◌≤◌, true, false, nat_le, List, [], ◌∷◌, ◌++◌, length, get_or, take, reverse, refl, sym, ap, subst, ◌∙◌, arith, length-append, length-take, ◌⊎◌, inl, inr}
use Rattle.std.proofs.lemmas.Bool.Decides.{leb_tells}
use Rattle.std.proofs.lemmas.List.{get_or_append_left, get_or_push}
use Rattle.pl_model.specs.Control.{before}
use Rattle.pl_model.specs.Resolution.{collected_cells}
use Rattle.iso_search.specs.declared.choices.ChoicePoint.{ChoicePoint}
use Rattle.iso_search.specs.declared.frames.Frame.{Frame}
use Rattle.iso_search.specs.declared.search.Search.{Search}
use Rattle.iso_search.specs.Choices.{AreRests, IsBase, IsTaskIn, choices_at}
use Rattle.iso_search.specs.Frames.{AreLinked, no_frame, tasks}
use Rattle.iso_search.specs.Held.{frames_held}
use Rattle.iso_search.specs.Reading.{View, node_at, pending, reads}
use Rattle.iso_search.specs.Searching.{IsWhole, choices_of, node_of}
use Rattle.iso_search.proofs.Forgetting.{base_kept, choices_same, rests_kept, tasks_kept}
use Rattle.iso_search.proofs.Growing.{base_pushed, choices_pushed, rests_pushed}
use Rattle.iso_search.proofs.Stacked.{tasks-push}

-- A frame that goes on with an earlier list is put to frames that do.
linked_pushed : (fs : List Frame) (f : Frame) → AreLinked fs → f.continuation ≤ length fs → AreLinked (fs ++ f ∷ [])
linked_pushed fs f linked within k lt = go (leb_tells (suc k) (length fs))
  where
    go : ((nat_le (suc k) (length fs) ≡ true) × (suc k ≤ length fs)) ⊎ ((nat_le (suc k) (length fs) ≡ false) × (length fs < suc k))
        → (get_or (fs ++ f ∷ []) k no_frame).continuation ≤ k
    go (inl below) =
        subst (λ (g : Frame). g.continuation ≤ k) (sym (get_or_append_left fs (f ∷ []) no_frame k (omega (arith, below.1)))) (linked k (omega (arith, below.1)))
    go (inr above) =
        let at : length fs ≡ k = omega (arith, above.1, lt, length-append fs (f ∷ [])) in
        subst (λ (g : Frame). g.continuation ≤ k) (sym (get_or_push fs f no_frame k at)) (omega (arith, within, at))

-- The frames from a number on, which neither a choice point nor the list of the new frame has, are gone, and the frame is there.
module _ (e d : Search) (n : ℕ) (f : Frame) (kept : (let x : Search = record e { frames = d.frames } in d ≡ x))
    (put : d.frames.items ≡ take n e.frames.items ++ f ∷ []) (held : frames_held (reverse e.choices.items) ≤ n) (within : n < length e.frames.items) where
  abbrev fs : List Frame
  fs = take n e.frames.items

  abbrev ks : List ChoicePoint
  ks = reverse e.choices.items

  long : length fs ≡ n
  long = omega (arith, length-take n e.frames.items, within)

  pub choices_over : (v : View) → IsWhole e → choices_of v d ≡ choices_of v e
  choices_over v w =
      ap (choices_of v) kept
      ∙ choices_pushed v e.answer.items e.store fs d.frames.items f ks (rests_kept e.answer.items e.store e.frames.items n ks held w.rests) put
      ∙ choices_same v e.answer.items e.store e.frames.items n ks held

  pub node_over : (v : View) (k : ℕ) → k ≡ length d.frames.items → f.continuation ≤ n
      → node_of v d k ≡ before (pending (reads v e.store) f.task ∷ []) (node_of v e f.continuation)
  node_over v k at early =
      let there : k ≡ suc (length fs) = omega (arith, at, ap length put, length-append fs (f ∷ [])) in
      ap (λ (x : Search). node_of v x k) kept
      ∙ ap (λ l. node_at (reads v e.store) (tasks l k) e.answer.items e.store.used) put
      ∙ ap (λ k. node_at (reads v e.store) (tasks (fs ++ f ∷ []) k) e.answer.items e.store.used) there
      ∙ ap (λ ts. node_at (reads v e.store) ts e.answer.items e.store.used) (tasks-push fs f)
      ∙ ap (λ ts. node_at (reads v e.store) (f.task ∷ ts) e.answer.items e.store.used) (tasks_kept e.frames.items n f.continuation (omega (arith, early, long)))

  pub whole_over : IsTaskIn e.store f.task → f.continuation ≤ n → IsWhole e → IsWhole d
  whole_over inside early w =
      let base : IsBase e.answer.items e.store fs = base_kept e.answer.items e.store e.frames.items n w.base in
      let rests : AreRests e.answer.items e.store fs ks = rests_kept e.answer.items e.store e.frames.items n ks held w.rests in
      let linked : AreLinked (fs ++ f ∷ []) = linked_pushed fs f base.linked (omega (arith, early, long)) in
      subst IsWhole (sym kept)
      (record {
        base = base_pushed e.answer.items e.store fs d.frames.items f base inside put (subst AreLinked (sym put) linked);
        rests = rests_pushed e.answer.items e.store fs d.frames.items f ks rests put;
        budget = λ v. ap (λ cs. e.store.budget + collected_cells cs) (sym (ap (choices_of v) kept) ∙ choices_over v w) ∙ w.budget v;
        above = w.above;
        older = w.older;
      })
