-- Tasks that are forgotten: those of lists that nothing goes on with.
use Rattle.std.proofs.Common.{◌≡◌, ℕ, suc, ◌+◌, ◌<◌, ◌≤◌, List, [], ◌∷◌, ◌++◌, length, get_or, take, drop, reverse, refl, sym, ap, subst, ◌∙◌, arith, length-take, length-drop}
use Rattle.std.proofs.Math.Seq.{split_at}
use Rattle.std.proofs.lemmas.List.{get_or-take, take-append-drop, take-take}
use Rattle.std.proofs.lemmas.List.Elements.{All-take}
use Rattle.term_store.specs.declared.words.Place.{Place}
use Rattle.term_store.specs.Contents.{Contents, back_to}
use Rattle.iso_search.specs.declared.choices.ChoicePoint.{ChoicePoint}
use Rattle.iso_search.specs.declared.frames.Frame.{Frame}
use Rattle.iso_search.specs.Choices.{AreRests, IsBase, IsTaskIn, choice_at, choices_at}
use Rattle.iso_search.specs.Frames.{AreLinked, no_frame, tasks}
use Rattle.iso_search.specs.Held.{frames_held}
use Rattle.iso_search.specs.Reading.{View, node_at, reads}
use Rattle.iso_search.proofs.Heights.{newest_first}
use Rattle.iso_search.proofs.Stacked.{tasks-append}

empty : {X : Type 0} (xs : List X) → length xs ≡ 0 → xs ≡ []
empty [] e = refl
empty (x ∷ xs) e = absurd (omega (arith, e))

-- The newest choice point.
pub newest_held : (ks : List ChoicePoint) (i : ℕ) (d : ChoicePoint) → length ks ≡ suc i → (get_or ks i d).frames ≡ frames_held (reverse ks)
newest_held ks i d long =
    let k = get_or ks i d in
    let lt : i < length ks = omega (arith, long) in
    let none : drop (suc i) ks ≡ [] = empty (drop (suc i) ks) (omega (arith, length-drop (suc i) ks, long)) in
    let split : ks ≡ take i ks ++ k ∷ [] = split_at ks i d lt ∙ ap (λ l. take i ks ++ (k ∷ l)) none in
    sym (ap (λ l. frames_held (reverse l)) split ∙ ap frames_held (newest_first (take i ks) k))

pub none_held : (ks : List ChoicePoint) → length ks ≡ 0 → 0 ≡ frames_held (reverse ks)
none_held ks none = sym (ap (λ l. frames_held (reverse l)) (empty ks none))

-- A list that is kept.
pub tasks_kept : (fs : List Frame) (n list : ℕ) → list ≤ length (take n fs) → tasks (take n fs) list ≡ tasks fs list
tasks_kept fs n list le = sym (tasks-append (take n fs) (drop n fs) list le) ∙ ap (λ l. tasks l list) (take-append-drop n fs)

pub base_kept : (ws : List Place) (s : Contents) (fs : List Frame) (n : ℕ) → IsBase ws s fs → IsBase ws s (take n fs)
base_kept ws s fs n base =
    record { answer = base.answer; words = All-take (λ (f : Frame). IsTaskIn s f.task) n fs base.words; linked = linked }
  where
    linked : AreLinked (take n fs)
    linked k lt =
        let below : k < n = omega (arith, lt, length-take n fs) in
        let inside : k < length fs = omega (arith, lt, length-take n fs) in
        subst (λ (f : Frame). f.continuation ≤ k) (sym (get_or-take n fs k no_frame below)) (base.linked k inside)

pub rests_kept : (ws : List Place) (s : Contents) (fs : List Frame) (n : ℕ) (ks : List ChoicePoint) → frames_held ks ≤ n → AreRests ws s fs ks → AreRests ws s (take n fs) ks
rests_kept ws s fs n [] le r = tt
rests_kept ws s fs n (k ∷ ks) le r =
    let few : k.frames ≤ n = le in
    let same : take k.frames (take n fs) ≡ take k.frames fs = take-take k.frames n fs few in (
      record {
        mark = r.0.mark;
        frames = omega (arith, r.0.frames, few, length-take n fs);
        next = r.0.next;
        base = subst (IsBase ws (back_to k.mark s)) (sym same) r.0.base;
        words = r.0.words;
      },
      subst (λ l. AreRests ws (back_to k.mark s) l ks) (sym same) r.1,
    )

pub choices_same : (v : View) (ws : List Place) (s : Contents) (fs : List Frame) (n : ℕ) (ks : List ChoicePoint) → frames_held ks ≤ n
    → choices_at v ws s (take n fs) ks ≡ choices_at v ws s fs ks
choices_same v ws s fs n [] le = refl
choices_same v ws s fs n (k ∷ ks) le =
    let c = back_to k.mark s in
    ap (λ l. choice_at v (reads v c) (node_at (reads v c) (tasks l k.next) ws k.mark.used) k.alternative ∷ choices_at v ws c l ks) (take-take k.frames n fs le)
