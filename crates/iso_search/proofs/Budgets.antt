-- A store with another budget: what stands in it is the same.
use Rattle.std.proofs.Common.{◌≡◌, ℕ, List, [], ◌∷◌, take, refl, ap}
use Rattle.std.proofs.lemmas.List.Elements.{All-weaker}
use Rattle.term_store.specs.declared.words.Place.{Place}
use Rattle.term_store.specs.Contents.{Contents, back_to}
use Rattle.iso_search.specs.declared.choices.Alternative.{Alternative}
use Rattle.iso_search.specs.declared.choices.Alternative.TheVariants.{Clauses, Answers, Told, Branch, Barrier, Catch, Findall}
use Rattle.iso_search.specs.declared.choices.ChoicePoint.{ChoicePoint}
use Rattle.iso_search.specs.declared.frames.Frame.{Frame}
use Rattle.iso_search.specs.declared.frames.Task.{Task}
use Rattle.iso_search.specs.declared.frames.Task.TheVariants.{Goal, Commit, Refute, Leave, Collect}
use Rattle.iso_search.specs.Choices.{AreRests, IsAlternativeIn, IsBase, IsTaskIn, choice_at, choices_at, node_behind}
use Rattle.iso_search.specs.Reading.{View, reads}

abbrev pub with_budget : Contents → ℕ → Contents
with_budget s b = record s { budget = b }

pub choices_budget : (v : View) (ws : List Place) (s : Contents) (fs : List Frame) (ks : List ChoicePoint) (b : ℕ)
    → choices_at v ws (with_budget s b) fs ks ≡ choices_at v ws s fs ks
choices_budget v ws s fs [] b = refl
choices_budget v ws s fs (k ∷ ks) b =
    ap (λ cs. choice_at v (reads v (back_to k.mark s)) (node_behind v ws s fs k) k.alternative ∷ cs)
    (choices_budget v ws (back_to k.mark s) (take k.frames fs) ks b)

pub alternative_budget : (s : Contents) (b : ℕ) (a : Alternative) → IsAlternativeIn s a → IsAlternativeIn (with_budget s b) a
alternative_budget s b (Clauses p w g k) i = i
alternative_budget s b (Told w ls line) i = i
alternative_budget s b (Answers w line) i = i
alternative_budget s b Branch i = tt
alternative_budget s b Barrier i = tt
alternative_budget s b (Catch c w) i = i
alternative_budget s b (Findall w f) i = (i.0, record { counted = i.1.counted; above = i.1.above })

task_budget : (s : Contents) (b : ℕ) (k : Task) → IsTaskIn s k → IsTaskIn (with_budget s b) k
task_budget s b (Goal w h) i = i
task_budget s b (Commit h) i = tt
task_budget s b (Refute h) i = tt
task_budget s b (Leave h) i = tt
task_budget s b (Collect w h) i = i

pub base_budget : (ws : List Place) (s : Contents) (fs : List Frame) (b : ℕ) → IsBase ws s fs → IsBase ws (with_budget s b) fs
base_budget ws s fs b i = record { answer = i.answer; words = All-weaker (λ f. IsTaskIn s f.task) (λ f. IsTaskIn (with_budget s b) f.task) (λ f h. task_budget s b f.task h) fs i.words; linked = i.linked }

pub rests_budget : (ws : List Place) (s : Contents) (fs : List Frame) (ks : List ChoicePoint) (b : ℕ) → AreRests ws s fs ks → AreRests ws (with_budget s b) fs ks
rests_budget ws s fs [] b r = tt
rests_budget ws s fs (k ∷ ks) b r = (
  record {
    mark = record { within = r.0.mark.within; used = r.0.mark.used; fit = r.0.mark.fit };
    frames = r.0.frames;
    next = r.0.next;
    base = base_budget ws (back_to k.mark s) (take k.frames fs) b r.0.base;
    words = alternative_budget (back_to k.mark s) b k.alternative r.0.words;
  },
  rests_budget ws (back_to k.mark s) (take k.frames fs) ks b r.1,
)
