-- The catch that a ball comes to.
use Rattle.std.proofs.Common.{◌≡◌, ℕ, suc, ◌+◌, ◌-◌, ◌<◌, List, [], ◌∷◌, ◌++◌, length, get_or, map, take, drop, reverse, Some, refl, sym, ap, ap₂, ◌∙◌, arith}
use Rattle.std.proofs.lemmas.List.{take_more}
use Rattle.pl_term.specs.Tree.{Tree}
use Rattle.pl_model.specs.Resolution.{Limits, Node, Pending, State, Choice, throwing, ended, threw, up_to}
use Rattle.pl_model.specs.Control.{at_catch, caught, fitting, thrown}
use Rattle.term_store.specs.declared.words.Place.{Place}
use Rattle.iso_search.specs.declared.choices.Alternative.{Alternative}
use Rattle.iso_search.specs.declared.choices.Alternative.TheVariants.{Clauses, Answers, Told, Branch, Barrier, Catch, Findall}
use Rattle.iso_search.specs.declared.frames.Task.{Task}
use Rattle.iso_search.specs.declared.frames.Task.TheVariants.{Goal, Commit, Refute, Leave, Collect}
use Rattle.term_store.specs.Contents.{Contents}
use Rattle.iso_search.specs.declared.choices.ChoicePoint.{ChoicePoint}
use Rattle.iso_search.specs.declared.frames.Frame.{Frame}
use Rattle.iso_search.specs.declared.search.Search.{Search}
use Rattle.iso_search.specs.declared.throwing.CatchPoint.{CatchPoint}
use Rattle.iso_search.specs.Choices.{choice_at, choices_at, AreRests}
use Rattle.iso_search.specs.Outcomes.{Setting, limits_in, state_in}
use Rattle.iso_search.specs.Reading.{View, pending, reads}
use Rattle.iso_search.specs.Searching.{choices_of, node_of}
use Rattle.iso_search.specs.Throwing.{caught_result}
use Rattle.iso_search.proofs.Heights.{choices-truncated, newest_first}
use Rattle.iso_search.proofs.Over.{state_by}

pub thrown_at_end : (l : Limits) (s : State) (ball : Tree) (ps : List Pending) → ps ≡ [] → record s { doing = ended (threw ball) } ≡ thrown l s ball ps
unfolding thrown
thrown_at_end l s ball ps e = sym (ap (thrown l s ball) e)

pub thrown_at_exit : (l : Limits) (s : State) (ball : Tree) (r : Place → Tree) (ts us : List Task) (h : ℕ) (k : Task) → ts ≡ k ∷ us → k ≡ Leave h
    → caught l s ball (map (pending r) us) (up_to (suc h) s.choices) ≡ thrown l s ball (map (pending r) ts)
unfolding thrown
thrown_at_exit l s ball r ts us h k e f = sym (ap (λ xs. thrown l s ball (map (pending r) xs)) (e ∙ ap (λ x. x ∷ us) f))

-- Another task is passed by.
pub passed_by : (l : Limits) (s : State) (ball : Tree) (r : Place → Tree) (ts us : List Task) (k : Task) → ts ≡ k ∷ us → ((h : ℕ) → k ≡ Leave h → ⊥)
    → thrown l s ball (map (pending r) us) ≡ thrown l s ball (map (pending r) ts)
unfolding thrown
passed_by l s ball r ts us k e other = go k other ∙ sym (ap (λ xs. thrown l s ball (map (pending r) xs)) e)
  where
    go : (x : Task) → ((h : ℕ) → x ≡ Leave h → ⊥) → thrown l s ball (map (pending r) us) ≡ thrown l s ball (pending r x ∷ map (pending r) us)
    go (Goal w h) n = refl
    go (Commit h) n = refl
    go (Refute h) n = refl
    go (Leave h) n = absurd (n h refl)
    go (Collect w h) n = refl

-- The newest choice point up to a height

pub caught_nowhere : (l : Limits) (s : State) (ball : Tree) (outer : List Pending) (cs : List Choice) → length cs ≡ 0
    → record s { doing = throwing ball outer } ≡ caught l s ball outer cs
caught_nowhere l s ball outer [] e = refl
caught_nowhere l s ball outer (c ∷ cs) e = absurd (omega (arith, e))

pub caught_by_no_catch : (l : Limits) (s : State) (ball : Tree) (outer : List Pending) (cs older : List Choice) (v : View) (r : Place → Tree) (n : Node) (a : Alternative)
    → cs ≡ choice_at v r n a ∷ older → ((c w : Place) → a ≡ Catch c w → ⊥)
    → record s { doing = throwing ball outer } ≡ caught l s ball outer cs
caught_by_no_catch l s ball outer cs older v r n a e other = go a other ∙ sym (ap (caught l s ball outer) e)
  where
    go : (x : Alternative) → ((c w : Place) → x ≡ Catch c w → ⊥) → record s { doing = throwing ball outer } ≡ caught l s ball outer (choice_at v r n x ∷ older)
    go (Clauses p w g j) k = refl
    go (Told w ls line) k = refl
    go (Answers w line) k = refl
    go Branch k = refl
    go Barrier k = refl
    go (Catch c w) k = absurd (k c w refl)
    go (Findall w f) k = refl

pub caught_by_catch : (t : Setting) (e f : Search) (ball : Tree) (outer : List Pending) (cs : List Choice) (a : Alternative) (k : CatchPoint)
    → cs ≡ choice_at t.view (reads t.view f.store) (node_of t.view f k.next) a ∷ choices_of t.view f → a ≡ Catch k.catcher k.recovery
    → limits_in t f ≡ limits_in t e → f.next_variable ≡ e.next_variable → f.inferences ≡ e.inferences
    → caught_result t f ball outer (Some k) ≡ caught (limits_in t e) (state_in t e) ball outer cs
caught_by_catch t e f ball outer cs a k is at limits next inferences =
    let v = t.view in
    let n = node_of v f k.next in
    let newer : Choice = choice_at v (reads v f.store) n (Catch k.catcher k.recovery) in
    let same : state_in t f ≡ record (state_in t e) { choices = choices_of v f } =
    state_by t.doing t.doing (choices_of v f) (choices_of v f) f.next_variable e.next_variable f.inferences e.inferences t.output refl refl next inferences in
    ap₂ (λ (l : Limits) (s : State). at_catch s n (reads v f.store k.catcher) (reads v f.store k.recovery) (fitting l s n ball)) limits same
    ∙ sym (ap (caught (limits_in t e) (state_in t e) ball outer) (is ∙ ap (λ x. choice_at v (reads v f.store) n x ∷ choices_of v f) at))

pub capped : (cs : List Choice) (height at : ℕ) → length cs - (height + 1) ≡ length cs - (at + 1) → up_to (suc height) cs ≡ up_to (suc at) cs
capped cs height at e = ap (λ n. drop n cs) (omega (arith, e))

pub newest_up_to : (v : View) (ws : List Place) (s : Contents) (fs : List Frame) (ks : List ChoicePoint) (at : ℕ) (k : ChoicePoint) → at < length ks
    → AreRests ws s fs (reverse ks) → k ≡ get_or ks at k
    → up_to (suc at) (choices_at v ws s fs (reverse ks)) ≡ choices_at v ws s fs (k ∷ reverse (take at ks))
newest_up_to v ws s fs ks at k lt rests is =
    let one : suc at ≡ at + 1 = omega arith in
    sym (choices-truncated v ws s fs (suc at) ks rests)
    ∙ ap (λ l. choices_at v ws s fs (reverse l)) (ap (λ n. take n ks) one ∙ take_more ks at k lt ∙ ap (λ x. take at ks ++ x ∷ []) (sym is))
    ∙ ap (choices_at v ws s fs) (newest_first (take at ks) k)

-- The choice point that is taken off is the one that was looked at.
last_of : (xs ys : List ChoicePoint) (x y : ChoicePoint) → xs ++ x ∷ [] ≡ ys ++ y ∷ [] → x ≡ y
last_of xs ys x y e = go (ap reverse e)
  where
    go : reverse (xs ++ x ∷ []) ≡ reverse (ys ++ y ∷ []) → x ≡ y
    go f = let g : x ∷ reverse xs ≡ y ∷ reverse ys = sym (newest_first xs x) ∙ f ∙ newest_first ys y in cc

pub looked_at : (ks ls : List ChoicePoint) (at : ℕ) (k x : ChoicePoint) → at < length ks → k ≡ get_or ks at k → take (at + 1) ks ≡ ls ++ x ∷ [] → x ≡ k
looked_at ks ls at k x lt is e =
    last_of ls (take at ks) x k (sym e ∙ take_more ks at k lt ∙ ap (λ y. take at ks ++ y ∷ []) (sym is))
