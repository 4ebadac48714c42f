-- The goal of an engine that begins is handed over.
use Rattle.std.proofs.Common.{◌≡◌, ℕ, ◌+◌, List, [], ◌∷◌, filter, find, Option, Some, None, Bool, true, false, refl, sym, ap, subst, ◌∙◌, arith, eq-eqb, eqb-true, inl, inr}
use Rattle.std.specs.Prelude.{◌==◌, ◌||◌, ◌≢◌, cond, not, option_map}
use Rattle.std.proofs.lemmas.Bool.{cases_eq, false≢true, ne_eqb}
use Rattle.std.proofs.lemmas.Option.{same_Some}
use Rattle.pl_term.specs.Tree.{Tree}
use Rattle.pl_model.specs.History.{History}
use Rattle.atom_words.specs.declared.view.View.{View}
use Rattle.counted_terms.specs.CountedTerms.{IsCounted, naming, said}
use Rattle.counted_terms.specs.Keeping.{kept, tally}
use Rattle.counted_terms.specs.Sharing.{Counts, Restored}
use Rattle.counted_terms.proofs.Sharing.{forget_restores}
use Rattle.hub_threads.specs.Distinct.{Distinct, has_number}
use Rattle.hub_threads.specs.Goals.{first_begun}
use Rattle.hub_threads.specs.Held.{Held, IsSound, goal_numbers, goal_of, is_goal_of, without_goal}
use Rattle.hub_threads.specs.Threads.{IsThreads, thread_counts}
use Rattle.hub_threads.specs.Weights.{IsBelow, weigh}
use Rattle.hub_threads.proofs.Below.{stays_below}
use Rattle.hub_threads.proofs.Forgotten.{less_counted}
use Rattle.hub_threads.proofs.Steps.{stays}
use Rattle.hub_threads.proofs.Weighing.{keeps_all}

-- THE GOALS THAT ARE LEFT are goals that were kept
gone_by : (n : ℕ) (b : Bool) (g : ℕ × Tree) (fs : List (ℕ × Tree)) → (g.0 == n) ≡ b → find (is_goal_of n) fs ≡ None → find (is_goal_of n) (cond (not b) (g ∷ fs) fs) ≡ None
gone_by n true g fs is rest = rest
gone_by n false g fs is rest = ap (λ d. cond d (Some g) (find (is_goal_of n) fs)) is ∙ rest

gone : (n : ℕ) (gs : List (ℕ × Tree)) → find (is_goal_of n) (filter (λ g. not (is_goal_of n g)) gs) ≡ None
gone n [] = refl
gone n (g ∷ gs) = gone_by n (g.0 == n) g (filter (λ x. not (is_goal_of n x)) gs) refl (gone n gs)

others_by : (n m : ℕ) (b : Bool) (g : ℕ × Tree) (fs gs : List (ℕ × Tree)) → (g.0 == n) ≡ b → (n == m) ≡ false → find (is_goal_of m) fs ≡ find (is_goal_of m) gs
    → find (is_goal_of m) (cond (not b) (g ∷ fs) fs) ≡ cond (g.0 == m) (Some g) (find (is_goal_of m) gs)
others_by n m true g fs gs is other rest = rest ∙ ap (λ d. cond d (Some g) (find (is_goal_of m) gs)) (sym (ap (λ k. k == m) (eqb-true g.0 n is) ∙ other))
others_by n m false g fs gs is other rest = ap (λ o. cond (g.0 == m) (Some g) o) rest

others : (n m : ℕ) → (n == m) ≡ false → (gs : List (ℕ × Tree)) → find (is_goal_of m) (filter (λ g. not (is_goal_of n g)) gs) ≡ find (is_goal_of m) gs
others n m other [] = refl
others n m other (g ∷ gs) = others_by n m (g.0 == n) g (filter (λ x. not (is_goal_of n x)) gs) gs refl other (others n m other gs)

kept_before : (n m : ℕ) (q : Held Tree) (t : Tree) → goal_of m (without_goal n q) ≡ Some t → goal_of m q ≡ Some t
kept_before n m q t at = elim (cases_eq n m) [
  | inl is ↦
      let none : goal_of m (without_goal n q) ≡ None = ap (λ (k : ℕ). option_map (λ (g : ℕ × Tree). g.1) (find (is_goal_of k) (filter (λ g. not (is_goal_of n g)) q.goals))) (sym is) ∙ ap (option_map (λ (g : ℕ × Tree). g.1)) (gone n q.goals) in
      absurd (let f : Some t ≡ None = sym at ∙ none in cc)
  | inr ne ↦ ap (option_map (λ (g : ℕ × Tree). g.1)) (sym (others n m (ne_eqb n m ne) q.goals)) ∙ at
]

-- WHAT IS LEFT
module _ (q r : Held Tree) (n : ℕ) (t : Tree) (sound : IsSound q) (at : goal_of n q ≡ Some t) (left : r ≡ without_goal n q) where
  pub goal_weighs : (a : ℕ) → thread_counts q a ≡ naming a t + thread_counts r a
  goal_weighs a = (keeps_all (naming a) q sound).goal n t at ∙ ap (λ z. naming a t + weigh (naming a) z) (sym left)

  pub goal_counted : (k : View) (g : ℕ) → Counts (thread_counts q) k g → IsCounted t k
  goal_counted k g counts a some_ = let w = goal_weighs a in let e = counts.exact a in let p = some_ in omega (arith, w, e, p)

  pub goal_below : (count g : ℕ) → IsBelow count g q → IsBelow count g r
  goal_below count g below = subst (IsBelow count g) (sym left) ((stays_below count g q below).goal n)

  module _ (k l : View) (others_say : (u : Tree) → IsCounted u l → said (kept l) u ≡ said (kept k) u) (counts : (a : ℕ) → naming a t + tally l a ≡ tally k a) where
    pub goal_restores : (g : ℕ) → Restored (thread_counts q) (thread_counts r) k l g g
    goal_restores g = forget_restores (thread_counts q) (thread_counts r) k l g t goal_weighs others_say counts

    pub goal_stands : (g : ℕ) → Counts (thread_counts q) k g → (count goals : ℕ) (h : History) → IsSound r → IsThreads k q count goals h → IsThreads l r count goals h
    goal_stands g exact count goals h sound_after stands =
        stays k l r count goals h sound_after (λ u inside. others_say u (less_counted k l q r (λ a. naming a t) exact.rest exact.exact goal_weighs counts u inside))
        (subst (λ (z : Held Tree). IsThreads k z count goals h) (sym left)
        (record {
          threads = stands.threads;
          number = stands.number;
          begun = stands.begun;
          waiting = λ m u is. stands.waiting m u (kept_before n m q u is);
        }))

-- THE FIRST ONE
found_first : (b : Bool) (g : ℕ × Tree) (o : Option (ℕ × Tree)) → b ≡ true → cond b (Some g) o ≡ Some g
found_first true g o is = refl
found_first false g o is = absurd (false≢true is)

-- it is kept
pub first_kept : (n : ℕ) (q : Held Tree) → first_begun (goal_numbers q.goals) ≡ Some n → goal_of n q ≢ None
first_kept n q first none = by q.goals first none
  where
    by : (gs : List (ℕ × Tree)) → first_begun (goal_numbers gs) ≡ Some n → option_map (λ (g : ℕ × Tree). g.1) (find (is_goal_of n) gs) ≡ None → ⊥
    by [] first none = absurd (let f : None ≡ Some n = first in cc)
    by (g ∷ gs) first none =
        let here : (g.0 == n) ≡ true = eq-eqb g.0 n (same_Some g.0 n first) in
        absurd (let f : Some g.1 ≡ None = sym (ap (option_map (λ (x : ℕ × Tree). x.1)) (found_first (g.0 == n) g (find (is_goal_of n) gs) here)) ∙ none in cc)

others_stay : (n : ℕ) (gs : List (ℕ × Tree)) → has_number n (goal_numbers gs) ≡ false → filter (λ g. not (is_goal_of n g)) gs ≡ gs
others_stay n [] none = refl
others_stay n (g ∷ gs) none = by (g.0 == n) none (others_stay n gs)
  where
    by : (b : Bool) → (b || has_number n (goal_numbers gs)) ≡ false → (has_number n (goal_numbers gs) ≡ false → filter (λ g. not (is_goal_of n g)) gs ≡ gs)
        → cond (not b) (g ∷ filter (λ g. not (is_goal_of n g)) gs) (filter (λ g. not (is_goal_of n g)) gs) ≡ g ∷ gs
    by true none rest = absurd (false≢true (sym none))
    by false none rest = ap (λ (l : List (ℕ × Tree)). g ∷ l) (rest none)

-- the others are left
pub first_left : (n : ℕ) (q : Held Tree) → IsSound q → first_begun (goal_numbers q.goals) ≡ Some n → goal_numbers q.goals ≡ n ∷ goal_numbers (without_goal n q).goals
first_left n q sound first = by q.goals sound.goals_once first
  where
    by : (gs : List (ℕ × Tree)) → Distinct (goal_numbers gs) → first_begun (goal_numbers gs) ≡ Some n → goal_numbers gs ≡ n ∷ goal_numbers (filter (λ g. not (is_goal_of n g)) gs)
    by [] once first = absurd (let f : None ≡ Some n = first in cc)
    by (g ∷ gs) once first =
        let is : g.0 ≡ n = same_Some g.0 n first in
        let rest : filter (λ x. not (is_goal_of n x)) gs ≡ gs = others_stay n gs (ap (λ k. has_number k (goal_numbers gs)) (sym is) ∙ once.0) in
        ap (λ k. k ∷ goal_numbers gs) is ∙ ap (λ (l : List (ℕ × Tree)). n ∷ goal_numbers l) (sym rest) ∙ ap (λ (l : List (ℕ × Tree)). n ∷ goal_numbers l) (sym (here (g.0 == n) (eq-eqb g.0 n is)))
      where
        here : (b : Bool) → b ≡ true → cond (not b) (g ∷ filter (λ x. not (is_goal_of n x)) gs) (filter (λ x. not (is_goal_of n x)) gs) ≡ filter (λ x. not (is_goal_of n x)) gs
        here true is = refl
        here false is = absurd (false≢true is)
