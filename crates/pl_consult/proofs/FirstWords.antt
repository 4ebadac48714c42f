-- The first of the words.
use Rattle.std.proofs.Common.{◌≡◌, ℕ, List, [], ◌∷◌, slice_get, Option, Some, None, Result, refl, subst}
use Rattle.std.specs.Prelude.{IfOk}
use Rattle.pl_term.specs.Tree.{Chars, Tree}
use Rattle.pl_term.specs.declared.memory.Memory.{Memory}
use Rattle.word_board.specs.declared.word.GoalWord.{GoalWord}
use Rattle.pl_consult.specs.Steps.{IsFirst, IsGoalOf}
use Rattle.pl_consult.specs.GoalWords.{names_by, names_in, word_of, words_of}

pub first_none : (ws : List GoalWord) → slice_get ws 0 ≡ None → IsFirst None (words_of ws)
first_none [] is = refl
first_none (w ∷ ws) is = absurd (let no : ⊥ = cc in no)

pub first_some : (r : Result (Option Tree) Memory) (ws : List GoalWord) (w : GoalWord)
    → slice_get ws 0 ≡ Some w
    → IfOk r (λ o. IsGoalOf o (word_of w))
    → IfOk r (λ o. IsFirst o (words_of ws))
first_some r [] w is ok = absurd (let no : ⊥ = cc in no)
first_some r (v ∷ ws) w is ok =
    let same : w ≡ v = cc in subst (λ (x : GoalWord). IfOk r (λ o. IsGoalOf o (word_of x))) same ok

pub names_none : (ws : List GoalWord) → slice_get ws 0 ≡ None → [] ≡ names_by ws
names_none [] is = refl
names_none (w ∷ ws) is = absurd (let no : ⊥ = cc in no)

pub names_some : (ws : List GoalWord) (w : GoalWord) (names : List (Chars × ℕ)) → slice_get ws 0 ≡ Some w → names ≡ names_in w → names ≡ names_by ws
names_some [] w names is at = absurd (let no : ⊥ = cc in no)
names_some (v ∷ ws) w names is at = let same : w ≡ v = cc in subst (λ (x : GoalWord). names ≡ names_in x) same at
