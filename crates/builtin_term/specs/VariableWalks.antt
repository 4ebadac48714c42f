-- A walk through a term for its variables.
use Rattle.std.specs.Prelude.{◌≡◌, ◌⊎◌, ℕ, true, false, List, [], ◌∷◌, ◌++◌, length, map, reverse}
use Rattle.std.specs.List.{All, Contains}
use Rattle.pl_term.specs.NodeLists.{with}
use Rattle.pl_term.specs.Tree.{Tree, var}
use Rattle.pl_term.specs.Variables.{has, is_in, occurrences}
use Rattle.term_store.specs.declared.known_pairs.KnownPair.{KnownPair}
use Rattle.term_store.specs.declared.views.Arguments.{Arguments}
use Rattle.term_store.specs.declared.words.Place.{Place}
use Rattle.term_store.specs.Contents.{Contents, Holds, arguments_at, term_at}
use Rattle.builtin_term.specs.declared.course.Opened.{Opened}
use Rattle.builtin_term.specs.declared.variable_walk.Walk.{Walk}
use Rattle.builtin_term.specs.Courses.{Awaits, Enters}
use Rattle.builtin_term.specs.TermWalks.{one_has}

-- The terms that are still to be walked through, the first on top of the stack.
abbrev pub pending : Contents → List Place → List Tree
pending s ps = map (term_at s) (reverse ps)

-- The variable that stands at each place where one does, in all of these terms.
abbrev pub occurrences_in : List Tree → List ℕ
occurrences_in [] = []
occurrences_in (t ∷ ts) = occurrences t ++ occurrences_in ts

-- The variables met after these were met too.
abbrev pub met_after : List ℕ → List ℕ → List ℕ
met_after xs [] = xs
met_after xs (y ∷ ys) = met_after (with y xs) ys

-- A term was taken up: in the end the same variables will have been met.
pub record Visits (s : Contents) (t : Tree) (old : List Place) (before : List ℕ) (walk met : List Place) (seen : List ℕ) : Type 0 where
  pub inside : All (Holds s) walk
  pub places : All (Holds s) met
  pub stand : map (term_at s) met ≡ map var seen
  pub rest : met_after seen (occurrences_in (pending s walk)) ≡ met_after before (occurrences t ++ occurrences_in (pending s old))

-- The variable does not occur in the term at a place, or in the arguments of a compound term.
abbrev pub Lacks : ℕ → Contents → Place → Type 0
Lacks x s p = has x (term_at s p) ≡ false

abbrev pub LacksAll : ℕ → Contents → KnownPair → Type 0
LacksAll x s k = one_has x (arguments_at s k.left) ≡ false

-- The variable does not occur in the compound terms that the walk has left, and if it does not in the terms on the stack from a
-- height on it does not in the compound term that was entered at this height.
pub record IsCourse (x : ℕ) (s : Contents) (ps : List Place) (opened : List Opened) (left : List KnownPair) : Type 0 where
  pub awaits : All (Awaits (Lacks x s) (LacksAll x s) ps) opened
  pub known : All (LacksAll x s) left

-- This holds of each variable that was not met.
abbrev pub IsWalked : Contents → List ℕ → List Place → Walk → Type 0
IsWalked s seen ps w = (x : ℕ) → is_in x seen ≡ false → IsCourse x s ps w.course.opened.items w.course.left

-- Terms were put on the stack, the first on top.
pub record Gains (s : Contents) (ts : List Tree) (old new : List Place) : Type 0 where
  pub gained : List Place
  pub pushed : new ≡ old ++ gained
  pub stand : pending s gained ≡ ts
  pub lacks : (x : ℕ) → All (Lacks x s) gained → one_has x ts ≡ false

-- The walk has left the compound term with these arguments before.
pub record HasLeft (a : Arguments) (old new : Walk) : Type 0 where
  pub places : new.places.items ≡ old.places.items
  pub opened : new.course.opened.items ≡ old.course.opened.items
  pub same : new.course.left ≡ old.course.left
  pub among : Contains old.course.left (record { left = a; right = a })

-- The walk enters it.
pub record HasEntered (s : Contents) (a : Arguments) (old new : Walk) : Type 0 where
  pub gains : Gains s (arguments_at s a) old.places.items new.places.items
  pub enters : Enters true (record { left = a; right = a }) (length old.places.items) old.course.opened.items old.course.left new.course.opened.items
  pub same : new.course.left ≡ old.course.left

abbrev pub Passes : Contents → Arguments → Walk → Walk → Type 0
Passes s a old new = HasLeft a old new ⊎ HasEntered s a old new
