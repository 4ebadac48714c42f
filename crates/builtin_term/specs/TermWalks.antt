-- Variables in the terms of a store, and places at which they stand.
use Rattle.std.specs.Prelude.{◌≡◌, ℕ, Bool, false, ◌||◌, List, [], ◌∷◌, map}
use Rattle.pl_term.specs.Tree.{Tree, var}
use Rattle.pl_term.specs.Variables.{has}
use Rattle.term_store.specs.Contents.{Contents, Holds, term_at}
use Rattle.builtin_term.specs.declared.met_variables.Met.{Met}

-- Whether the variable occurs in one of the terms.
abbrev pub one_has : ℕ → List Tree → Bool
one_has x [] = false
one_has x (t ∷ ts) = has x t || one_has x ts

-- A variable that stands at its place.
pub record IsMet (s : Contents) (e : Met) : Type 0 where
  pub inside : Holds s e.place
  pub stands : term_at s e.place ≡ var e.number

abbrev pub numbers : List Met → List ℕ
numbers es = map (λ e. e.number) es
