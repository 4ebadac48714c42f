-- Unification (ISO 7.3.2, the Herbrand algorithm) with the occurs check: as long as the two terms differ, the
-- variable at their leftmost difference is bound to the term that faces it, and replaced everywhere. Of two
-- variables the one with the greater number is bound.
use Rattle.std.specs.Prelude.{ℕ, zero, suc, ◌+◌, ◌&&◌, if◌then◌else◌, nat_lt, ◌==◌, bytes_eq, List, [], ◌∷◌, ◌++◌, length, map, Option, Some, None}
use Rattle.std.specs.Ordering.{int_eq}
use Rattle.pl_term.specs.Tree.{Tree, Trees, var, int, atom, comp, none, more, count}
use Rattle.pl_term.specs.Variables.{occurrences_all, has, replace, replace_all}

-- Bindings, each a variable with the term that replaces it, in the order in which they were made.
abbrev pub Bindings : Type 0
Bindings = List (ℕ × Tree)

-- The variables that are bound.
abbrev pub bound_variables : Bindings → List ℕ
bound_variables bs = map (λ b. b.0) bs

-- The term with the replacements made, in their order.
abbrev pub bound : Bindings → Tree → Tree
bound [] t = t
bound (b ∷ bs) t = bound bs (replace b.0 b.1 t)

abbrev pub bound_all : Bindings → Trees → Trees
bound_all [] ts = ts
bound_all (b ∷ bs) ts = bound_all bs (replace_all b.0 b.1 ts)

-- What two terms have at their leftmost difference: nothing where they are the same, two terms of which neither
-- is a variable, or a variable and the term that it is to be bound to.
pub data Difference : Type 0 where
  same : Difference
  clash : Difference
  binds : ℕ → Tree → Difference

abbrev pub or_later : Difference → Difference → Difference
or_later same later = later
or_later clash later = clash
or_later (binds x t) later = binds x t

abbrev mutual
  pub difference : Tree → Tree → Difference
  difference (var x) (var y) = if x == y then same else (if nat_lt x y then binds y (var x) else binds x (var y))
  difference (var x) u = binds x u
  difference t (var y) = binds y t
  difference (int i) (int j) = if int_eq i j then same else clash
  difference (atom a) (atom b) = if bytes_eq a b then same else clash
  difference (comp f t ts) (comp g u us) =
      if bytes_eq f g && count ts == count us then or_later (difference t u) (differences ts us) else clash
  difference _ _ = clash

  pub differences : Trees → Trees → Difference
  differences none none = same
  differences (more t ts) (more u us) = or_later (difference t u) (differences ts us)
  differences _ _ = clash

-- One turn: the terms are the same, or they have no common instance, or one more variable is bound and replaced,
-- and the next turn goes on. A variable that occurs in its own term is not bound (ISO 7.3.2, step h).
abbrev pub turn : (Bindings → Trees → Trees → Option Bindings) → Bindings → Trees → Trees → Difference → Option Bindings
turn next bs ts us same = Some bs
turn next bs ts us clash = None
turn next bs ts us (binds x t) =
    if has x t then None else next (bs ++ (x, t) ∷ []) (replace_all x t ts) (replace_all x t us)

-- At most so many turns, after these bindings.
abbrev pub solve : ℕ → Bindings → Trees → Trees → Option Bindings
solve zero bs ts us = None
solve (suc n) bs ts us = turn (solve n) bs ts us (differences ts us)

-- As many turns as there are occurrences of variables, and one more: each turn but the last takes a variable away.
unfoldable pub solve_all : Bindings → Trees → Trees → Option Bindings
solve_all bs ts us = solve (suc (length (occurrences_all ts) + length (occurrences_all us))) bs ts us

-- The bindings that unify the terms, or none where no substitution does.
unfoldable pub unify : Tree → Tree → Option Bindings
unify a b = solve_all [] (more a none) (more b none)

-- The instance of a term by a substitution: each variable replaced by the term that the substitution gives it.
abbrev mutual
  pub instance : (ℕ → Tree) → Tree → Tree
  instance s (var x) = s x
  instance s (int i) = int i
  instance s (atom a) = atom a
  instance s (comp f t ts) = comp f (instance s t) (instances s ts)

  pub instances : (ℕ → Tree) → Trees → Trees
  instances s none = none
  instances s (more t ts) = more (instance s t) (instances s ts)
