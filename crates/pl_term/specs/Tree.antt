-- Terms (ISO 6.1.2): a variable by its number, an integer, an atom, or a compound term with one or more
-- arguments. The first argument stands apart, so that no compound term without arguments can be written.
use Rattle.std.specs.Prelude.{ℕ, ℤ, List, [], ◌∷◌, suc, zero}

-- A text as the list of its code points.
abbrev pub Chars : Type 0
Chars = List ℕ

mutual
  pub data Tree : Type 0 where
    var : ℕ → Tree
    int : ℤ → Tree
    atom : Chars → Tree
    comp : Chars → Tree → Trees → Tree

  pub data Trees : Type 0 where
    none : Trees
    more : Tree → Trees → Trees

-- The number of trees in a list.
abbrev pub count : Trees → ℕ
count none = zero
count (more t ts) = suc (count ts)

-- The trees of the first list, then those of the second.
abbrev pub join : Trees → Trees → Trees
join none us = us
join (more t ts) us = more t (join ts us)

-- The first `k` trees of a list, or all of a shorter one.
abbrev pub first : ℕ → Trees → Trees
first zero ts = none
first (suc k) none = none
first (suc k) (more t ts) = more t (first k ts)

-- What is left of a list after its first `k` trees.
abbrev pub after : ℕ → Trees → Trees
after zero ts = ts
after (suc k) none = none
after (suc k) (more t ts) = after k ts

-- A list of trees in the form that a compound term holds.
abbrev pub trees : List Tree → Trees
trees [] = none
trees (t ∷ ts) = more t (trees ts)

-- The term with this name and these arguments: an atom where there are none.
abbrev pub compound : Chars → List Tree → Tree
compound f [] = atom f
compound f (t ∷ ts) = comp f t (trees ts)
