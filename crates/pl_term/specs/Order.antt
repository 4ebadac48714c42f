-- The standard order of terms (ISO 7.2).
use Rattle.std.specs.Prelude.{ℕ}
use Rattle.std.specs.Ordering.{nat_cmp, int_cmp, ordering_then}
use Rattle.std.specs.declared.cmp.Ordering.{Ordering}
use Rattle.std.specs.declared.cmp.Ordering.TheVariants.{Less, Equal, Greater}
use Rattle.std.specs.Cmp.Lexicographic.{slice_cmp}
use Rattle.pl_term.specs.Tree.{Chars, Tree, Trees, var, int, atom, comp, none, more, count}

-- Texts by the codes of their characters, one after the other; a text comes before those that it begins.
abbrev pub text_order : Chars → Chars → Ordering
text_order = slice_cmp nat_cmp

-- A variable comes before an integer, that before an atom, and that before a compound term.
abbrev pub rank : Tree → ℕ
rank (var x) = 0
rank (int i) = 1
rank (atom a) = 2
rank (comp f t ts) = 3

-- Of two terms of one kind, variables are in the order of their numbers, integers of their values, atoms of their
-- names, and compound terms first of the number of their arguments, then of their names, then of the first
-- arguments from the left that differ.
abbrev mutual
  pub order : Tree → Tree → Ordering
  order (var x) (var y) = nat_cmp x y
  order (int i) (int j) = int_cmp i j
  order (atom a) (atom b) = text_order a b
  order (comp f t ts) (comp g u us) =
      ordering_then
      (nat_cmp (count ts) (count us))
      (ordering_then (text_order f g) (ordering_then (order t u) (order_all ts us)))
  order t u = nat_cmp (rank t) (rank u)

  pub order_all : Trees → Trees → Ordering
  order_all none none = Equal
  order_all none (more u us) = Less
  order_all (more t ts) none = Greater
  order_all (more t ts) (more u us) = ordering_then (order t u) (order_all ts us)
