-- Terms as goals and as data: their kinds and parts, lists, and copies with new variables.
use Rattle.std.specs.Prelude.{ℕ, ◌+◌, ◌&&◌, ◌==◌, List, [], ◌∷◌, length, Bool, true, false, bytes_eq, codes}
use Rattle.pl_term.specs.Tree.{Chars, Tree, Trees, var, int, atom, comp, none, more, count, join}
use Rattle.pl_term.specs.Variables.{variables, rename_by}
use Rattle.pl_term.specs.Cells.{cells_all}
use Rattle.pl_model.specs.History.{Clause}

-- Kinds (ISO 7.1, 8.3)

abbrev pub is_variable : Tree → Bool
is_variable (var x) = true
is_variable _ = false

abbrev pub is_integer : Tree → Bool
is_integer (int i) = true
is_integer _ = false

abbrev pub is_atom : Tree → Bool
is_atom (atom a) = true
is_atom _ = false

abbrev pub is_compound : Tree → Bool
is_compound (comp f t ts) = true
is_compound _ = false

-- An atom or an integer (ISO 3.11).
abbrev pub is_atomic : Tree → Bool
is_atomic (int i) = true
is_atomic (atom a) = true
is_atomic _ = false

-- An atom or a compound term (ISO 3.24).
abbrev pub is_callable : Tree → Bool
is_callable (atom a) = true
is_callable (comp f t ts) = true
is_callable _ = false

-- A term without variables (ISO 3.82).
abbrev pub is_ground : Tree → Bool
is_ground t = elim (variables t) [ [] ↦ true | x ∷ xs ↦ false ]

-- Parts

-- The arguments of a compound term, or no terms.
abbrev pub arguments : Tree → Trees
arguments (comp f t ts) = more t ts
arguments _ = none

-- The term with this name and these arguments: an atom where there are none.
abbrev pub named_term : Chars → Trees → Tree
named_term f none = atom f
named_term f (more t ts) = comp f t ts

-- The goal with further arguments after its own (ISO Cor.2 8.15.4.1, call/2 to call/8).
abbrev pub extended : Tree → Trees → Tree
extended (atom a) ts = named_term a ts
extended (comp f u us) ts = comp f u (join us ts)
extended t ts = t

-- Lists (ISO 6.3.5)

-- The list with these elements, as a term.
abbrev pub list_term : List Tree → Tree
list_term [] = atom (codes "[]")
list_term (t ∷ ts) = comp (codes ".") t (more (list_term ts) none)

-- Whether the term is a list or a partial list: a variable, the empty list, or an element with such a term after it.
abbrev mutual
  pub is_list_or_partial : Tree → Bool
  is_list_or_partial (var x) = true
  is_list_or_partial (int i) = false
  is_list_or_partial (atom a) = bytes_eq a (codes "[]")
  is_list_or_partial (comp f t ts) = bytes_eq f (codes ".") && is_tail ts

  -- Whether the arguments after the first one are such a term alone.
  pub is_tail : Trees → Bool
  is_tail none = false
  is_tail (more t ts) = is_list_or_partial t && (count ts == 0)

-- Copies and their cells

-- How many variables a term has.
abbrev pub variable_count : Tree → ℕ
variable_count t = length (variables t)

-- The term with each variable's number raised: a copy of a clause, whose variables are numbered from 0, with new
-- variables from the number `n` on (ISO 7.7.10, step b).
abbrev pub raised_by : ℕ → Tree → Tree
raised_by n t = rename_by (λ x. n + x) t

-- The cells of a clause: those of its head and its body, and one for each of its variables.
abbrev pub clause_cells : Clause → ℕ
clause_cells c = cells_all (more c.head (more c.body none))
