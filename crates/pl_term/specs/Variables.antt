-- The variables of terms, and what is made of a term by putting something else for its variables.
use Rattle.std.specs.Prelude.{ℕ, Bool, false, not, ◌||◌, ◌+◌, ◌==◌, List, [], ◌∷◌, ◌++◌, filter, suc, zero, if◌then◌else◌}
use Rattle.pl_term.specs.Tree.{Tree, Trees, var, int, atom, comp, none, more}

-- Whether the number is in the list.
abbrev pub is_in : ℕ → List ℕ → Bool
is_in x [] = false
is_in x (y ∷ ys) = x == y || is_in x ys

-- How many members stand before the number, or all of them where it is not in the list.
abbrev pub place : ℕ → List ℕ → ℕ
place x [] = zero
place x (y ∷ ys) = if x == y then zero else suc (place x ys)

-- The list without the number.
abbrev pub without : ℕ → List ℕ → List ℕ
without x ys = filter (λ y. not (x == y)) ys

-- Each number of the list once, where it first stands.
abbrev pub distinct : List ℕ → List ℕ
distinct [] = []
distinct (x ∷ xs) = x ∷ without x (distinct xs)

-- The variable that stands at each place where one does, from left to right.
abbrev mutual
  pub occurrences : Tree → List ℕ
  occurrences (var x) = x ∷ []
  occurrences (int i) = []
  occurrences (atom a) = []
  occurrences (comp f t ts) = occurrences t ++ occurrences_all ts

  pub occurrences_all : Trees → List ℕ
  occurrences_all none = []
  occurrences_all (more t ts) = occurrences t ++ occurrences_all ts

-- The variables of a term (ISO 7.1.1.1), each once, in the order in which they first occur (ISO Cor.2 8.5.5).
abbrev pub variables : Tree → List ℕ
variables t = distinct (occurrences t)

abbrev pub variables_all : Trees → List ℕ
variables_all ts = distinct (occurrences_all ts)

-- Whether the variable occurs in the term.
abbrev pub has : ℕ → Tree → Bool
has x t = is_in x (occurrences t)

abbrev pub has_all : ℕ → Trees → Bool
has_all x ts = is_in x (occurrences_all ts)

-- The term in which each variable has the number that the function gives.
abbrev mutual
  pub rename_by : (ℕ → ℕ) → Tree → Tree
  rename_by f (var x) = var (f x)
  rename_by f (int i) = int i
  rename_by f (atom a) = atom a
  rename_by f (comp g t ts) = comp g (rename_by f t) (rename_all_by f ts)

  pub rename_all_by : (ℕ → ℕ) → Trees → Trees
  rename_all_by f none = none
  rename_all_by f (more t ts) = more (rename_by f t) (rename_all_by f ts)

-- The renamed copy of a term (ISO 7.1.6.2) whose variables are numbered from `from` on, in the order in which
-- they first occur.
abbrev pub rename : ℕ → Tree → Tree
rename from t = rename_by (λ x. from + place x (variables t)) t

abbrev pub rename_all : ℕ → Trees → Trees
rename_all from ts = rename_all_by (λ x. from + place x (variables_all ts)) ts

-- The term in which another stands for the variable, wherever it occurs.
abbrev mutual
  pub replace : ℕ → Tree → Tree → Tree
  replace x u (var y) = if x == y then u else var y
  replace x u (int i) = int i
  replace x u (atom a) = atom a
  replace x u (comp f t ts) = comp f (replace x u t) (replace_all x u ts)

  pub replace_all : ℕ → Tree → Trees → Trees
  replace_all x u none = none
  replace_all x u (more t ts) = more (replace x u t) (replace_all x u ts)
