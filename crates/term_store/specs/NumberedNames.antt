-- Terms whose names are numbers of atoms, read as terms whose names are texts.
use Rattle.std.specs.Prelude.{ℕ, zero, Bool, false, ◌==◌, List, [], ◌∷◌, ◌++◌, ◌-◌, if◌then◌else◌, bytes_eq, codes}
use Rattle.pl_term.specs.Tree.{Chars, Tree, Trees, var, int, atom, comp, none, more}
use Rattle.pl_term.specs.Cells.{cells}
use Rattle.pl_model.specs.FirstArguments.{unify_apart}
use Rattle.term_store.specs.Heap.{atom_name}

-- The number that stands as a name.
abbrev pub number_of : Chars → ℕ
number_of [] = zero
number_of (a ∷ as₁) = a

-- The term in which each name is spelled as the function says.
abbrev mutual
  pub spelled : (Chars → Chars) → Tree → Tree
  spelled g (var x) = var x
  spelled g (int i) = int i
  spelled g (atom a) = atom (g a)
  spelled g (comp f t ts) = comp (g f) (spelled g t) (spelled_all g ts)

  pub spelled_all : (Chars → Chars) → Trees → Trees
  spelled_all g none = none
  spelled_all g (more t ts) = more (spelled g t) (spelled_all g ts)

-- The number of the fixed atom `:-`.
abbrev pub neck : ℕ
neck = 12

-- The text of an atom. The neck is the atom `:-` whatever the map says, and an atom to which the map gives that text has
-- the text that the map gives to the neck. A map that gives the neck its text is not changed.
abbrev pub with_neck : (ℕ → Chars) → ℕ → Chars
with_neck text a = if a == neck then codes ":-" else (if bytes_eq (text a) (codes ":-") then text neck else text a)

abbrev pub text_by : (ℕ → Chars) → Chars → Chars
text_by text f = with_neck text (number_of f)

-- The term for which a term over atoms stands.
abbrev pub term_by : (ℕ → Chars) → Tree → Tree
term_by text t = spelled (text_by text) t

-- The term in which each name is that of an atom.
abbrev pub by_number : Tree → Tree
by_number t = spelled (λ f. atom_name (number_of f)) t

-- Whether two terms over atoms unify where the variables of the one are others than those of the other.
abbrev pub unify_by_number : Tree → Tree → Bool
unify_by_number t u = unify_apart (by_number t) (by_number u)

-- Whether the term is a rule.
abbrev pub is_rule_term : Tree → Bool
is_rule_term (comp f t (more u none)) = number_of f == neck
is_rule_term _ = false

-- The cells of a clause that is kept as one term: those of its head and its body.
abbrev pub clause_size : Tree → ℕ
clause_size t = if is_rule_term t then cells t - 3 else cells t

-- The atoms that a term names.
abbrev mutual
  pub atoms_in : Tree → List ℕ
  atoms_in (var x) = []
  atoms_in (int i) = []
  atoms_in (atom a) = number_of a ∷ []
  atoms_in (comp f t ts) = number_of f ∷ (atoms_in t ++ atoms_in_all ts)

  pub atoms_in_all : Trees → List ℕ
  atoms_in_all none = []
  atoms_in_all (more t ts) = atoms_in t ++ atoms_in_all ts

-- With the neck, of which it depends whether a term is a rule.
abbrev pub names_of : Tree → List ℕ
names_of t = neck ∷ atoms_in t
