-- The atoms that a search has in use.
use Rattle.std.specs.Prelude.{◌≡◌, ◌≤◌, ℕ, List, [], ◌∷◌, ◌++◌, Option, Some, None, flat_map}
use Rattle.std.specs.List.{All, Contains}
use Rattle.pl_term.specs.Tree.{Tree}
use Rattle.term_store.specs.Live.{cell_atoms, place_atoms}
use Rattle.term_store.specs.NumberedNames.{atoms_in}
use Rattle.iso_search.specs.declared.choices.Alternative.{Alternative}
use Rattle.iso_search.specs.declared.choices.Alternative.TheVariants.{Clauses, Answers, Told, Branch, Barrier, Catch, Findall}
use Rattle.iso_search.specs.declared.frames.Task.{Task}
use Rattle.iso_search.specs.declared.frames.Task.TheVariants.{Goal, Commit, Refute, Leave, Collect}
use Rattle.iso_search.specs.declared.search.Search.{Search}
use Rattle.iso_search.specs.declared.told.Constant.{Constant}
use Rattle.iso_search.specs.declared.told.Constant.TheVariants.{Int, Atom}
use Rattle.iso_search.specs.declared.told.Line.{Line}
use Rattle.iso_search.specs.declared.told.Line.TheVariants.{Indicator, Flag, Operator}
use Rattle.iso_search.specs.Reading.{View}
use Rattle.iso_search.specs.Searching.{choices_of, node_of}

-- Those that what is to be done names by itself; the terms at its places name others, which are those of the store's cells.
abbrev pub task_atoms : Task → List ℕ
task_atoms (Goal w n) = place_atoms w
task_atoms (Commit n) = []
task_atoms (Refute n) = []
task_atoms (Leave n) = []
task_atoms (Collect w n) = place_atoms w

abbrev pub constant_atoms : Constant → List ℕ
constant_atoms (Int i) = []
constant_atoms (Atom a) = a ∷ []

abbrev pub line_atoms : Line → List ℕ
line_atoms (Indicator name arity) = name ∷ []
line_atoms (Flag flag value) = flag ∷ constant_atoms value
line_atoms (Operator priority specifier name) = specifier ∷ name ∷ []

-- Those that a choice point names: its places by themselves, the lines that it keeps, and what it has collected.
abbrev pub alternative_atoms : Alternative → List ℕ
alternative_atoms (Clauses p w g k) = place_atoms w
alternative_atoms (Answers w line) = place_atoms w
alternative_atoms (Told w lines line) = place_atoms w ++ flat_map line_atoms lines.items
alternative_atoms Branch = []
alternative_atoms Barrier = []
alternative_atoms (Catch c w) = place_atoms c ++ place_atoms w
alternative_atoms (Findall w found) = place_atoms w ++ flat_map (λ c. atoms_in c.term) found.copies.items

abbrev pub search_atoms : Search → List ℕ
search_atoms e =
    cell_atoms e.store
    ++ (flat_map place_atoms e.answer.items
    ++ (flat_map (λ f. task_atoms f.task) e.frames.items ++ flat_map (λ k. alternative_atoms k.alternative) e.choices.items))

-- Two views leave the same clauses of each list, and give these atoms the same texts.
pub record AgreeOn (v w : View) (atoms : List ℕ) : Type 0 where
  pub left : (t : Tree) (g p : ℕ) → v.left t g p ≡ w.left t g p
  pub names : All (λ a. v.names a ≡ w.names a) atoms

-- The search stands for the same under both.
pub record ReadsAlike (v w : View) (e : Search) : Type 0 where
  pub choices : choices_of v e ≡ choices_of w e
  pub nodes : (list : ℕ) → node_of v e list ≡ node_of w e list

-- The generations of choice points that have clauses left.
abbrev pub generations_of : Alternative → List ℕ
generations_of (Clauses p w g k) = g ∷ []
generations_of _ = []

abbrev pub open_generations : Search → List ℕ
open_generations e = flat_map (λ k. generations_of k.alternative) e.choices.items

-- The oldest of some generations.
abbrev pub IsLeast : Option ℕ → List ℕ → Type 0
IsLeast None gs = gs ≡ []
IsLeast (Some g) gs = Contains gs g × All (λ h. g ≤ h) gs
