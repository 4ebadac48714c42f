-- Lines of tables, column by column.
use Rattle.std.specs.Prelude.{◌≡◌, ◌≢◌, List, [], map, take, drop, Bool, is_some}
use Rattle.std.specs.List.{All, Contains}
use Rattle.pl_term.specs.Tree.{Chars, Tree, Trees, var, atom, trees}
use Rattle.pl_model.specs.AtomBuiltins.{number}
use Rattle.pl_model.specs.Unify.{solve_all}
use Rattle.atom_parts.specs.declared.columns.Column.{Column}
use Rattle.atom_parts.specs.declared.columns.Value.{Value}
use Rattle.atom_parts.specs.declared.columns.Value.TheVariants.{Number, Part}
use Rattle.atom_parts.specs.declared.columns.Wanted.{Wanted}
use Rattle.atom_parts.specs.declared.columns.Wanted.TheVariants.{Any, Is}

-- The term that a value of a text is, and the term that is wanted.
abbrev pub value_tree : Chars → Value → Tree
value_tree cs (Number n) = number n
value_tree cs (Part at k) = atom (take k (drop at cs))

abbrev pub wanted_tree : Chars → Wanted → Tree
wanted_tree cs (Any x) = var x
wanted_tree cs (Is v) = value_tree cs v

abbrev pub values_of : Chars → List Column → Trees
values_of cs columns = trees (map (λ (c : Column). value_tree cs c.value) columns)

abbrev pub wanted_of : Chars → List Column → Trees
wanted_of cs columns = trees (map (λ (c : Column). wanted_tree cs c.wanted) columns)

-- Whether the line unifies with what is wanted.
abbrev pub does_unify : Chars → List Column → Bool
does_unify cs columns = is_some (solve_all [] (wanted_of cs columns) (values_of cs columns))

-- A column has what is wanted: this value, or that of each earlier column with the same variable.
abbrev pub MeetsBy : Chars → List Column → Value → Wanted → Type 0
MeetsBy cs earlier v (Any x) = All (λ (e : Column). e.wanted ≡ Any x → value_tree cs e.value ≡ value_tree cs v) earlier
MeetsBy cs earlier v (Is w) = value_tree cs w ≡ value_tree cs v

abbrev pub Meets : Chars → List Column → Column → Type 0
Meets cs earlier c = MeetsBy cs earlier c.value c.wanted

-- It has something else.
abbrev pub DiffersBy : Chars → List Column → Value → Wanted → Type 0
DiffersBy cs earlier v (Any x) =
    (e : Column) × (Contains earlier e × ((e.wanted ≡ Any x) × (value_tree cs e.value ≢ value_tree cs v)))
DiffersBy cs earlier v (Is w) = value_tree cs w ≢ value_tree cs v

abbrev pub Differs : Chars → List Column → Column → Type 0
Differs cs earlier c = DiffersBy cs earlier c.value c.wanted
