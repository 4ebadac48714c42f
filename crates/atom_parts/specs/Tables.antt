-- Answers that are lines of tables.
use Rattle.std.specs.Prelude.{◌≡◌, ◌≤◌, ℕ, List, [], ◌∷◌, map, take, drop, Option, Result, Ok, Err}
use Rattle.std.specs.List.{All}
use Rattle.pl_term.specs.Tree.{Chars}
use Rattle.pl_term.specs.Texts.{size}
use Rattle.atom_words.specs.declared.view.Refusal.{Refusal}
use Rattle.atom_api.specs.Names.{Names}
use Rattle.term_store.specs.declared.words.Place.{Place}
use Rattle.term_store.specs.Contents.{Contents, Holds}
use Rattle.world_builtins.specs.Naming.{IsHeldAt}
use Rattle.world_builtins.specs.Spelling.{reads}
use Rattle.builtin_rows.specs.Rows.{row_refusals}
use Rattle.builtin_rows.specs.declared.row.Row.{Row}
use Rattle.builtin_rows.specs.declared.row.Row.TheVariants.{Line, NeedsAtoms, Retry, Worn}
use Rattle.atom_parts.specs.declared.columns.Column.{Column}
use Rattle.atom_parts.specs.declared.columns.Value.{Value}
use Rattle.atom_parts.specs.declared.columns.Value.TheVariants.{Number, Part}
use Rattle.atom_parts.specs.declared.columns.Wanted.TheVariants.{Is}
use Rattle.atom_parts.specs.declared.tables.Placed.{Placed}
use Rattle.atom_parts.specs.declared.tables.Placed.TheVariants as placed
use Rattle.atom_parts.specs.declared.tables.AllPlaced.{AllPlaced}
use Rattle.atom_parts.specs.declared.tables.AllPlaced.TheVariants as all
use Rattle.atom_parts.specs.Columns.{value_tree, wanted_tree}
use Rattle.builtin_atom.specs.Making.{IsAgain}

-- What stands in a column is a small number, or a part that may be the text of an atom.
abbrev pub IsShortValue : Chars → Value → Type 0
IsShortValue text (Number n) = n ≤ 248
IsShortValue text (Part at k) = size (take k (drop at text)) ≤ 248

abbrev pub IsShort : Chars → Column → Type 0
IsShort text c = IsShortValue text c.value

-- The argument at a place is what the column wants, and where that is a value, it stands there.
pub record IsGiven (m : Names) (s : Contents) (text : Chars) (c : Column) (p : Place) : Type 0 where
  pub inside : Holds s p
  pub held : IsHeldAt m s p
  pub wanted : reads m s p ≡ wanted_tree text c.wanted
  pub there : (v : Value) → c.wanted ≡ Is v → value_tree text v ≡ value_tree text c.value

-- The value of the column stands at a place.
pub record IsAt (n : Names) (s : Contents) (text : Chars) (c : Column) (p : Place) : Type 0 where
  pub inside : Holds s p
  pub held : IsHeldAt n s p
  pub value : reads n s p ≡ value_tree text c.value

abbrev pub IsPlaced : Names → Names → Chars → Column → Place → Placed → Type 0
IsPlaced m n text c p (placed.At q) = (s : Contents) → IsGiven m s text c p → IsAt n s text c q
IsPlaced m n text c p (placed.Refused r) = IsAgain r

-- The same for all columns.
abbrev pub AreGiven : Names → Contents → Chars → List Column → List Place → Type 0
AreGiven m s text [] ps = Unit {0}
AreGiven m s text (c ∷ cs) [] = ⊥
AreGiven m s text (c ∷ cs) (p ∷ ps) = IsGiven m s text c p × AreGiven m s text cs ps

pub record AreAt (n : Names) (s : Contents) (text : Chars) (cs : List Column) (ps : List Place) : Type 0 where
  pub inside : All (Holds s) ps
  pub held : All (IsHeldAt n s) ps
  pub values : map (reads n s) ps ≡ map (λ (c : Column). value_tree text c.value) cs

abbrev pub ArePlaced : Names → Names → Chars → List Column → List Place → AllPlaced → Type 0
ArePlaced m n text cs ps (all.At qs) = (s : Contents) → AreGiven m s text cs ps → AreAt n s text cs qs.items
ArePlaced m n text cs ps (all.Refused r) = IsAgain r

-- The row is the line with these columns, or the predicate is to be called again.
abbrev pub IsLined : Names → Names → Chars → List Column → List Place → Option ℕ → Row → Type 0
IsLined m n text cs ps following (Line qs next) = (next ≡ following) × ((s : Contents) → AreGiven m s text cs ps → AreAt n s text cs qs.items)
IsLined m n text cs ps following (NeedsAtoms p) = Unit {0}
IsLined m n text cs ps following (Retry c) = Unit {0}
IsLined m n text cs ps following (Worn w) = Unit {0}
IsLined m n text cs ps following r = ⊥

-- The refusals of atoms that they hand on.
abbrev pub refusals_at : Placed → List Refusal
refusals_at (placed.At p) = []
refusals_at (placed.Refused r) = row_refusals r

abbrev pub column_refusals : {E : Type 0} → Result Placed E → List Refusal
column_refusals (Ok p) = refusals_at p
column_refusals (Err e) = []

abbrev pub refusals_among : AllPlaced → List Refusal
refusals_among (all.At ps) = []
refusals_among (all.Refused r) = row_refusals r

abbrev pub columns_refusals : {E : Type 0} → Result AllPlaced E → List Refusal
columns_refusals (Ok p) = refusals_among p
columns_refusals (Err e) = []
