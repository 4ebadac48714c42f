-- Rows of predicates that make no terms.
use Rattle.std.specs.Prelude.{◌≡◌, ◌<◌, ◌^◌, ℕ, zero, Option, Some, None, true}
use Rattle.pl_term.specs.Tree.{Trees, Chars}
use Rattle.pl_model.specs.History.{Proc}
use Rattle.pl_model.specs.BuiltinRows as rows
use Rattle.atom_api.specs.Names.{Names, FixedStand}
use Rattle.term_store.specs.Contents.{Contents}
use Rattle.builtin_rows.specs.Given.{given}
use Rattle.builtin_rows.specs.declared.row.Row.{Row}
use Rattle.builtin_rows.specs.declared.row.Row.TheVariants.{CellsFull}
use Rattle.builtin_rows.specs.Rows.{IsRow}
use Rattle.std.specs.Str.{all_scalars}

-- The row stands for what the definition's row gives, whichever predicate it is of, and whatever the next number of a
-- variable is.
abbrev pub Stands : Contents → Trees → rows.Row → Names → Contents → Row → Type 0
Stands s ts row m t r = (p : Proc) (next : ℕ) → next < 2 ^ 64 → IsRow s next ts (given p ts next s.used s.budget row) m t r

-- More cells are used than may be.
pub record IsFull (s : Contents) (r : Row) : Type 0 where
  pub row : r ≡ CellsFull s.used zero
  pub over : s.budget < s.used

-- The definition has a row, and the row of places stands for what it gives.
abbrev pub Answers : Contents → Trees → Option rows.Row → Names → Contents → Row → Type 0
Answers s ts None m t r = ⊥
Answers s ts (Some row) m t r = Stands s ts row m t r

-- The fixed atoms have their texts, different atoms have different ones, and these are texts.
pub record AreNames (m : Names) : Type 0 where
  pub fixed : FixedStand m
  pub unlike : (a b : ℕ) (t : Chars) → m a ≡ Some t → m b ≡ Some t → a ≡ b
  pub texts : (a : ℕ) (t : Chars) → m a ≡ Some t → all_scalars t ≡ true
