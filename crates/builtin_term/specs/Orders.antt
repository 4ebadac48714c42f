-- Comparisons by what the standard order of two terms is, and signs of orders.
use Rattle.std.specs.Prelude.{ℕ, Bool, true, false, ◌||◌, bytes_eq, if◌then◌else◌}
use Rattle.std.specs.declared.cmp.Ordering.{Ordering}
use Rattle.std.specs.declared.cmp.Ordering.TheVariants.{Less, Equal, Greater}
use Rattle.pl_term.specs.Tree.{Chars, Tree, var, int, atom, comp}
use Rattle.builtin_rows.specs.declared.predicates.Comparison.{Comparison}
use Rattle.builtin_rows.specs.declared.predicates.Comparison.TheVariants as by
use Rattle.atom_api.specs.FixedNames.{equal_name, greater_name, less_name}
use Rattle.term_store.specs.Heap.{atom_name}
use Rattle.builtin_term.specs.declared.orders.Orders.{Orders}
use Rattle.builtin_term.specs.declared.signs.Sign.{Sign}
use Rattle.builtin_term.specs.declared.signs.Sign.TheVariants.{Fits, NoAtom, NoSign}

abbrev pub orders : Bool → Bool → Bool → Orders
orders l e g = record { less = l; equal = e; greater = g }

abbrev pub orders_of : Comparison → Orders
orders_of by.Equal = orders false true false
orders_of by.Different = orders true false true
orders_of by.Less = orders true false false
orders_of by.LessOrEqual = orders true true false
orders_of by.Greater = orders false false true
orders_of by.GreaterOrEqual = orders false true true

abbrev pub admits : Orders → Ordering → Bool
admits w Less = w.less
admits w Equal = w.equal
admits w Greater = w.greater

-- The numbers of the atoms `<`, `=` and `>`.
abbrev pub sign_number : Ordering → ℕ
sign_number Less = less_name
sign_number Equal = equal_name
sign_number Greater = greater_name

abbrev pub is_sign_name : Chars → Bool
is_sign_name f = bytes_eq f (atom_name less_name) || (bytes_eq f (atom_name equal_name) || bytes_eq f (atom_name greater_name))

-- What is wrong with the first argument of compare/3.
abbrev pub sign_at : Tree → Sign
sign_at (var x) = Fits
sign_at (int i) = NoAtom
sign_at (atom f) = if is_sign_name f then Fits else NoSign
sign_at (comp f t ts) = NoAtom
