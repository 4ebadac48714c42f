-- The order of what first arguments are found by: by kind, then by value, or by name and arity.
use Rattle.std.specs.Prelude.{ℕ, ℤ, pos, []}
use Rattle.std.specs.Ordering.{nat_cmp, int_cmp, then_cmp, on}
use Rattle.std.specs.Cmp.{IsTotalOrder, nat_cmp_total, int_cmp_total, then_total, on_total}
use Rattle.std.specs.Cmp.Lexicographic.{nat_list_cmp_total}
use Rattle.std.specs.declared.cmp.Ordering.{Ordering}
use Rattle.pl_term.specs.Tree.{Chars}
use Rattle.pl_term.specs.Order.{text_order}
use Rattle.pl_model.specs.declared.first_argument.FirstArgument.{FirstArgument}
use Rattle.pl_model.specs.declared.first_argument.FirstArgument.TheVariants.{Any, Int, Atom, Compound}

abbrev pub rank : FirstArgument → ℕ
rank Any = 0
rank (Int i) = 1
rank (Atom a) = 2
rank (Compound f k) = 3

-- The parts of a key. A part that it lacks is nought.
abbrev pub value : FirstArgument → ℤ
value Any = pos 0
value (Int i) = i
value (Atom a) = pos 0
value (Compound f k) = pos 0

abbrev pub name : FirstArgument → Chars
name Any = []
name (Int i) = []
name (Atom a) = a
name (Compound f k) = f

abbrev pub arity : FirstArgument → ℕ
arity Any = 0
arity (Int i) = 0
arity (Atom a) = 0
arity (Compound f k) = k

abbrev pub order_of : FirstArgument → FirstArgument → Ordering
order_of =
    then_cmp (on rank nat_cmp) (then_cmp (on value int_cmp) (then_cmp (on name text_order) (on arity nat_cmp)))

pub order_of_total : IsTotalOrder order_of
order_of_total =
    then_total
    (on_total rank nat_cmp_total)
    (then_total
    (on_total value int_cmp_total)
    (then_total (on_total name nat_list_cmp_total) (on_total arity nat_cmp_total)))
