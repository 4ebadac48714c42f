-- The value of a term as an arithmetic expression (ISO 7.9, 9.1, 9.3, 9.4). The operations are those over all
-- integers; where the result is no integer of 64 bits, the operation has no value.
use Rattle.std.specs.Prelude.{ℕ, ℤ, pos, negsuc, suc, ◌+◌, ◌/◌, ◌^◌, ◌+ℤ◌, ◌-ℤ◌, ◌*ℤ◌, neg_ℤ, unsigned_abs, int_div, int_rem, nat_lt, bytes_eq, codes, List, [], ◌∷◌, length, Bool, Option, Some, None, Result, Ok, Err, if◌then◌else◌}
use Rattle.std.specs.Ordering.{int_eq}
use Rattle.std.specs.Int.{w64, div_ceil, int_min, int_max, int_signum, int_pow, int_bit_and, int_bit_or, int_bit_not}
use Rattle.pl_term.specs.declared.node.Node.TheVariants.{Atom, Comp}
use Rattle.pl_term.specs.Tree.{Chars, Tree, Trees, var, int, atom, comp, none, more}
use Rattle.pl_model.specs.declared.evaluables.Op1.{Op1}
use Rattle.pl_model.specs.declared.evaluables.Op1.TheVariants.{Negate, Plus, Absolute, Sign, Complement}
use Rattle.pl_model.specs.declared.evaluables.Op2.{Op2}
use Rattle.pl_model.specs.declared.evaluables.Op2.TheVariants.{Add, Subtract, Multiply, Minimum, Maximum, Quotient, Rem, Div, Mod, BitAnd, BitOr, ShiftLeft, ShiftRight, Power, IntegerPower}
use Rattle.pl_model.specs.declared.evaluables.OpFault.{OpFault}
use Rattle.pl_model.specs.declared.evaluables.OpFault.TheVariants.{ZeroDivisor, IntOverflow, Undefined, NeedsFloat}
use Rattle.pl_model.specs.declared.evaluables.EvalFault.{EvalFault}
use Rattle.pl_model.specs.declared.evaluables.EvalFault.TheVariants.{Inst, NotEvaluable, Operation}

-- What an operation gives: an integer, or the reason why there is none.
abbrev pub Value : Type 0
Value = Result ℤ OpFault

-- The integers of the system (ISO 7.1.2) are those from -2^63 to 2^63 - 1. `negsuc n` is the number -(n + 1).
abbrev pub is_in_range : ℤ → Bool
is_in_range (pos n) = nat_lt n (2 ^ 63)
is_in_range (negsuc n) = nat_lt n (2 ^ 63)

-- A result that is no integer of the system is an overflow (ISO 7.12.2 g, 9.1.4.1).
abbrev pub in_range : ℤ → Value
in_range z = if is_in_range z then Ok z else Err IntOverflow

-- Division (ISO 9.1.3.1; div and mod of Cor.2). `int_div` is the quotient rounded toward zero, and `int_rem` what it
-- leaves, with the dividend's sign.

-- The quotient rounded downward: the greatest integer that is not above it.
abbrev pub floor_div : ℤ → ℤ → ℤ
floor_div (pos a) (pos b) = pos (a / b)
floor_div (pos a) (negsuc b) = neg_ℤ (pos (div_ceil a (suc b)))
floor_div (negsuc a) (pos b) = negsuc (a / b)
floor_div (negsuc a) (negsuc b) = pos (suc a / suc b)

-- What the quotient rounded downward leaves, with the divisor's sign.
abbrev pub modulo : ℤ → ℤ → ℤ
modulo x y = x -ℤ (floor_div x y *ℤ y)

-- A division by zero has no value. That is so before it is asked whether the result is in range.
abbrev pub divided : ℤ → ℤ → Value
divided y z = if int_eq y (pos 0) then Err ZeroDivisor else in_range z

-- A shift by a number of places from 0 to 63; by any other it is undefined (ISO 9.4.1 and 9.4.2 leave it open).
abbrev pub shifted : (ℕ → ℤ) → ℤ → Value
shifted result (pos n) = if nat_lt n 64 then in_range (result n) else Err Undefined
shifted result (negsuc n) = Err Undefined

-- A power with a negative exponent (ISO Cor.2 9.3.10): 1 and -1 are the only bases with such a power among the
-- integers, 0 has none at all, and that of any other base would be a float.
abbrev pub negative_power : ℤ → ℕ → Value
negative_power x n =
    if int_eq x (pos 1) then Ok (pos 1) else
    if int_eq x (negsuc 0) then Ok (int_pow x n) else
    if int_eq x (pos 0) then Err Undefined else
    Err (NeedsFloat x)

-- The integer power (ISO Cor.2 9.3.10), also for ** of two integers, where ISO 9.3.1 has a float. Any integer to the
-- power 0 is 1.
abbrev pub powered : ℤ → ℤ → Value
powered x (pos n) = in_range (int_pow x n)
powered x (negsuc n) = negative_power x (suc n)

-- The operations of one argument (ISO 9.1.1, Cor.2 9.1.1, 9.4.5).
abbrev pub applied1 : Op1 → ℤ → Value
applied1 Negate x = in_range (neg_ℤ x)
applied1 Plus x = Ok x
applied1 Absolute x = in_range (pos (unsigned_abs x))
applied1 Sign x = Ok (int_signum x)
applied1 Complement x = Ok (int_bit_not w64 x)

-- The operations of two arguments (ISO 9.1.1, 9.3.1, 9.4; Cor.2 9.1.1, 9.3.8 to 9.3.10). The bitwise ones are on the two's
-- complement code of 64 bits. A shift to the left multiplies by a power of two, one to the right divides by it and
-- rounds downward.
abbrev pub applied2 : Op2 → ℤ → ℤ → Value
applied2 Add x y = in_range (x +ℤ y)
applied2 Subtract x y = in_range (x -ℤ y)
applied2 Multiply x y = in_range (x *ℤ y)
applied2 Minimum x y = Ok (int_min x y)
applied2 Maximum x y = Ok (int_max x y)
applied2 Quotient x y = divided y (int_div x y)
applied2 Rem x y = divided y (int_rem x y)
applied2 Div x y = divided y (floor_div x y)
applied2 Mod x y = divided y (modulo x y)
applied2 BitAnd x y = Ok (int_bit_and w64 x y)
applied2 BitOr x y = Ok (int_bit_or w64 x y)
applied2 ShiftLeft x y = shifted (λ n. x *ℤ pos (2 ^ n)) y
applied2 ShiftRight x y = shifted (λ n. floor_div x (pos (2 ^ n))) y
applied2 Power x y = powered x y
applied2 IntegerPower x y = powered x y

-- The evaluable functors of one and of two arguments, by their names.
abbrev pub names1 : List (Chars × Op1)
names1 =
    (codes "-", Negate) ∷ (codes "+", Plus) ∷ (codes "abs", Absolute) ∷ (codes "sign", Sign)
    ∷ (codes "\\", Complement) ∷ []

abbrev pub names2 : List (Chars × Op2)
names2 =
    (codes "+", Add) ∷ (codes "-", Subtract) ∷ (codes "*", Multiply)
    ∷ (codes "min", Minimum) ∷ (codes "max", Maximum)
    ∷ (codes "//", Quotient) ∷ (codes "rem", Rem) ∷ (codes "div", Div) ∷ (codes "mod", Mod)
    ∷ (codes "/\\", BitAnd) ∷ (codes "\\/", BitOr)
    ∷ (codes "<<", ShiftLeft) ∷ (codes ">>", ShiftRight)
    ∷ (codes "**", Power) ∷ (codes "^", IntegerPower) ∷ []

abbrev pub named : {A : Type 0} → List (Chars × A) → Chars → Option A
named [] name = None
named (n ∷ ns) name = if bytes_eq name n.0 then Some n.1 else named ns name

-- Evaluation of a term (ISO 7.9.2): its functor is looked at first, then its arguments are evaluated from the left,
-- and then the operation is made. The first fault on this way is the term's.

abbrev pub Evaluated : Type 0
Evaluated = Result ℤ EvalFault

-- The value goes on to what follows; a fault stays.
abbrev pub and_then : Evaluated → (ℤ → Evaluated) → Evaluated
and_then (Ok x) next = next x
and_then (Err f) next = Err f

abbrev pub operation : Value → Evaluated
operation (Ok x) = Ok x
operation (Err f) = Err (Operation f)

abbrev pub no_evaluable : Chars → ℕ → Evaluated
no_evaluable name arity = Err (NotEvaluable (Comp name arity))

abbrev pub value1 : Chars → Option Op1 → Evaluated → Evaluated
value1 name None v = no_evaluable name 1
value1 name (Some op) v = and_then v (λ x. operation (applied1 op x))

abbrev pub value2 : Chars → Option Op2 → Evaluated → Evaluated → Evaluated
value2 name None v w = no_evaluable name 2
value2 name (Some op) v w = and_then v (λ x. and_then w (λ y. operation (applied2 op x y)))

-- The value of a compound term from those of its arguments, the first of which stands apart.
abbrev pub compound_value : Chars → Evaluated → List Evaluated → Evaluated
compound_value name v [] = value1 name (named names1 name) v
compound_value name v (w ∷ []) = value2 name (named names2 name) v w
compound_value name v (w ∷ x ∷ ws) = no_evaluable name (3 + length ws)

abbrev mutual
  pub evaluated : Tree → Evaluated
  evaluated (var x) = Err Inst
  evaluated (int i) = Ok i
  evaluated (atom name) = Err (NotEvaluable (Atom name))
  evaluated (comp name t ts) = compound_value name (evaluated t) (evaluated_all ts)

  pub evaluated_all : Trees → List Evaluated
  evaluated_all none = []
  evaluated_all (more t ts) = evaluated t ∷ evaluated_all ts
