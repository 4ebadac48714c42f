-- The table of operators (ISO 6.3.4, 8.14.3 op/3, 8.14.4 current_op/3): a finite map from a name and a place to a
-- priority and a specifier.
use Rattle.std.specs.Prelude.{◌≡◌, ℕ, zero, suc, ◌&&◌, ◌==◌, List, [], ◌∷◌, ◌++◌, Bool, false, Option, Some, None, IfSome, IsSome, ◌<◌, ◌≤◌, refl, bytes_eq, if◌then◌else◌, codes, nat_lt, map}
use Rattle.std.specs.List.{list_all, list_any}
use Rattle.std.specs.Ordering.{nat_cmp, ordering_then}
use Rattle.std.specs.declared.cmp.Ordering.{Ordering}
use Rattle.std.specs.FinMap as finite
use Rattle.std.specs.FinMap.{FinMap}
use Rattle.std.specs.Coded.{Coded, code_by, coded×, coded_list, coded_ℕ}
use Rattle.pl_term.specs.Tree.{Chars}
use Rattle.pl_term.specs.Order.{text_order}
use Rattle.pl_model.specs.Operators.{Specifier, xfx, xfy, yfx, fx, fy, xf, yf}
use Rattle.pl_model.specs.declared.operators.Kind.{Kind}
use Rattle.pl_model.specs.declared.operators.Kind.TheVariants.{Xfx, Xfy, Yfx, Fy, Fx, Xf, Yf}
use Rattle.pl_model.specs.declared.operators.Place.{Place}
use Rattle.pl_model.specs.declared.operators.Place.TheVariants.{Prefix, Infix, Postfix}

-- The specifier says where the operator stands: before its argument, between two, or after it (ISO 6.3.4, table 4).
abbrev pub place_of : Kind → Place
place_of Xfx = Infix
place_of Xfy = Infix
place_of Yfx = Infix
place_of Fy = Prefix
place_of Fx = Prefix
place_of Xf = Postfix
place_of Yf = Postfix

-- Prefix operators are listed before infix operators, and these before postfix operators.
abbrev pub place_rank : Place → ℕ
place_rank Prefix = 0
place_rank Infix = 1
place_rank Postfix = 2

-- What the table is asked for: a name at a place.
abbrev pub Key : Type 0
Key = Chars × Place

-- The order of the table: names in the standard order of atoms, then the places.
abbrev pub key_order : Key → Key → Ordering
key_order k l = ordering_then (text_order k.0 l.0) (nat_cmp (place_rank k.1) (place_rank l.1))

-- A priority, from 1 to 1200, and a specifier.
abbrev pub Entry : Type 0
Entry = ℕ × Kind

abbrev pub OperatorTable : Type 0
OperatorTable = FinMap key_order Entry

-- The operator of a name at a place, where the table has one.
abbrev pub operator_at : OperatorTable → Chars → Place → Option Entry
operator_at t f p = finite.get t (f, p)

-- The operators in the order of the table, as current_op/3 lists them.
abbrev pub operators : OperatorTable → List (Key × Entry)
operators t = finite.entries t

-- ISO 6.3.4.2: the highest priority is 1200.
abbrev pub highest_priority : ℕ
highest_priority = 1200

-- Names that cannot be made operators: `[]` and `{}` (ISO 8.14.3.3, Cor. 2:2012), `|`, which separates the tail of a
-- list, at every priority, and `.`, which ends clauses.
abbrev pub reserved_names : List Chars
reserved_names = codes "." ∷ codes "|" ∷ codes "[]" ∷ codes "{}" ∷ []

abbrev pub is_reserved : Chars → Bool
is_reserved f = list_any (bytes_eq f) reserved_names

-- ISO 6.3.4.3: there is no infix and postfix operator of the same name. So the name stands at the one place already
-- where it is to be put at the other.
abbrev pub stands_beside : OperatorTable → Chars → Place → Bool
stands_beside t f Prefix = false
stands_beside t f Infix = finite.contains_key t (f, Postfix)
stands_beside t f Postfix = finite.contains_key t (f, Infix)

-- Why a change of the table is refused.
pub data Refusal : Type 0 where
  -- the priority is above the highest
  priority : Refusal
  -- there is no such specifier
  specifier : Refusal
  -- the comma cannot be modified
  comma : Refusal
  -- the name is reserved
  reserved : Refusal
  -- an infix operator beside a postfix operator
  infix_postfix : Refusal

-- Whether op/3 with a priority, a specifier and a name is refused, and why: the first cause in this order
-- (ISO 8.14.3.3). Priority 0 makes no operator, so it is beside none.
abbrev pub refusal : OperatorTable → ℕ → Option Kind → Chars → Option Refusal
refusal t p None f = if nat_lt highest_priority p then Some priority else Some specifier
refusal t p (Some k) f =
    if nat_lt highest_priority p then Some priority
    else if bytes_eq f (codes ",") then Some comma
    else if is_reserved f then Some reserved
    else if nat_lt 0 p && stands_beside t f (place_of k) then Some infix_postfix
    else None

-- What op/3 makes of the table where it is not refused (ISO 8.14.3.1): priority 0 takes the operator of this name and
-- place away; another one makes it, in the place of the one that was there.
abbrev pub changed : OperatorTable → ℕ → Kind → Chars → OperatorTable
changed t p k f =
    if p == 0 then finite.remove t (f, place_of k) else finite.insert t (f, place_of k) (p, k)

-- A row of the table of operators: names with one priority and one specifier.
abbrev pub row : ℕ → Kind → List Chars → List (Key × Entry)
row p k fs = map (λ (f : Chars). ((f, place_of k), (p, k))) fs

-- The operators at the start: those of ISO 6.3.4.4, table 7, `div` of Cor. 2:2012, and at 1150 those of SWI-Prolog.
abbrev pub opening_rows : List (Key × Entry)
opening_rows =
    row 1200 Xfx (codes ":-" ∷ codes "-->" ∷ [])
    ++ row 1200 Fx (codes ":-" ∷ codes "?-" ∷ [])
    ++ row 1150 Fx (codes "dynamic" ∷ codes "discontiguous" ∷ codes "initialization" ∷ codes "multifile" ∷ codes "thread_local" ∷ [])
    ++ row 1100 Xfy (codes ";" ∷ [])
    ++ row 1050 Xfy (codes "->" ∷ [])
    ++ row 1000 Xfy (codes "," ∷ [])
    ++ row 900 Fy (codes "\\+" ∷ [])
    ++ row 700 Xfx (codes "=" ∷ codes "\\=" ∷ codes "==" ∷ codes "\\==" ∷ codes "@<" ∷ codes "@=<" ∷ codes "@>" ∷ codes "@>=" ∷ [])
    ++ row 700 Xfx (codes "=.." ∷ codes "is" ∷ codes "=:=" ∷ codes "=\\=" ∷ codes "<" ∷ codes "=<" ∷ codes ">" ∷ codes ">=" ∷ [])
    ++ row 500 Yfx (codes "+" ∷ codes "-" ∷ codes "/\\" ∷ codes "\\/" ∷ [])
    ++ row 400 Yfx (codes "*" ∷ codes "/" ∷ codes "//" ∷ codes "rem" ∷ codes "mod" ∷ codes "div" ∷ codes "<<" ∷ codes ">>" ∷ [])
    ++ row 200 Xfx (codes "**" ∷ [])
    ++ row 200 Xfy (codes "^" ∷ [])
    ++ row 200 Fy (codes "-" ∷ codes "\\" ∷ [])

abbrev pub opening_table : OperatorTable
opening_table = finite.from_entries opening_rows

-- The specifier as entries of the history have it.
abbrev pub specifier_of : Kind → Specifier
specifier_of Xfx = xfx
specifier_of Xfy = xfy
specifier_of Yfx = yfx
specifier_of Fy = fy
specifier_of Fx = fx
specifier_of Xf = xf
specifier_of Yf = yf

-- Each operator's specifier is one of its place.
abbrev pub is_placed : OperatorTable → Bool
is_placed t = list_all (λ (e : Key × Entry). place_rank (place_of e.1.1) == place_rank e.0.1) (operators t)

-- What each table keeps (ISO 6.3.4.2, 6.3.4.3): an operator's specifier is one of its place, its priority is from 1 to
-- 1200, and no name is both an infix and a postfix operator.
pub record IsSound (t : OperatorTable) : Type 0 where
  pub placed : (f : Chars) (p : Place) → IfSome (operator_at t f p) (λ e. place_of e.1 ≡ p)
  pub bounded : (f : Chars) (p : Place) → IfSome (operator_at t f p) (λ e. (0 < e.0) × (e.0 ≤ highest_priority))
  pub apart : (f : Chars) → IsSome (operator_at t f Infix) → operator_at t f Postfix ≡ None

-- Places and specifiers by numbers, by which a table is stored.
abbrev pub place_ranked : ℕ → Place
place_ranked zero = Prefix
place_ranked (suc zero) = Infix
place_ranked (suc (suc n)) = Postfix

pub place_ranked-rank : (p : Place) → place_ranked (place_rank p) ≡ p
place_ranked-rank Prefix = refl
place_ranked-rank Infix = refl
place_ranked-rank Postfix = refl

abbrev pub kind_number : Kind → ℕ
kind_number Xfx = 0
kind_number Xfy = 1
kind_number Yfx = 2
kind_number Fy = 3
kind_number Fx = 4
kind_number Xf = 5
kind_number Yf = 6

abbrev pub numbered_kind : ℕ → Kind
numbered_kind zero = Xfx
numbered_kind (suc zero) = Xfy
numbered_kind (suc (suc zero)) = Yfx
numbered_kind (suc (suc (suc zero))) = Fy
numbered_kind (suc (suc (suc (suc zero)))) = Fx
numbered_kind (suc (suc (suc (suc (suc zero))))) = Xf
numbered_kind (suc (suc (suc (suc (suc (suc n)))))) = Yf

pub numbered_kind-number : (k : Kind) → numbered_kind (kind_number k) ≡ k
numbered_kind-number Xfx = refl
numbered_kind-number Xfy = refl
numbered_kind-number Yfx = refl
numbered_kind-number Fy = refl
numbered_kind-number Fx = refl
numbered_kind-number Xf = refl
numbered_kind-number Yf = refl

abbrev pub table_code : Coded OperatorTable
table_code =
    finite.code
    (coded× (coded_list coded_ℕ) (code_by ℕ coded_ℕ place_rank place_ranked place_ranked-rank))
    (coded× coded_ℕ (code_by ℕ coded_ℕ kind_number numbered_kind numbered_kind-number))
