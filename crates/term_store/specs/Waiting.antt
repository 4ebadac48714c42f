-- Pairs of words of one heap that are still to become equal.
use Rattle.std.specs.Prelude.{ℕ, ◌+◌, ◌<◌, ◌≤◌, Bool, true, false, ◌==◌, nat_lt, List, [], ◌∷◌, ◌++◌, length, Option, Some, None, if◌then◌else◌}
use Rattle.std.specs.List.{All}
use Rattle.std.specs.Ordering.{int_eq}
use Rattle.term_store.specs.declared.words.Word.{Word}
use Rattle.term_store.specs.declared.words.Word.TheVariants.{Comp}
use Rattle.term_store.specs.declared.words.Meeting.{Meeting}
use Rattle.term_store.specs.declared.words.Pair.{Pair}
use Rattle.term_store.specs.declared.words.Rest.{Rest}
use Rattle.term_store.specs.declared.older.Older.{Older}
use Rattle.term_store.specs.declared.shorts.Short.{Short}
use Rattle.term_store.specs.declared.shorts.Short.TheVariants.{Free, Slot, Number, Name, Term, Wide}
use Rattle.term_store.specs.declared.unify.ShortPlan.{ShortPlan}
use Rattle.term_store.specs.declared.unify.ShortPlan.TheVariants.{Equal, Differ, Join, Give, Part, Longer}
use Rattle.term_store.specs.Apart.{IsApart}
use Rattle.term_store.specs.Heap.{Heap}
use Rattle.term_store.specs.Meeting.{IsMet, Parts}
use Rattle.term_store.specs.Rests.{IsNext, pairs_of}
use Rattle.term_store.specs.Unifying.{IsPairIn, Goes, Moves}

-- What is left to do for two words as they are kept to become equal, of which neither is a bound variable.
abbrev pub short_plan : Short → Short → ShortPlan
short_plan Free s = Longer
short_plan (Slot i) Free = Longer
short_plan (Slot i) (Slot j) = if i == j then Equal else (if nat_lt i j then Join j i else Join i j)
short_plan (Slot i) (Number n) = Give i (Number n)
short_plan (Slot i) (Name a) = Give i (Name a)
short_plan (Slot i) (Term k) = Longer
short_plan (Slot i) (Wide k) = Longer
short_plan (Number n) Free = Longer
short_plan (Number n) (Slot j) = Give j (Number n)
short_plan (Number n) (Number m) = if int_eq n m then Equal else Differ
short_plan (Number n) (Name a) = Differ
short_plan (Number n) (Term k) = Differ
short_plan (Number n) (Wide k) = Longer
short_plan (Name a) Free = Longer
short_plan (Name a) (Slot j) = Give j (Name a)
short_plan (Name a) (Number n) = Differ
short_plan (Name a) (Name b) = if a == b then Equal else Differ
short_plan (Name a) (Term k) = Differ
short_plan (Name a) (Wide k) = Longer
short_plan (Term k) Free = Longer
short_plan (Term k) (Slot j) = Longer
short_plan (Term k) (Number n) = Differ
short_plan (Term k) (Name a) = Differ
short_plan (Term k) (Term l) = if k == l then Equal else Part k l
short_plan (Term k) (Wide j) = Longer
short_plan (Wide k) s = Longer

-- The pairs of the arguments on the stack and in hand.
abbrev pub waiting : Heap → List Rest → Rest → List Pair
waiting h rs r = pairs_of h.args h.args (rs ++ r ∷ [])

-- Whether some arguments are in hand once the last ones of the stack were taken where none were.
abbrev pub Refilled : Bool → List Rest → Rest → List Rest → Rest → Type 0
Refilled true rs r ss n = IsNext (Some n) rs r ss
Refilled false rs r ss n = IsNext None rs r ss

-- They are arguments of the heap on either side.
pub record IsRestIn (args : List Word) (r : Rest) : Type 0 where
  pub left : r.left + r.count ≤ length args
  pub right : r.right + r.count ≤ length args

-- Those on the stack, which are some each, and those in hand.
pub record AreWaiting (h : Heap) (rs : List Rest) (r : Rest) : Type 0 where
  pub some : All (λ s. 0 < s.count) rs
  pub stack : All (IsRestIn h.args) rs
  pub hand : IsRestIn h.args r
  pub pairs : All (IsPairIn h) (waiting h rs r)

-- A pair was made equal, or its arguments are still to be, which were taken in hand then, and what was to come next was put on the
-- stack.
pub record Met (c : Heap) (rs : List Rest) (next : Rest) (p : Pair) (d : Heap) (ss : List Rest) (r : Rest) (ms : List Meeting) (o : Older) : Type 0 where
  pub apart : IsApart d o
  pub waits : AreWaiting d ss r
  pub goes : Goes c (waiting c rs next) p.left p.right d (waiting d ss r)
  pub met : All (IsMet d (waiting d ss r)) ms

abbrev pub Moved : Option Rest → Heap → List Rest → Rest → Pair → Heap → List Rest → List Meeting → Older → Type 0
Moved (Some r) c rs next p d ss ms o = Met c rs next p d ss r ms o
Moved None c rs next p d ss ms o = Moves false c (waiting c rs next) p.left p.right d []

-- The same of two compound terms.
pub record OpenedPair (h : Heap) (k l : ℕ) (rs : List Rest) (next : Rest) (ss : List Rest) (r : Rest) (ms : List Meeting) : Type 0 where
  pub waits : AreWaiting h ss r
  pub goes : Goes h (waiting h rs next) (Comp k) (Comp l) h (waiting h ss r)
  pub met : All (IsMet h (waiting h ss r)) ms

abbrev pub Opened : Option Rest → Heap → ℕ → ℕ → List Rest → Rest → List Rest → List Meeting → Type 0
Opened (Some r) h k l rs next ss ms = OpenedPair h k l rs next ss r ms
Opened None h k l rs next ss ms = Moves false h (waiting h rs next) (Comp k) (Comp l) h []

-- The arguments of two compound terms were taken in hand.
pub record PartedPair (h : Heap) (k l : ℕ) (rs : List Rest) (next : Rest) (ss : List Rest) (r : Rest) : Type 0 where
  pub kept : AreWaiting h rs next → AreWaiting h ss r
  pub goes : Goes h (waiting h rs next) (Comp k) (Comp l) h (waiting h ss r)
  pub parts : Parts h k l (waiting h rs next) (waiting h ss r)

abbrev pub Parted : Option Rest → Heap → ℕ → ℕ → List Rest → Rest → List Rest → Type 0
Parted (Some r) h k l rs next ss = PartedPair h k l rs next ss r
Parted None h k l rs next ss = Moves false h (waiting h rs next) (Comp k) (Comp l) h []
