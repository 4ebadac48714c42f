-- The history of the updates of the shared state, in the order in which they were made: each entry says which
-- engine made which update. All names in it are texts and numbers.
use Rattle.std.specs.Prelude.{◌≡◌, ℕ, List, [], ◌∷◌, Option, Some, None, Bool, true, false, if◌then◌else◌, ◌==◌, ◌||◌, bytes_eq, codes}
use Rattle.pl_term.specs.Tree.{Chars, Tree, comp, atom, more, none}
use Rattle.pl_model.specs.Operators.{Operator}
use Rattle.pl_model.specs.declared.ends.How.{How}

-- A predicate by its name and arity (ISO 7.1.6.6, predicate indicator).
pub record Proc : Type 0 where
  pub name : Chars
  pub arity : ℕ

abbrev pub proc : Chars → ℕ → Proc
proc f n = record { name = f; arity = n }

-- A clause (ISO 3.33): its head, its body converted to a goal (ISO 7.6.2), and the number of its variables. They
-- are numbered from 0 in order of first occurrence, the head's first.
pub record Clause : Type 0 where
  pub head : Tree
  pub body : Tree
  pub variables : ℕ

-- The head and the body of a clause-term: a term that is no rule is a fact, whose body is true.
abbrev pub head_part : Tree → Tree
head_part (comp f h (more b none)) = if bytes_eq f (codes ":-") then h else comp f h (more b none)
head_part t = t

abbrev pub body_part : Tree → Tree
body_part (comp f h (more b none)) = if bytes_eq f (codes ":-") then b else atom (codes "true")
body_part t = atom (codes "true")

-- What added a clause: the consulting of a file, or a goal.
pub data Origin : Type 0 where
  consult : Origin
  assert : Origin

-- An update of the shared state. The place of an entry is the number of the entries before it.
pub data Kind : Type 0 where
  -- a clause added as the first, as the last one of its procedure (ISO 8.9.1, 8.9.2)
  add_first : Proc → Clause → Origin → Kind
  add_last : Proc → Clause → Origin → Kind
  -- the clause that was added at this place is erased (ISO 8.9.3)
  erase : ℕ → Kind
  -- all clauses of the procedure are erased (ISO 8.9.4)
  abolish : Proc → Kind
  -- the procedures are made dynamic (ISO 7.4.2.1)
  set_dynamic : List Proc → Kind
  -- the flag gets the value (ISO 8.17.1)
  set_flag : Chars → Chars → Kind
  -- the operators are put into the table, one after the other (ISO 8.14.3)
  set_op : List Operator → Kind
  -- message queues and threads, by their numbers and aliases (SWI-Prolog manual, section 'Multithreaded applications')
  make_queue : ℕ → Option Chars → Kind
  drop_queue : ℕ → Kind
  send : ℕ → Tree → Kind
  -- the message that was sent at this place is taken
  take : ℕ → Kind
  start : ℕ → Tree → Option Chars → Kind
  -- the engine ends, after this number of steps
  finish : How Tree → ℕ → Kind
  join : ℕ → Kind

pub record Entry : Type 0 where
  pub engine : ℕ
  pub kind : Kind

abbrev pub History : Type 0
History = List Entry

-- The updates that the engine `e` made, in their order.
abbrev pub mine : History → ℕ → List Kind
mine [] e = []
mine (x ∷ xs) e = if x.engine == e then x.kind ∷ mine xs e else mine xs e

-- Whether the update is its engine's end.
abbrev pub is_end : Kind → Bool
is_end (finish how steps) = true
is_end _ = false

-- Whether the update begins the engine `e`.
abbrev pub begins : ℕ → Kind → Bool
begins e (start n goal alias) = n == e
begins e _ = false

-- Whether the engine `e` has begun: it is engine 1, or an update began it.
abbrev pub has_begun : History → ℕ → Bool
has_begun [] e = e == 1
has_begun (x ∷ xs) e = begins e x.kind || has_begun xs e

-- The update neither ends an engine nor starts one.
abbrev pub IsPlain : Kind → Type 0
IsPlain k = elim k [ finish how n ↦ ⊥ | start n goal alias ↦ ⊥ | _ ↦ Unit {0} ]

abbrev pub IsPlainUpdate : Option Kind → Type 0
IsPlainUpdate None = Unit {0}
IsPlainUpdate (Some k) = IsPlain k

-- Each entry is a plain update of the engine `e`.
abbrev pub AllPlain : ℕ → History → Type 0
AllPlain e [] = Unit {0}
AllPlain e (x ∷ xs) = (x.engine ≡ e) × IsPlain x.kind × AllPlain e xs
