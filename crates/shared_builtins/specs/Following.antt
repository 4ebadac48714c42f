-- By which replies the rows of predicates follow.
use Rattle.std.specs.Prelude.{◌≡◌, ◌⊎◌, ℕ, zero, Bool, true, false, List, [], Option, Some, None, IsSome, Ok, codes}
use Rattle.pl_term.specs.Tree.{Chars, Tree, Trees, var, atom, comp, none, more}
use Rattle.pl_term.specs.Variables.{rename, variables}
use Rattle.pl_model.specs.BuiltinRows.{Row}
use Rattle.pl_model.specs.Checks.{elements}
use Rattle.pl_model.specs.ErrorTerms.{existence_error}
use Rattle.pl_model.specs.Requests.{Reply}
use Rattle.pl_model.specs.SharedBuiltins.{flags_row, message_row, options_of, named_row, operators_row, procedures_row, status_row, succeeds_with}
use Rattle.atom_api.specs.Fixed.{fixed}
use Rattle.atom_api.specs.Names.{Names}
use Rattle.world_api.specs.declared.reply.Name.{Name}
use Rattle.world_api.specs.declared.reply.Name.TheVariants.{Number, Alias}
use Rattle.shared_builtins.specs.declared.preds.StatePred.{StatePred}
use Rattle.shared_builtins.specs.declared.preds.StatePred.TheVariants.{One, Two, Three}
use Rattle.shared_builtins.specs.declared.preds.StateOne.{StateOne}
use Rattle.shared_builtins.specs.declared.preds.StateOne.TheVariants as one
use Rattle.shared_builtins.specs.declared.preds.StateTwo.{StateTwo}
use Rattle.shared_builtins.specs.declared.preds.StateTwo.TheVariants as two
use Rattle.shared_builtins.specs.declared.preds.StateThree.{StateThree}
use Rattle.shared_builtins.specs.declared.preds.StateThree.TheVariants as three
use Rattle.shared_builtins.specs.declared.following.Following.{Following}
use Rattle.shared_builtins.specs.declared.following.Following.TheVariants as by

abbrev pub following_one : StateOne → Following
following_one one.CurrentPredicate = by.Procedures
following_one one.ThreadSelf = by.Names
following_one one.GetOwn = by.Messages
following_one one.PeekOwn = by.Messages
following_one one.CreateQueue = by.Names
following_one _ = by.Succeeds

abbrev pub following_two : StateTwo → Following
following_two two.SetFlag = by.Succeeds
following_two two.CurrentFlag = by.Flags
following_two two.CreateThread = by.Names
following_two two.JoinThread = by.Statuses
following_two two.Send = by.Succeeds
following_two two.Get = by.Messages
following_two two.Peek = by.Messages

abbrev pub following_three : StateThree → Following
following_three three.Op = by.Succeeds
following_three three.CurrentOp = by.Operators
following_three three.CreateThread = by.Names

abbrev pub following_of : StatePred → Following
following_of (One p) = following_one p
following_of (Two p) = following_two p
following_of (Three p) = following_three p

-- The arguments, with this term for the one that an answer gives.
abbrev pub with_answer : StatePred → Trees → Tree → Trees
with_answer (One p) ts u = more u none
with_answer (Two p) (more t ts) u = more t (more u none)
with_answer (Three p) (more t (more v ts)) u = more t (more u ts)
with_answer p ts u = ts

-- The row of a reply.
abbrev pub row_by : Following → Trees → (Tree → Trees) → Reply → ℕ → Row
row_by by.Succeeds ts terms = succeeds_with ts
row_by by.Names ts terms = named_row terms
row_by by.Messages ts terms = message_row terms
row_by by.Statuses ts terms = status_row terms
row_by by.Procedures ts terms = procedures_row
row_by by.Flags ts terms = flags_row
row_by by.Operators ts terms = operators_row

-- What the first argument names, if it names something.
abbrev pub kind_one : StateOne → Option Chars
kind_one one.DestroyQueue = Some (codes "message_queue")
kind_one _ = None

abbrev pub kind_two : StateTwo → Option Chars
kind_two two.JoinThread = Some (codes "thread")
kind_two two.Send = Some (codes "message_queue")
kind_two two.Get = Some (codes "message_queue")
kind_two two.Peek = Some (codes "message_queue")
kind_two _ = None

abbrev pub kind_by : StatePred → Option Chars
kind_by (One p) = kind_one p
kind_by (Two p) = kind_two p
kind_by (Three p) = None

-- What is no atom and no integer names nothing, and is itself the culprit; every other error has no variables.
abbrev pub IsErrorBy : Option Chars → Tree → Tree → Type 0
IsErrorBy None t e = rename zero e ≡ e
IsErrorBy (Some k) (var x) e = e ≡ existence_error k (var x)
IsErrorBy (Some k) (comp f u us) e = e ≡ existence_error k (comp f u us)
IsErrorBy (Some k) t e = rename zero e ≡ e

-- The first argument. A goal has one.
abbrev pub first_of : Trees → Tree
first_of none = atom []
first_of (more t ts) = t

abbrev pub third_of : Trees → Tree
third_of (more t (more u (more v ts))) = v
third_of ts = atom []

-- What is known of the error for which the request of a goal is refused. That of thread_create/3 has no variables, or is the
-- one that its options have.
abbrev pub IsErrorOf : StatePred → Trees → Tree → Type 0
IsErrorOf (Three three.CreateThread) ts e =
    (variables e ≡ []) ⊎ ((os : List Tree) × (elements (third_of ts) ≡ Ok os) × ((options_of os).error ≡ Some e))
IsErrorOf p ts e = IsErrorBy (kind_by p) (first_of ts) e

-- The fixed atom with this text, if there is a text.
abbrev pub IsKindNamed : Option Chars → Option ℕ → Type 0
IsKindNamed None None = Unit {0}
IsKindNamed (Some k) (Some a) = fixed a ≡ Some k
IsKindNamed _ _ = ⊥

-- The alias is held.
abbrev pub IsNameHeld : Names → Name → Type 0
IsNameHeld m (Number n) = Unit {0}
IsNameHeld m (Alias a) = IsSome (m a)

-- Not thread_create/3, of which the error may be that of an option.
abbrev pub IsPlain : StatePred → Type 0
IsPlain (Three three.CreateThread) = ⊥
IsPlain p = Unit {0}

abbrev pub has_options : StatePred → Bool
has_options (Three three.CreateThread) = true
has_options p = false
