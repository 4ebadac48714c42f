-- Goals of predicates of the shared state.
use Rattle.std.specs.Prelude.{◌≡◌, ◌==◌, ◌⊎◌, ℕ, List, [], ◌∷◌, false, Some, codes}
use Rattle.pl_term.specs.Tree.{Chars, compound}
use Rattle.atom_api.specs.Fixed.{fixed}
use Rattle.atom_api.specs.FixedNames.{message_queue_create_name, message_queue_destroy_name, thread_get_message_name, thread_peek_message_name, thread_self_name}
use Rattle.term_store.specs.Heap.{atom_name}
use Rattle.term_store.specs.Contents.{Contents, Holds, IsArguments, arguments_at, term_at}
use Rattle.shared_builtins.specs.declared.preds.StatePred.{StatePred}
use Rattle.shared_builtins.specs.declared.preds.StatePred.TheVariants.{One, Two, Three}
use Rattle.shared_builtins.specs.declared.preds.StateOne.{StateOne}
use Rattle.shared_builtins.specs.declared.preds.StateOne.TheVariants as one
use Rattle.shared_builtins.specs.declared.preds.StateTwo.{StateTwo}
use Rattle.shared_builtins.specs.declared.preds.StateTwo.TheVariants as two
use Rattle.shared_builtins.specs.declared.preds.StateThree.{StateThree}
use Rattle.shared_builtins.specs.declared.preds.StateThree.TheVariants as three
use Rattle.shared_builtins.specs.declared.goal.StateGoal.{StateGoal}

abbrev pub IsEither : Chars → Chars → Chars → Type 0
IsEither f g h = (h ≡ f) ⊎ (h ≡ g)

-- The predicate has this name. Two of them have two.
abbrev pub IsNameOfOne : StateOne → Chars → Type 0
IsNameOfOne one.Asserta f = f ≡ codes "asserta"
IsNameOfOne one.Assertz f = IsEither (codes "assertz") (codes "assert") f
IsNameOfOne one.Abolish f = f ≡ codes "abolish"
IsNameOfOne one.Dynamic f = f ≡ codes "dynamic"
IsNameOfOne one.Declares f = IsEither (codes "discontiguous") (codes "multifile") f
IsNameOfOne one.CurrentPredicate f = f ≡ codes "current_predicate"
IsNameOfOne one.ThreadSelf f = f ≡ codes "thread_self"
IsNameOfOne one.GetOwn f = f ≡ codes "thread_get_message"
IsNameOfOne one.PeekOwn f = f ≡ codes "thread_peek_message"
IsNameOfOne one.CreateQueue f = f ≡ codes "message_queue_create"
IsNameOfOne one.DestroyQueue f = f ≡ codes "message_queue_destroy"

abbrev pub name_of_two : StateTwo → Chars
name_of_two two.SetFlag = codes "set_prolog_flag"
name_of_two two.CurrentFlag = codes "current_prolog_flag"
name_of_two two.CreateThread = codes "thread_create"
name_of_two two.JoinThread = codes "thread_join"
name_of_two two.Send = codes "thread_send_message"
name_of_two two.Get = codes "thread_get_message"
name_of_two two.Peek = codes "thread_peek_message"

abbrev pub name_of_three : StateThree → Chars
name_of_three three.Op = codes "op"
name_of_three three.CurrentOp = codes "current_op"
name_of_three three.CreateThread = codes "thread_create"

abbrev pub IsNameOf : StatePred → Chars → Type 0
IsNameOf (One p) f = IsNameOfOne p f
IsNameOf (Two p) f = f ≡ name_of_two p
IsNameOf (Three p) f = f ≡ name_of_three p

abbrev pub arity_of : StatePred → ℕ
arity_of (One p) = 1
arity_of (Two p) = 2
arity_of (Three p) = 3

-- The names of the predicates of one argument on threads and queues: thread_self/1, thread_get_message/1, thread_peek_message/1,
-- message_queue_create/1, message_queue_destroy/1.
abbrev pub thread_names : List ℕ
thread_names =
    thread_self_name ∷ thread_get_message_name ∷ thread_peek_message_name ∷ message_queue_create_name ∷ message_queue_destroy_name ∷ []

-- The name is that of the predicate, which takes so many arguments.
abbrev pub IsPredicate : ℕ → ℕ → StatePred → Type 0
IsPredicate name arity p = ((f : Chars) × (fixed name ≡ Some f) × IsNameOf p f) × (arity ≡ arity_of p)

pub record IsStateGoal (s : Contents) (g : StateGoal) : Type 0 where
  pub holds : Holds s g.place
  pub inside : IsArguments s g.arguments
  pub means : term_at s g.place ≡ compound (atom_name g.name) (arguments_at s g.arguments)
  pub predicate : IsPredicate g.name g.arguments.count g.pred

-- The name is none of these.
abbrev pub IsOff : ℕ → List ℕ → Type 0
IsOff name [] = Unit {0}
IsOff name (k ∷ ks) = ((name == k) ≡ false) × IsOff name ks
