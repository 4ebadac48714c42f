-- What predicates of the shared state come to with their arguments.
use Rattle.std.specs.Prelude.{◌≡◌, ℕ, zero, Option, Some, None, IsSome}
use Rattle.std.specs.Option.{option_map}
use Rattle.std.specs.List.{All}
use Rattle.pl_term.specs.Tree.{Tree, Trees, none, more}
use Rattle.pl_term.specs.Variables.{rename}
use Rattle.pl_model.specs.BuiltinRows.{Row, error, one_answer}
use Rattle.pl_model.specs.Control.{name_of}
use Rattle.pl_model.specs.Requests.{Request, Reply, assert_first, assert_last, create_thread, join_thread, own_name, send_message, get_message, peek_message, destroy_queue}
use Rattle.pl_model.specs.SharedBuiltins as shared
use Rattle.pl_model.specs.SharedBuiltins.{abolishes, asks_for, asserts, checks_indicators, creates_queue, creates_thread, creates_with_options, destroys, gets_from, gives_row, joins, lists_flags, lists_operators, lists_procedures, makes_dynamic, message_row, named_row, peeks_at, puts_flag, puts_operators, sends}
use Rattle.pl_model.specs.Terms.{arguments}
use Rattle.atom_api.specs.Names.{Names}
use Rattle.term_store.specs.ArgumentKeys.{clause_key, key_atoms}
use Rattle.term_store.specs.Contents.{Contents}
use Rattle.term_store.specs.NumberedNames.{names_of, term_by}
use Rattle.world_api.specs.declared.visit.Visit.{Visit}
use Rattle.world_api.specs.declared.visit.Visit.TheVariants as visits
use Rattle.world_api.specs.Texts.{text_of}
use Rattle.world_api.specs.Visits.{Asks, visit_names}
use Rattle.world_builtins.specs.Spelling.{reads}
use Rattle.term_store.specs.declared.argument_key.ArgumentKey.{ArgumentKey}
use Rattle.shared_builtins.specs.declared.clauses.Given.{Given}
use Rattle.shared_builtins.specs.declared.clauses.Given.TheVariants as clauses
use Rattle.shared_builtins.specs.declared.goal.StateGoal.{StateGoal}
use Rattle.shared_builtins.specs.declared.indicators.Indicated.{Indicated}
use Rattle.shared_builtins.specs.declared.indicators.Indicated.TheVariants as indicators
use Rattle.pl_model.specs.declared.operators.Kind.{Kind as OperatorKind}
use Rattle.shared_builtins.specs.declared.names.Named.{Named}
use Rattle.shared_builtins.specs.declared.names.Named.TheVariants.{Atoms, Refused}
use Rattle.shared_builtins.specs.declared.preds.StateOne.{StateOne}
use Rattle.shared_builtins.specs.declared.preds.StateOne.TheVariants as one
use Rattle.shared_builtins.specs.declared.preds.StateTwo.{StateTwo}
use Rattle.shared_builtins.specs.declared.preds.StateTwo.TheVariants as two
use Rattle.shared_builtins.specs.declared.preds.StateThree.{StateThree}
use Rattle.shared_builtins.specs.declared.preds.StateThree.TheVariants as three
use Rattle.shared_builtins.specs.declared.shared.Shared.{Shared}
use Rattle.shared_builtins.specs.declared.shared.Shared.TheVariants as comes
use Rattle.shared_builtins.specs.Faults.{IsFaultHeld, IsFaultIn, fault_term}

-- The request with the variables of each of its terms numbered from 0: a visit carries terms that are kept.
abbrev pub renumbered : Request → Request
renumbered (create_thread t as₁ e) = create_thread (rename zero t) as₁ (option_map (rename zero) e)
renumbered (join_thread x) = join_thread (rename zero x)
renumbered (send_message x t) = send_message (rename zero x) (rename zero t)
renumbered (get_message x t) = get_message (option_map (rename zero) x) (rename zero t)
renumbered (peek_message x t) = peek_message (option_map (rename zero) x) (rename zero t)
renumbered (destroy_queue x) = destroy_queue (rename zero x)
renumbered q = q

-- The visit is not for the table of the operators, which no predicate of the shared state is told.
abbrev pub AsksByNames : Visit Tree ArgumentKey → Type 0
AsksByNames visits.Look = ⊥
AsksByNames visits.ReadOperators = ⊥
AsksByNames _ = Unit {0}

-- The definition asks for this, and the visit asks for the same with its variables numbered from 0.
pub record IsVisit (m : Names) (d : shared.Shared) (v : Visit Tree ArgumentKey) (q : Request) (next : Reply → ℕ → Row) : Type 0 where
  pub means : d ≡ asks_for q next
  pub asks : Asks term_by clause_key (text_of m) v (renumbered q)
  pub held : All (λ a. IsSome (m a)) (visit_names names_of key_atoms v)
  pub by_names : AsksByNames v

-- For the arguments `ts` the definition has `d`.
abbrev pub ComesTo : Names → Contents → Trees → shared.Shared → Shared → Type 0
ComesTo m s ts d (comes.Refused f) = (d ≡ gives_row (error (fault_term m s f))) × (IsFaultIn s f × IsFaultHeld m s f)
ComesTo m s ts d comes.Holds = d ≡ gives_row (one_answer ts)
ComesTo m s ts d (comes.Asks v) = (q : Request) × (next : Reply → ℕ → Row) × IsVisit m d v q next

-- What the definition has, by the predicate.
abbrev pub one_comes : StateOne → Tree → shared.Shared
one_comes one.Asserta t = asserts assert_first t
one_comes one.Assertz t = asserts assert_last t
one_comes one.Abolish t = abolishes t
one_comes one.Dynamic t = makes_dynamic t
one_comes one.Declares t = checks_indicators t
one_comes one.CurrentPredicate t = lists_procedures t
one_comes one.ThreadSelf t = asks_for own_name (named_row (λ u. more u none))
one_comes one.GetOwn t = asks_for (get_message None t) (message_row (λ m. more m none))
one_comes one.PeekOwn t = asks_for (peek_message None t) (message_row (λ m. more m none))
one_comes one.CreateQueue t = creates_queue t
one_comes one.DestroyQueue t = destroys t

abbrev pub two_comes : StateTwo → Tree → Tree → shared.Shared
two_comes two.SetFlag t u = puts_flag t u
two_comes two.CurrentFlag t u = lists_flags t u
two_comes two.CreateThread t u = creates_thread t u
two_comes two.JoinThread t u = joins t u
two_comes two.Send t u = sends t u
two_comes two.Get t u = gets_from t u
two_comes two.Peek t u = peeks_at t u

abbrev pub three_comes : StateThree → Tree → Tree → Tree → shared.Shared
three_comes three.Op t u v = puts_operators t u v
three_comes three.CurrentOp t u v = lists_operators t u v
three_comes three.CreateThread t u v = creates_with_options t u v

-- What is asked with a clause, or with indicators.
abbrev pub clause_first : Given → Shared
clause_first (clauses.Clause c) = comes.Asks (visits.AssertFirst c)
clause_first (clauses.Refused f) = comes.Refused f

abbrev pub clause_last : Given → Shared
clause_last (clauses.Clause c) = comes.Asks (visits.AssertLast c)
clause_last (clauses.Refused f) = comes.Refused f

abbrev pub made_dynamic : Indicated → Shared
made_dynamic (indicators.Predicates ps) = comes.Asks (visits.MakeDynamic ps)
made_dynamic (indicators.Refused f) = comes.Refused f

abbrev pub declared_only : Indicated → Shared
declared_only (indicators.Predicates ps) = comes.Holds
declared_only (indicators.Refused f) = comes.Refused f

-- What the goal comes to by the definition.
abbrev pub IsShared : Names → Contents → StateGoal → Shared → Type 0
IsShared m s x (comes.Refused f) =
    let g = reads m s x.place in
    (shared.shared (name_of g) (arguments g) ≡ Some (gives_row (error (fault_term m s f)))) × (IsFaultIn s f × IsFaultHeld m s f)
IsShared m s x comes.Holds =
    let g = reads m s x.place in shared.shared (name_of g) (arguments g) ≡ Some (gives_row (one_answer (arguments g)))
IsShared m s x (comes.Asks v) =
    let g = reads m s x.place in
    (q : Request)
    × (next : Reply → ℕ → Row)
    × (shared.shared (name_of g) (arguments g) ≡ Some (asks_for q next))
    × Asks term_by clause_key (text_of m) v (renumbered q)
    × All (λ a. IsSome (m a)) (visit_names names_of key_atoms v)
    × AsksByNames v

-- What op/3 comes to with its names.
abbrev pub operators_of : ℕ → OperatorKind → Named → Shared
operators_of p k (Atoms fs) = comes.Asks (visits.PutOperators p k fs)
operators_of p k (Refused f) = comes.Refused f

abbrev pub operators_by : ℕ → Option OperatorKind → Named → Shared
operators_by p None n = comes.Holds
operators_by p (Some k) n = operators_of p k n
