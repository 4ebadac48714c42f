-- The rows that follow replies, by the predicate, and what is asked.
use Rattle.std.proofs.Common.{◌≡◌, ◌⊎◌, inl, inr, ℕ, zero, Bool, true, false, cond, List, [], ◌∷◌, Option, Some, None, Ok, Err, codes, refl, sym, ap, ◌∙◌}
use Rattle.std.specs.Prelude.{Result, map, bytes_eq}
use Rattle.pl_term.specs.Tree.{Chars, Tree, Trees, var, int, atom, comp, none, more}
use Rattle.pl_model.specs.declared.operators.Kind.{Kind as OperatorKind}
use Rattle.pl_model.specs.Balls.{type_error}
use Rattle.pl_model.specs.BodyChecks.{clause_of_term}
use Rattle.pl_model.specs.BuiltinRows.{Row, one_answer}
use Rattle.pl_model.specs.Checks.{atom_error, atoms_error, bound_error, elements, natural_of, proc_indicated, text_of_atom}
use Rattle.pl_model.specs.History.{Kind, Proc}
use Rattle.pl_model.specs.Requests.{Request, Reply, abolish_procedure, all_flags, all_procedures, assert_first, assert_last, create_queue, create_thread, destroy_queue, get_message, join_thread, make_dynamic, own_name, peek_message, put_flag, put_operators, read_operators, refused, send_message}
use Rattle.pl_model.specs.SharedBuiltins as shared
use Rattle.pl_model.specs.SharedBuiltins.{Options, asks_for, creates_with, gives_row, indicated, lists_procedures, message_row, named_row, names_in, on_ok, operators_row, options_of, procedures_row, flags_row, puts_names, queue_alias, specifier_named, status_row, succeeds_with, unless}
use Rattle.shared_builtins.specs.declared.preds.StatePred.TheVariants.{Three}
use Rattle.shared_builtins.specs.declared.preds.StateOne.{StateOne}
use Rattle.shared_builtins.specs.declared.preds.StateOne.TheVariants as one
use Rattle.shared_builtins.specs.declared.preds.StateTwo.{StateTwo}
use Rattle.shared_builtins.specs.declared.preds.StateTwo.TheVariants as two
use Rattle.shared_builtins.specs.declared.preds.StateThree.{StateThree}
use Rattle.shared_builtins.specs.declared.preds.StateThree.TheVariants as three
use Rattle.pl_term.specs.Variables.{rename}
use Rattle.pl_model.specs.Service.{answers, serve}
use Rattle.pl_model.specs.SharedState.{SharedState}
use Rattle.shared_builtins.specs.Following.{IsErrorBy, IsErrorOf, following_one, following_three, following_two, kind_one, kind_two, row_by}
use Rattle.shared_builtins.specs.Shared.{one_comes, renumbered, three_comes, two_comes}
use Rattle.shared_builtins.proofs.Renumbering.{create_error, destroy_error, get_error, ground_create_error, join_error, own_get_error, own_peek_error, peek_error, plain_refusal, send_error, thread_error}

-- What is asked, and the row of the reply.
pub record Asks (d : shared.Shared) (q : Request) (n : Reply → ℕ → Row) : Type 0 where
  pub asks : d ≡ asks_for q n

same_asked : (p q : Request) (k n : Reply → ℕ → Row) → asks_for p k ≡ asks_for q n → (q ≡ p) × (n ≡ k)
same_asked p q k n e = (cc, cc)

on_ok_asked : {A : Type 0} (r : Result A Tree) (ask : A → Request) (k : Reply → ℕ → Row) (q : Request) (n : Reply → ℕ → Row)
    → on_ok r (λ a. asks_for (ask a) k) ≡ asks_for q n → (a : A) × ((q ≡ ask a) × (n ≡ k))
on_ok_asked (Ok a) ask k q n e = (a, same_asked (ask a) q k n e)
on_ok_asked (Err x) ask k q n e = absurd cc

unless_asked : (o : Option Tree) (d : shared.Shared) (q : Request) (n : Reply → ℕ → Row) → unless o d ≡ asks_for q n → d ≡ asks_for q n
unless_asked None d q n e = e
unless_asked (Some x) d q n e = absurd cc

-- The requests of a predicate
abbrev pub IsRequestOne : StateOne → Tree → Request → Type 0
IsRequestOne one.Asserta t q = (c : _) × (q ≡ assert_first c)
IsRequestOne one.Assertz t q = (c : _) × (q ≡ assert_last c)
IsRequestOne one.Abolish t q = (p : _) × (q ≡ abolish_procedure p)
IsRequestOne one.Dynamic t q = (ps : _) × (q ≡ make_dynamic ps)
IsRequestOne one.Declares t q = ⊥
IsRequestOne one.CurrentPredicate t q = q ≡ all_procedures
IsRequestOne one.ThreadSelf t q = q ≡ own_name
IsRequestOne one.GetOwn t q = q ≡ get_message None t
IsRequestOne one.PeekOwn t q = q ≡ peek_message None t
IsRequestOne one.CreateQueue t q = q ≡ create_queue (queue_alias t)
IsRequestOne one.DestroyQueue t q = q ≡ destroy_queue t

procedures_asked : (t : Tree) (q : Request) (n : Reply → ℕ → Row) → lists_procedures t ≡ asks_for q n → (q ≡ all_procedures) × (n ≡ procedures_row)
procedures_asked (var x) q n e = same_asked all_procedures q procedures_row n e
procedures_asked (int i) q n e = absurd cc
procedures_asked (atom a) q n e = absurd cc
procedures_asked (comp f t none) q n e = absurd cc
procedures_asked (comp f t (more u none)) q n e = go (bytes_eq f (codes "/")) e
  where
    go : (b : Bool) → cond b (asks_for all_procedures procedures_row) (shared.wrong (type_error (codes "predicate_indicator") (comp f t (more u none)))) ≡ asks_for q n → (q ≡ all_procedures) × (n ≡ procedures_row)
    go true e = same_asked all_procedures q procedures_row n e
    go false e = absurd cc
procedures_asked (comp f t (more u (more v ts))) q n e = absurd cc

pub one_asked : (p : StateOne) (t : Tree) (q : Request) (n : Reply → ℕ → Row) → one_comes p t ≡ asks_for q n
    → IsRequestOne p t q × (n ≡ row_by (following_one p) (more t none) (λ u. more u none))
one_asked one.Asserta t q n e = let r = on_ok_asked (clause_of_term t) assert_first (succeeds_with (more t none)) q n e in ((r.0, r.1.0), r.1.1)
one_asked one.Assertz t q n e = let r = on_ok_asked (clause_of_term t) assert_last (succeeds_with (more t none)) q n e in ((r.0, r.1.0), r.1.1)
one_asked one.Abolish t q n e = let r = on_ok_asked (proc_indicated t) abolish_procedure (succeeds_with (more t none)) q n e in ((r.0, r.1.0), r.1.1)
one_asked one.Dynamic t q n e = let r = on_ok_asked (indicated t) make_dynamic (succeeds_with (more t none)) q n e in ((r.0, r.1.0), r.1.1)
one_asked one.Declares t q n e = absurd (never (indicated t) e)
  where
    never : (r : Result (List Proc) Tree) → on_ok r (λ ps. gives_row (one_answer (more t none))) ≡ asks_for q n → ⊥
    never (Ok ps) e = cc
    never (Err x) e = cc
one_asked one.CurrentPredicate t q n e = procedures_asked t q n e
one_asked one.ThreadSelf t q n e = same_asked own_name q (named_row (λ u. more u none)) n e
one_asked one.GetOwn t q n e = same_asked (get_message None t) q (message_row (λ m. more m none)) n e
one_asked one.PeekOwn t q n e = same_asked (peek_message None t) q (message_row (λ m. more m none)) n e
one_asked one.CreateQueue t q n e =
    same_asked (create_queue (queue_alias t)) q (named_row (λ u. more u none)) n (unless_asked (atom_error t) (asks_for (create_queue (queue_alias t)) (named_row (λ u. more u none))) q n e)
one_asked one.DestroyQueue t q n e =
    same_asked (destroy_queue t) q (succeeds_with (more t none)) n (unless_asked (bound_error t) (asks_for (destroy_queue t) (succeeds_with (more t none))) q n e)

abbrev pub IsRequestTwo : StateTwo → Tree → Tree → Request → Type 0
IsRequestTwo two.SetFlag t u q = q ≡ put_flag (text_of_atom t) (text_of_atom u)
IsRequestTwo two.CurrentFlag t u q = q ≡ all_flags
IsRequestTwo two.CreateThread t u q = q ≡ create_thread t [] None
IsRequestTwo two.JoinThread t u q = q ≡ join_thread t
IsRequestTwo two.Send t u q = q ≡ send_message t u
IsRequestTwo two.Get t u q = q ≡ get_message (Some t) u
IsRequestTwo two.Peek t u q = q ≡ peek_message (Some t) u

unless_same : (o : Option Tree) (p q : Request) (k n : Reply → ℕ → Row) → unless o (asks_for p k) ≡ asks_for q n → (q ≡ p) × (n ≡ k)
unless_same o p q k n e = same_asked p q k n (unless_asked o (asks_for p k) q n e)

pub two_asked : (p : StateTwo) (t u : Tree) (q : Request) (n : Reply → ℕ → Row) → two_comes p t u ≡ asks_for q n
    → IsRequestTwo p t u q × (n ≡ row_by (following_two p) (more t (more u none)) (λ x. more t (more x none)))
two_asked two.SetFlag t u q n e = unless_same _ (put_flag (text_of_atom t) (text_of_atom u)) q (succeeds_with (more t (more u none))) n e
two_asked two.CurrentFlag t u q n e = unless_same _ all_flags q flags_row n e
two_asked two.CreateThread t u q n e = unless_same _ (create_thread t [] None) q (named_row (λ x. more t (more x none))) n e
two_asked two.JoinThread t u q n e = unless_same _ (join_thread t) q (status_row (λ x. more t (more x none))) n e
two_asked two.Send t u q n e = unless_same _ (send_message t u) q (succeeds_with (more t (more u none))) n e
two_asked two.Get t u q n e = unless_same _ (get_message (Some t) u) q (message_row (λ x. more t (more x none))) n e
two_asked two.Peek t u q n e = unless_same _ (peek_message (Some t) u) q (message_row (λ x. more t (more x none))) n e

-- The errors of refusals, by the predicate

plainly : (e : ℕ) (q p : Request) (s : SharedState) (g : ℕ) (y : Tree) (k : Option Kind) → q ≡ p → renumbered p ≡ p → serve e q s g ≡ answers (refused y) k → rename zero y ≡ y
plainly e q p s g y k is same h = plain_refusal e q s g y k (ap renumbered is ∙ same ∙ sym is) h

pub one_error : (p : StateOne) (t : Tree) (q : Request) (e : ℕ) (s : SharedState) (g : ℕ) (y : Tree) (k : Option Kind) → IsRequestOne p t q → serve e q s g ≡ answers (refused y) k
    → IsErrorBy (kind_one p) t y
one_error one.Asserta t q e s g y k r h = plainly e q (assert_first r.0) s g y k r.1 refl h
one_error one.Assertz t q e s g y k r h = plainly e q (assert_last r.0) s g y k r.1 refl h
one_error one.Abolish t q e s g y k r h = plainly e q (abolish_procedure r.0) s g y k r.1 refl h
one_error one.Dynamic t q e s g y k r h = plainly e q (make_dynamic r.0) s g y k r.1 refl h
one_error one.Declares t q e s g y k r h = absurd r
one_error one.CurrentPredicate t q e s g y k r h = plainly e q all_procedures s g y k r refl h
one_error one.ThreadSelf t q e s g y k r h = plainly e q own_name s g y k r refl h
one_error one.GetOwn t q e s g y k r h = own_get_error e s g y k t (ap (λ q. serve e q s g) (sym r) ∙ h)
one_error one.PeekOwn t q e s g y k r h = own_peek_error e s g y k t (ap (λ q. serve e q s g) (sym r) ∙ h)
one_error one.CreateQueue t q e s g y k r h = plainly e q (create_queue (queue_alias t)) s g y k r refl h
one_error one.DestroyQueue t q e s g y k r h = destroy_error e s g y k t (ap (λ q. serve e q s g) (sym r) ∙ h)

pub two_error : (p : StateTwo) (t u : Tree) (q : Request) (e : ℕ) (s : SharedState) (g : ℕ) (y : Tree) (k : Option Kind) → IsRequestTwo p t u q → serve e q s g ≡ answers (refused y) k
    → IsErrorBy (kind_two p) t y
two_error two.SetFlag t u q e s g y k r h = plainly e q (put_flag (text_of_atom t) (text_of_atom u)) s g y k r refl h
two_error two.CurrentFlag t u q e s g y k r h = plainly e q all_flags s g y k r refl h
two_error two.CreateThread t u q e s g y k r h = create_error e s g y k t (ap (λ q. serve e q s g) (sym r) ∙ h)
two_error two.JoinThread t u q e s g y k r h = join_error e s g y k t (ap (λ q. serve e q s g) (sym r) ∙ h)
two_error two.Send t u q e s g y k r h = send_error e s g y k t u (ap (λ q. serve e q s g) (sym r) ∙ h)
two_error two.Get t u q e s g y k r h = get_error e s g y k t u (ap (λ q. serve e q s g) (sym r) ∙ h)
two_error two.Peek t u q e s g y k r h = peek_error e s g y k t u (ap (λ q. serve e q s g) (sym r) ∙ h)

-- Three arguments

abbrev pub IsRequestThree : StateThree → Tree → Tree → Tree → Request → Type 0
IsRequestThree three.Op t u v q = (n : ℕ) × (k : OperatorKind) × (fs : List Chars) × (q ≡ put_operators n k fs)
IsRequestThree three.CurrentOp t u v q = q ≡ read_operators
IsRequestThree three.CreateThread t u v q =
    (os : List Tree) × (elements v ≡ Ok os) × ((q ≡ create_thread t [] None) ⊎ ((ks : List Chars) × (q ≡ create_thread t ks (options_of os).error)))

operators_asked : (args : Trees) (p : Tree) (o : Option OperatorKind) (r : Result (List Tree) Tree) (q : Request) (n : Reply → ℕ → Row)
    → on_ok r (puts_names args p o) ≡ asks_for q n → ((k : ℕ) × (d : OperatorKind) × (fs : List Chars) × (q ≡ put_operators k d fs)) × (n ≡ succeeds_with args)
operators_asked args p o (Err x) q n e = absurd cc
operators_asked args p None (Ok fs) q n e = absurd cc
operators_asked args p (Some d) (Ok fs) q n e =
    let r = unless_same (atoms_error fs) (put_operators (natural_of p) d (map text_of_atom fs)) q (succeeds_with args) n e in
    ((natural_of p, d, map text_of_atom fs, r.0), r.1)

creates_asked : (t : Tree) (terms : Tree → Trees) (o : Options) (q : Request) (n : Reply → ℕ → Row) → creates_with t terms o ≡ asks_for q n
    → ((q ≡ create_thread t [] None) ⊎ ((ks : List Chars) × (q ≡ create_thread t ks o.error))) × (n ≡ named_row terms)
creates_asked t terms o q n e = go o.aliases e
  where
    go : (xs : List Chars) → elim xs [
      | [] ↦ unless o.error (asks_for (create_thread t [] None) (named_row terms))
      | a ∷ as₁ ↦ asks_for (create_thread t (a ∷ as₁) o.error) (named_row terms)
    ] ≡ asks_for q n → ((q ≡ create_thread t [] None) ⊎ ((ks : List Chars) × (q ≡ create_thread t ks o.error))) × (n ≡ named_row terms)
    go [] e = let r = unless_same o.error (create_thread t [] None) q (named_row terms) n e in (inl r.0, r.1)
    go (a ∷ as₁) e = let r = same_asked (create_thread t (a ∷ as₁) o.error) q (named_row terms) n e in (inr (a ∷ as₁, r.0), r.1)

with_options_asked : (t : Tree) (terms : Tree → Trees) (x : Result (List Tree) Tree) (q : Request) (n : Reply → ℕ → Row)
    → on_ok x (λ os. creates_with t terms (options_of os)) ≡ asks_for q n
    → ((os : List Tree) × (x ≡ Ok os) × ((q ≡ create_thread t [] None) ⊎ ((ks : List Chars) × (q ≡ create_thread t ks (options_of os).error)))) × (n ≡ named_row terms)
with_options_asked t terms (Err x) q n e = absurd cc
with_options_asked t terms (Ok os) q n e = let r = creates_asked t terms (options_of os) q n e in ((os, refl, r.0), r.1)

pub three_asked : (p : StateThree) (t u v : Tree) (q : Request) (n : Reply → ℕ → Row) → three_comes p t u v ≡ asks_for q n
    → IsRequestThree p t u v q × (n ≡ row_by (following_three p) (more t (more u (more v none))) (λ x. more t (more x (more v none))))
three_asked three.Op t u v q n e =
    operators_asked (more t (more u (more v none))) t (specifier_named (text_of_atom u)) (names_in v) q n (unless_asked _ _ q n e)
three_asked three.CurrentOp t u v q n e = unless_same _ read_operators q operators_row n e
three_asked three.CreateThread t u v q n e = with_options_asked t (λ x. more t (more x (more v none))) (elements v) q n (unless_asked _ _ q n e)

pub three_error : (p : StateThree) (t u v : Tree) (q : Request) (e : ℕ) (s : SharedState) (g : ℕ) (y : Tree) (k : Option Kind) → IsRequestThree p t u v q
    → serve e q s g ≡ answers (refused y) k → IsErrorOf (Three p) (more t (more u (more v none))) y
three_error three.Op t u v q e s g y k r h = plainly e q (put_operators r.0 r.1 r.2) s g y k r.3 refl h
three_error three.CurrentOp t u v q e s g y k r h = plainly e q read_operators s g y k r refl h
three_error three.CreateThread t u v q e s g y k (os, is, inl r) h = inl (ground_create_error e s g y k t (ap (λ q. serve e q s g) (sym r) ∙ h))
three_error three.CreateThread t u v q e s g y k (os, is, inr (ks, r)) h =
    elim (thread_error e s g y k t ks (options_of os).error (ap (λ q. serve e q s g) (sym r) ∙ h)) [ inl p ↦ inl p | inr o ↦ inr (os, is, o) ]
