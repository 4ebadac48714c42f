-- What follows replies.
use Rattle.std.specs.Prelude.{◌≡◌, ℕ, zero, List, [], map, Option, Some, None, Ok, IsSome, IfSome}
use Rattle.std.specs.Option.{option_map}
use Rattle.std.specs.List.{All}
use Rattle.pl_term.specs.Variables.{rename}
use Rattle.pl_model.specs.BuiltinRows.{Row, error, table}
use Rattle.pl_model.specs.Control.{name_of}
use Rattle.pl_model.specs.History.{History, Kind}
use Rattle.pl_model.specs.Predicates.{proc_of}
use Rattle.pl_model.specs.Requests.{Request, Reply, flags, refused}
use Rattle.pl_model.specs.Service.{Served, answers, served_now, waits}
use Rattle.pl_model.specs.SharedBuiltins as shared
use Rattle.pl_model.specs.Checks.{elements}
use Rattle.pl_model.specs.SharedBuiltins.{asks_for, options_of}
use Rattle.pl_model.specs.Terms.{arguments}
use Rattle.pl_term.specs.Tree.{Chars, Tree, var, int, atom, comp}
use Rattle.atom_api.specs.Names.{Names}
use Rattle.builtin_rows.specs.Given.{given}
use Rattle.builtin_rows.specs.Rows.{IsRow, IsSingle, row_refusals}
use Rattle.term_store.specs.declared.nodes.AtomNode.{AtomNode}
use Rattle.term_store.specs.declared.nodes.AtomNode.TheVariants as nodes
use Rattle.term_store.specs.ArgumentKeys.{clause_key}
use Rattle.term_store.specs.declared.argument_key.ArgumentKey.{ArgumentKey}
use Rattle.term_store.specs.Contents.{Contents}
use Rattle.term_store.specs.NumberedNames.{names_of, number_of, term_by}
use Rattle.world_api.specs.declared.reply.FlagValue.{FlagValue}
use Rattle.world_api.specs.declared.reply.Reply.{Reply as WorldReply}
use Rattle.world_api.specs.Replies.{HasNames, Says, Suits, reply_names}
use Rattle.world_api.specs.Visits.{Asks}
use Rattle.world_api.specs.declared.visit.Visit.{Visit}
use Rattle.world_api.specs.Texts.{text_of}
use Rattle.world_builtins.specs.Naming.{IsHeldAt}
use Rattle.world_builtins.specs.Spelling.{reads}
use Rattle.iso_search.specs.declared.told.Constant.{Constant}
use Rattle.iso_search.specs.declared.told.Constant.TheVariants as constants
use Rattle.iso_search.specs.declared.told.Line.{Line}
use Rattle.iso_search.specs.declared.told.Line.TheVariants as lines
use Rattle.iso_search.specs.Told.{line_answer}
use Rattle.shared_builtins.specs.declared.goal.StateGoal.{StateGoal}
use Rattle.shared_builtins.specs.declared.replies.Replied.{Replied}
use Rattle.shared_builtins.specs.declared.replies.Replied.TheVariants as follows
use Rattle.shared_builtins.specs.Faults.{IsFaultHeld, IsFaultIn, fault_term}
use Rattle.shared_builtins.specs.declared.faults.Fault.{Fault}
use Rattle.shared_builtins.specs.declared.following.Following.TheVariants as by
use Rattle.shared_builtins.specs.Following.{IsErrorBy, IsErrorOf, following_of}
use Rattle.shared_builtins.specs.Shared.{AsksByNames, renumbered}
use Rattle.shared_builtins.specs.Telling.{TellsAtoms}

-- A refusal of a request whose variables are numbered from 0 has its error so.
abbrev pub renumbered_reply : Reply → Reply
renumbered_reply (refused e) = refused (rename zero e)
renumbered_reply r = r

abbrev pub renumbered_served : Served → Served
renumbered_served (answers r k) = answers (renumbered_reply r) k
renumbered_served waits = waits

-- The definition asks `q` for the goal, and the visit for the same; the request is answered `r`, and the reply, which suits
-- the visit, says this, its error numbered from 0.
pub record IsReplyTo (m : Names) (s : Contents) (x : StateGoal) (reply : WorldReply Tree) (q : Request) (next_row : Reply → ℕ → Row) (r : Reply) : Type 0 where
  pub tells : TellsAtoms m
  pub held : IsHeldAt m s x.place
  pub names : All (λ a. IsSome (m a)) (reply_names names_of reply)
  pub asked : shared.shared (name_of (reads m s x.place)) (arguments (reads m s x.place)) ≡ Some (asks_for q next_row)
  pub engine : ℕ
  pub goals : ℕ
  pub before : History
  pub update : Option Kind
  pub served : served_now engine goals before q ≡ answers r update
  pub says : Says term_by (text_of m) reply (renumbered_reply r)
  pub text : ℕ → Chars
  pub visit : Visit Tree ArgumentKey
  pub asks : Asks term_by clause_key text visit (renumbered q)
  pub by_names : AsksByNames visit
  pub suits : Suits visit reply

-- An integer or an atom.
abbrev pub IsConstantTerm : Tree → Type 0
IsConstantTerm (var x) = ⊥
IsConstantTerm (comp f t ts) = ⊥
IsConstantTerm t = Unit {0}

-- The same, for a goal of which the row follows by the reply alone. Values of flags are constants, and operators are told by
-- their names.
pub record IsReplyFor (m : Names) (s : Contents) (x : StateGoal) (reply : WorldReply Tree) (r : Reply) : Type 0 where
  pub tells : TellsAtoms m
  pub held : IsHeldAt m s x.place
  pub names : All (λ a. IsSome (m a)) (reply_names names_of reply)
  pub says : Says term_by (text_of m) reply (renumbered_reply r)
  pub refuses : (e : Tree) → r ≡ refused e → IsErrorOf x.pred (arguments (reads m s x.place)) e
  pub values : following_of x.pred ≡ by.Flags → (fs : List (Chars × Tree)) → r ≡ flags fs → All (λ f. IsConstantTerm f.1) fs
  pub named : following_of x.pred ≡ by.Operators → HasNames reply

abbrev pub IsConstantHeld : Names → Constant → Type 0
IsConstantHeld m (constants.Int i) = Unit {0}
IsConstantHeld m (constants.Atom a) = IsSome (m a)

abbrev pub IsLineHeld : Names → Line → Type 0
IsLineHeld m (lines.Indicator f n) = IsSome (m f)
IsLineHeld m (lines.Flag f v) = IsSome (m f) × IsConstantHeld m v
IsLineHeld m (lines.Operator p k f) = IsSome (m k) × IsSome (m f)

-- By the definition the goal `x` gives this row, where `next` is the next number of a variable. The store was `s` and is `t`.
abbrev pub IsReplied : Names → Contents → ℕ → StateGoal → Row → Contents → Replied → Type 0
IsReplied m s next x d t (follows.Row r) =
    let g = reads m s x.place in
    IsRow s next (arguments g) (given (proc_of g) (arguments g) next s.used s.budget d) m t r × ((row_refusals r ≡ []) × IsSingle r)
IsReplied m s next x d t (follows.Table ls) = (d ≡ table (map (line_answer m) ls.items)) × ((t ≡ s) × All (IsLineHeld m) ls.items)
IsReplied m s next x d t (follows.Error e) = (d ≡ error (term_by (text_of m) e)) × ((t ≡ s) × All (λ a. IsSome (m a)) (names_of e))
IsReplied m s next x d t (follows.Refused f) = (d ≡ error (fault_term m s f)) × ((t ≡ s) × (IsFaultIn s f × IsFaultHeld m s f))

-- The error of a refusal by what the first argument `t` is to name: this one, or one without variables.
abbrev pub IsFaultNamed : Names → Contents → Option Chars → Tree → Option Fault → Type 0
IsFaultNamed m s k t None = (e : Tree) → IsErrorBy k t e → rename zero e ≡ e
IsFaultNamed m s k t (Some f) = ((e : Tree) → IsErrorBy k t e → e ≡ fault_term m s f) × (IsFaultIn s f × IsFaultHeld m s f)

-- The error of the options `t` of thread_create/3, where they are a list: this one, or none.
abbrev pub IsFaultOfOptions : Names → Contents → Tree → Option Fault → Type 0
IsFaultOfOptions m s t o =
    (os : List Tree) → elements t ≡ Ok os → ((options_of os).error ≡ option_map (fault_term m s) o) × IfSome o (IsFaultHeld m s)

-- The line of a flag, where its value is a constant.
abbrev pub constant_in : Tree → Option Constant
constant_in (int i) = Some (constants.Int i)
constant_in (atom a) = Some (constants.Atom (number_of a))
constant_in t = None

-- The same of the node of such a term.
abbrev pub node_constant : AtomNode → Option Constant
node_constant (nodes.Int i) = Some (constants.Int i)
node_constant (nodes.Atom a) = Some (constants.Atom a)
node_constant n = None

abbrev pub flag_line : FlagValue Tree → Option Line
flag_line f = option_map (lines.Flag f.flag) (constant_in f.value)
