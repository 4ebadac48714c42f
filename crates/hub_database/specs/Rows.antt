-- What the database answers to a visit, and what is stored then.
use Rattle.std.specs.Prelude.{◌≡◌, ◌<◌, ◌≤◌, ◌^◌, ℕ, suc, ◌++◌, Option, Some, None, IsSome, Bool, true, false, codes}
use Rattle.std.specs.List.{All}
use Rattle.std.specs.declared.result.Result.{Result}
use Rattle.std.specs.declared.result.Result.TheVariants.{Ok, Err}
use Rattle.pl_term.specs.declared.memory.Memory.{Memory as NoRoom}
use Rattle.pl_term.specs.Tree.{Chars, Tree}
use Rattle.pl_model.specs.History.{History, Kind}
use Rattle.pl_model.specs.Service.{entry_by}
use Rattle.pl_model.specs.Errors.{static_procedure, unknown_procedure}
use Rattle.pl_model.specs.ErrorTerms.{resource_error}
use Rattle.atom_api.specs.Names.{FixedStand, Names}
use Rattle.atom_words.specs.declared.view.View.{View}
use Rattle.atom_table.specs.Naming.{names, requests}
use Rattle.term_store.specs.NumberedNames.{names_of}
use Rattle.world_api.specs.declared.reply.Found.{Found}
use Rattle.world_api.specs.declared.reply.Reply.{Reply}
use Rattle.world_api.specs.declared.reply.Reply.TheVariants.{Clauses, Gone, Refused}
use Rattle.pl_model.specs.Requests.{Request}
use Rattle.clause_db.specs.Parts.{Held}
use Rattle.clause_db.specs.declared.fault.DbFault.{DbFault}
use Rattle.clause_db.specs.declared.flags.UnknownCall.{UnknownCall}
use Rattle.clause_db.specs.declared.flags.UnknownCall.TheVariants.{Raises, Fails}
use Rattle.clause_db.specs.declared.fault.DbFault.TheVariants.{Static, Private, Unknown, CellsFull, Memory as NoMemory}
use Rattle.world_api.specs.Texts.{text_of}
use Rattle.world_api.specs.Visits.{proc_named}
use Rattle.world_api.specs.declared.visit.Procedure.{Procedure}
use Rattle.counted_terms.specs.CountedTerms.{said}
use Rattle.counted_terms.specs.Keeping.{HoldsOn, kept, tally}
use Rattle.counted_terms.specs.declared.row.Row.{Row}
use Rattle.counted_terms.specs.declared.row.Row.TheVariants.{Reads, Makes, Waits, NeedsAtoms, Retry, Worn, Memory}
use Rattle.counted_terms.specs.Rows.{Answers}
use Rattle.hub_database.specs.Database.{IsDatabase}

-- THE REQUEST IS ANSWERED SO after the history: a reply that makes an update makes this one, and what is stored is the database after the history with it; any other answer leaves it the database after the history
module _ (goals e : ℕ) (text : ℕ → Chars) (q : Request) (h : History) (kind : Kind) (k : View) (db : Held Tree) where
  abbrev pub Decides : Row → Type 0
  Decides (Reads r) = Answers goals e text q h r None × IsDatabase k db goals h
  Decides (Makes r) = Answers goals e text q h r (Some kind) × IsDatabase k db goals (h ++ entry_by e (Some kind))
  Decides (Waits on) = ⊥
  Decides (NeedsAtoms p) = IsDatabase k db goals h
  Decides (Retry c) = IsDatabase k db goals h
  Decides (Worn w) = IsDatabase k db goals h
  Decides Memory = IsDatabase k db goals h

-- the generation after the row
abbrev pub generation_after : Row → ℕ → ℕ
generation_after (Makes r) g = suc g
generation_after _ g = g

-- the atom is held, where there is one
abbrev pub IsHeldBy : Names → Option ℕ → Type 0
IsHeldBy m None = Unit {0}
IsHeldBy m (Some a) = IsSome (m a)

-- the term says the error, by all maps that have the fixed atoms and this one
abbrev pub IsErrorTerm : Option ℕ → (Names → Tree) → Tree → Type 0
IsErrorTerm a error t = (m : Names) → FixedStand m → IsHeldBy m a → (said m t ≡ error m) × All (λ k. IsSome (m k)) (names_of t)

-- a refusal with such a term, or out of memory
abbrev pub Refuses : Option ℕ → (Names → Tree) → Row → Type 0
Refuses a error (Reads (Refused t)) = IsErrorTerm a error t
Refuses a error Memory = Unit {0}
Refuses a error _ = ⊥

-- the engine's seat: no text is asked for, nothing is refused, and what is held is held on
pub record IsQuiet (v w : View) : Type 0 where
  pub holds : HoldsOn (names v) (names w)
  pub refusals : w.refusals ≡ v.refusals
  pub requests : requests w ≡ requests v

-- the keeper keeps and counts what it did
pub record IsSteady (k l : View) : Type 0 where
  pub keeps : kept l ≡ kept k
  pub counts : (a : ℕ) → tally l a ≡ tally k a

-- why a clause is not added: for want of generations where the database had no cause
abbrev pub RefusesAddition : Procedure → Option DbFault → Row → Type 0
RefusesAddition p (Some Static) r = Refuses (Some p.name) (λ m. static_procedure (proc_named (text_of m) p)) r
RefusesAddition p (Some (CellsFull used need)) r = Refuses None (λ m. resource_error (codes "database")) r
RefusesAddition p (Some Private) r = r ≡ Memory
RefusesAddition p (Some Unknown) r = r ≡ Memory
RefusesAddition p (Some NoMemory) r = r ≡ Memory
RefusesAddition p None r = Refuses None (λ m. resource_error (codes "generations")) r

-- THE REQUEST IS ANSWERED SO after the history, and nothing is changed
module _ (goals e : ℕ) (text : ℕ → Chars) (q : Request) (h : History) where
  abbrev pub Tells : Row → Type 0
  Tells (Reads r) = Answers goals e text q h r None
  Tells (Makes r) = ⊥
  Tells (Waits on) = ⊥
  Tells _ = Unit {0}

-- the row hands out the first of a list of clauses, or is out of memory
abbrev pub HandsOut : (Option (Found Tree) → Type 0) → Row → Type 0
HandsOut P (Reads (Clauses f)) = P f
HandsOut P Memory = Unit {0}
HandsOut P _ = ⊥

-- what the call of an unknown procedure is answered
abbrev pub Unknowns : UnknownCall → Procedure → Row → Type 0
Unknowns Raises p r = Refuses (Some p.name) (λ m. unknown_procedure (proc_named (text_of m) p)) r
Unknowns Fails p r = r ≡ Reads (Clauses None)

-- what an erasure is answered where no update can be made: it is refused where the clause is still there
abbrev pub ErasesNone : Bool → Row → Type 0
ErasesNone true r = Refuses None (λ m. resource_error (codes "generations")) r
ErasesNone false r = r ≡ Reads Gone

-- what an update that nothing refuses is answered: with the reply, out of memory, or for want of generations
abbrev pub Updates : ℕ → Reply Tree → Row → Type 0
Updates g made (Makes r) = (r ≡ made) × (g < 2 ^ 47)
Updates g made (Reads r) = (2 ^ 47 ≤ g) × Refuses None (λ m. resource_error (codes "generations")) (Reads r)
Updates g made Memory = Unit {0}
Updates g made _ = ⊥

-- the history after the row, with the update where one is made
abbrev pub history_after : ℕ → Row → Kind → History → History
history_after e (Makes r) kind h = h ++ entry_by e (Some kind)
history_after e _ kind h = h

-- this holds of the reply of the row, where it has one
abbrev pub RepliesBy : (Reply Tree → Type 0) → Row → Type 0
RepliesBy P (Reads r) = P r
RepliesBy P (Makes r) = P r
RepliesBy P _ = Unit {0}

-- a reply with nothing changed, or out of memory
abbrev pub IsReply : Row → Type 0
IsReply (Reads r) = Unit {0}
IsReply Memory = Unit {0}
IsReply _ = ⊥

-- the same, or a reply with the change made
abbrev pub IsReplyOrMade : Row → Type 0
IsReplyOrMade (Reads r) = Unit {0}
IsReplyOrMade (Makes r) = Unit {0}
IsReplyOrMade Memory = Unit {0}
IsReplyOrMade _ = ⊥

-- the row that hands out what was found
abbrev pub handed_row : Result (Option (Found Tree)) NoRoom → Row
handed_row (Ok f) = Reads (Clauses f)
handed_row (Err e) = Memory
