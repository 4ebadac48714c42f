-- What a row says of the shared state, for each history after which the threads and queues are those that are held.
use Rattle.std.specs.Prelude.{◌≡◌, ℕ, List, [], ◌∷◌, ◌++◌, Some, None, Result, Ok, Err, true, false}
use Rattle.pl_term.specs.Tree.{Tree}
use Rattle.pl_term.specs.declared.memory.Memory.{Memory as NoMemory}
use Rattle.pl_model.specs.declared.threads.Name.{Name as SharedName}
use Rattle.pl_model.specs.declared.threads.Status.{Status}
use Rattle.pl_model.specs.declared.threads.Status.TheVariants.{Exception, Exited}
use Rattle.pl_model.specs.History.{Kind, History, begins, has_begun}
use Rattle.pl_model.specs.Requests.{Request}
use Rattle.atom_api.specs.Names.{Names}
use Rattle.atom_api.specs.declared.interned.Interned.{Interned}
use Rattle.atom_api.specs.declared.interned.Interned.TheVariants.{Is, Full, Again, TooLong}
use Rattle.atom_api.specs.declared.interned.Interned.TheVariants as interned
use Rattle.atom_words.specs.declared.view.View.{View}
use Rattle.hub_threads.specs.Held.{Held}
use Rattle.term_store.specs.NumberedNames.{names_of}
use Rattle.world_api.specs.declared.reply.Name.TheVariants.{Alias}
use Rattle.world_api.specs.declared.reply.Reply.{Reply}
use Rattle.world_api.specs.declared.reply.Reply.TheVariants.{Message, Named, Refused}
use Rattle.world_api.specs.Answers.{named_by}
use Rattle.world_api.specs.Texts.{text_of}
use Rattle.world_api.specs.declared.answer.On.TheVariants.{Queue, Thread}
use Rattle.counted_terms.specs.CountedTerms.{said}
use Rattle.counted_terms.specs.Rows.{Answers, WaitsOn}
use Rattle.counted_terms.specs.declared.row.Row.{Row}
use Rattle.counted_terms.specs.declared.row.Row.TheVariants.{Reads, Makes, Waits, NeedsAtoms, Retry, Worn, Memory}
use Rattle.hub_threads.specs.Threads.{IsThreads}

-- how many updates the row makes
abbrev pub updates_in : Row → ℕ
updates_in (Makes r) = 1
updates_in _ = 0

-- the row with an error, or that memory ran out
abbrev pub refusal : Result Tree NoMemory → Row
refusal (Ok e) = Reads (Refused e)
refusal (Err m) = Memory

-- the row with a message that was taken, and that with one that was lent, or that memory ran out
abbrev pub row_with : Tree → Row
row_with t = Makes (Message t)

abbrev pub row_of : Result Tree NoMemory → Row
row_of (Ok t) = Reads (Message t)
row_of (Err m) = Memory

-- the row that names the atom of an alias, or says why there is none
abbrev pub row_named : Interned → Row
row_named (Is a) = Reads (Named (Alias a))
row_named (Full p) = NeedsAtoms p
row_named (Again c) = Retry c
row_named (TooLong b) = Memory
row_named (interned.Worn w) = Worn w
row_named interned.Memory = Memory

-- the row refuses with the error that the texts say, or memory ran out
abbrev pub Refuses : Names → Tree → Row → Type 0
Refuses n error (Reads (Refused e)) = said n e ≡ error
Refuses n error Memory = Unit {0}
Refuses n error _ = ⊥

-- the row waits on a message of the queue of this name, or memory ran out
abbrev pub WaitsOnQueue : Names → SharedName → Row → Type 0
WaitsOnQueue m n (Waits (Queue x)) = named_by (text_of m) x ≡ n
WaitsOnQueue m n Memory = Unit {0}
WaitsOnQueue m n _ = ⊥

-- the row waits on the end of the thread of this name, or memory ran out
abbrev pub WaitsOnThread : Names → SharedName → Row → Type 0
WaitsOnThread m n (Waits (Thread x)) = named_by (text_of m) x ≡ n
WaitsOnThread m n Memory = Unit {0}
WaitsOnThread m n _ = ⊥

-- the atoms of the term of a status
abbrev pub status_names : Status Tree → List ℕ
status_names (Exception b) = names_of b
status_names (Exited t) = names_of t
status_names _ = []

-- The engine e is answered with the texts n of the atoms held; q and count are what is held afterwards, by the texts of the keeper with the view l.
module _ (l : View) (n : Names) (e : ℕ) (r : Request) (q : Held Tree) (count goals : ℕ) (h : History) where
  -- the update that was made is the one with which the state answers, and it begins no engine that had begun
  pub record Changed (reply : Reply Tree) : Type 0 where
    pub update : Kind
    pub answers : Answers goals e (text_of n) r h reply (Some update)
    pub stands : IsThreads l q count goals (h ++ record { engine = e; kind = update } ∷ [])
    pub fresh : (b : ℕ) → begins b update ≡ true → has_begun h b ≡ false

  -- WHAT A ROW SAYS: the reply and the update are those with which the state after the history answers the request, and what is held is the state afterwards
  abbrev pub Decides : Row → Type 0
  Decides (Reads reply) = Answers goals e (text_of n) r h reply None × IsThreads l q count goals h
  Decides (Makes reply) = Changed reply
  Decides (Waits on) = WaitsOn goals e (text_of n) r h on × IsThreads l q count goals h
  Decides _ = IsThreads l q count goals h
