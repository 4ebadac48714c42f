-- The step on the history that follows the answer of a part of the shared state.
use Rattle.std.specs.Prelude.{◌≡◌, ◌<◌, ◌^◌, ℕ, Result, Ok, Err, [], ◌∷◌, ◌++◌, true, false, Option, Some, None, length}
use mathlib.Core.List.{IsPrefix}
use Rattle.pl_term.specs.Tree.{Chars, Tree}
use Rattle.pl_term.specs.declared.memory.Memory.{Memory as NoMemory}
use Rattle.pl_model.specs.History.{Entry, History, Kind, begins, erase, has_begun, is_end}
use Rattle.pl_model.specs.Requests.{Request}
use Rattle.pl_model.specs.Service.{served_now, update_of}
use Rattle.pl_history.specs.Fronts.{AllTold, FrontState, begun_by, gains, visited}
use Rattle.world_api.specs.declared.reply.Found.{Found}
use Rattle.world_api.specs.declared.reply.Reply.TheVariants.{Clauses}
use Rattle.world_api.specs.declared.answer.Answer.{Answer}
use Rattle.world_api.specs.declared.answer.Answer.TheVariants as given
use Rattle.counted_terms.specs.declared.row.Row.{Row}
use Rattle.counted_terms.specs.declared.row.Row.TheVariants.{Reads, Makes, Waits, NeedsAtoms, Retry, Worn, Memory}
use Rattle.counted_terms.specs.Rows.{Answers, WaitsOn}

-- the update, or any where there is none
abbrev pub kind_or_any : Option Kind → Kind
kind_or_any None = erase 0
kind_or_any (Some k) = k

-- THE UPDATE WITH WHICH THE STATE AFTER THE HISTORY ANSWERS the request, where there is one
abbrev pub kind_of : ℕ → ℕ → History → Request → Kind
kind_of e goals h q = kind_or_any (update_of (served_now e goals h q))

abbrev pub entry : ℕ → Kind → Entry
entry e k = record { engine = e; kind = k }

-- what is answered after a row, at the generation
abbrev pub answer_of : Row → ℕ → Answer Tree
answer_of (Reads r) g = given.Served r g
answer_of (Makes r) g = given.Served r g
answer_of (Waits on) g = given.Waits on g
answer_of (NeedsAtoms p) g = given.NeedsAtoms p
answer_of (Retry c) g = given.Retry c
answer_of (Worn w) g = given.Worn w
answer_of Memory g = given.Memory

-- THE HUB'S FRONT AFTER A ROW: the history has gained the entry, where an update was made, and the engine that it begins is the hub's
abbrev pub hub_after : ℕ → Kind → Row → FrontState → FrontState
hub_after e k (Makes r) f = record f { seen = f.seen ++ entry e k ∷ []; lives = f.lives ++ begun_by k }
hub_after e k _ f = f

-- THE ENGINE'S FRONT AFTER A ROW on the history h: it has seen it, with the entry where there is one, and its engine has gained the generation where the row has a reply
abbrev pub front_after : ℕ → Kind → Row → History → FrontState → FrontState
front_after e k (Reads r) h f = record f { seen = h; lives = visited (length h) f.lives }
front_after e k (Makes r) h f = record f { seen = h ++ entry e k ∷ []; lives = gains (entry e k) (length h) f.lives }
front_after e k (Waits on) h f = record f { seen = h }
front_after e k _ h f = f

-- an update can be made that is no engine's end
pub record CanMake (k : Kind) (h : History) : Type 0 where
  pub plain : is_end k ≡ false
  pub new : (b : ℕ) → begins b k ≡ true → has_begun h b ≡ false
  pub early : length h < 2 ^ 47

abbrev pub CanSettle : Kind → History → Row → Type 0
CanSettle k h (Makes r) = CanMake k h
CanSettle k h _ = Unit {0}

-- what the front had seen is a beginning of the history, which tells of its engines
pub record IsBehind (h : History) (f : FrontState) : Type 0 where
  pub seen : IsPrefix f.seen h
  pub told : AllTold h f.lives

-- so it is told where there was a step
abbrev pub Sees : History → FrontState → Row → Type 0
Sees h f (Reads r) = IsBehind h f
Sees h f (Makes r) = IsBehind h f
Sees h f (Waits on) = IsBehind h f
Sees h f _ = Unit {0}

-- WHAT A ROW SAYS of the request after the history, by the texts that are held; an update that it makes is this one
module _ (goals e : ℕ) (text : ℕ → Chars) (q : Request) (h : History) (k : Kind) where
  abbrev pub Meets : Row → Type 0
  Meets (Reads r) = Answers goals e text q h r None
  Meets (Makes r) = Answers goals e text q h r (Some k)
  Meets (Waits on) = WaitsOn goals e text q h on
  Meets _ = Unit {0}

-- THE NEXT CLAUSE of a list: what is answered, and the engine's front, which has seen the history then, and whose engine gains nothing
abbrev pub next_answer : ℕ → Result (Option (Found Tree)) NoMemory → Answer Tree
next_answer g (Ok f) = given.Served (Clauses f) g
next_answer g (Err m) = given.Memory

abbrev pub next_front : Result (Option (Found Tree)) NoMemory → History → FrontState → FrontState
next_front (Ok f) h front = record front { seen = h }
next_front (Err m) h front = front
