-- What an answer says of the shared state before and after.
use Rattle.std.specs.Prelude.{◌≡◌, ℕ, List, [], ◌∷◌, ◌++◌, length, Option, Some, true}
use Rattle.std.specs.List.{Contains}
use Rattle.pl_term.specs.Tree.{Chars, Tree}
use Rattle.pl_model.specs.History.{Kind, History}
use Rattle.pl_model.specs.declared.threads.On.{On as SharedOn}
use Rattle.pl_model.specs.declared.threads.On.TheVariants.{Queue as SharedQueue, Thread as SharedThread}
use Rattle.pl_model.specs.declared.threads.Name.{Name as SharedName}
use Rattle.pl_model.specs.declared.threads.Name.TheVariants.{Number as SharedNumber, Alias as SharedAlias}
use Rattle.pl_model.specs.Service.{on_of, answers, waits, entry_by, served_now}
use Rattle.pl_model.specs.Requests.{Request}
use Rattle.pl_model.specs.Requests as requests
use Rattle.atom_words.specs.declared.view.Refusal.{Refusal}
use Rattle.atom_words.specs.declared.view.Refusal.TheVariants.{Full as RefusalFull, Again as RefusalAgain, Worn as RefusalWorn}
use Rattle.world_api.specs.declared.visit.Procedure.{Procedure}
use Rattle.world_api.specs.declared.visit.Visit.{Visit}
use Rattle.world_api.specs.declared.visit.Visit.TheVariants.{Next}
use Rattle.world_api.specs.declared.reply.Reply.{Reply}
use Rattle.world_api.specs.declared.reply.Found.{Found}
use Rattle.world_api.specs.declared.reply.Reply.TheVariants.{Clauses}
use Rattle.world_api.specs.declared.reply.Name.{Name}
use Rattle.world_api.specs.declared.reply.Name.TheVariants.{Number, Alias}
use Rattle.world_api.specs.declared.answer.On.{On}
use Rattle.world_api.specs.declared.answer.On.TheVariants.{Queue, Thread}
use Rattle.world_api.specs.declared.answer.Answer.{Answer}
use Rattle.world_api.specs.declared.answer.Answer.TheVariants.{Served, Waits, NeedsAtoms, Retry, Worn, Memory}
use Rattle.world_api.specs.Told.{Told, Follows, clause_list, behind, has_place}
use Rattle.world_api.specs.Visits.{IsGoal, Asks}
use Rattle.world_api.specs.Replies.{IsFront, Says, Suits, reply_names}

-- The refusals of atoms that an answer hands on.
abbrev pub refusals_by : {T : Type 0} → Answer T → List Refusal
refusals_by (Served r g) = []
refusals_by (Waits on g) = []
refusals_by (NeedsAtoms p) = RefusalFull p ∷ []
refusals_by (Retry c) = RefusalAgain c ∷ []
refusals_by (Worn w) = RefusalWorn w ∷ []
refusals_by Memory = []

abbrev pub named_by : (ℕ → Chars) → Name → SharedName
named_by text (Number n) = SharedNumber n
named_by text (Alias a) = SharedAlias (text a)

-- What is waited on, by its text.
abbrev pub on_by : (ℕ → Chars) → On → SharedOn
on_by text (Queue x) = SharedQueue (named_by text x)
on_by text (Thread x) = SharedThread (named_by text x)

abbrev pub alias_names : Name → List ℕ
alias_names (Number n) = []
alias_names (Alias a) = a ∷ []

abbrev pub on_names : On → List ℕ
on_names (Queue x) = alias_names x
on_names (Thread x) = alias_names x

-- The atoms that an answer names.
abbrev pub answer_names : {T : Type 0} → (T → List ℕ) → Answer T → List ℕ
answer_names names (Served r g) = reply_names names r
answer_names names (Waits on g) = on_names on
answer_names names _ = []

-- All but what the engine has seen and asked stays.
abbrev pub seen_as : Told → History → List ℕ → Told
seen_as t h gens = record t { history = h; gens = gens }

module _ {T K : Type 0} (term : (ℕ → Chars) → T → Tree) (key : T → K) where
  -- A clause of the list of a goal at a generation of the engine's own.
  pub record IsPlace (text : ℕ → Chars) (p : Procedure) (k : K) (g place : ℕ) (t : Told) : Type 0 where
    pub own : Contains t.gens g
    pub goal : Tree
    pub asked : IsGoal term key text p k goal
    pub among : has_place place (clause_list t.goals t.history g goal) ≡ true

  -- A list goes on after one of its clauses.
  abbrev pub CanVisit : (ℕ → Chars) → Visit T K → Told → Type 0
  CanVisit text (Next p k g place) t = IsPlace text p k g place t
  CanVisit text v t = Unit {0}

  -- The visit stood after all entries `before`; what it asks for is answered so there, by a reply of its kind, and the history
  -- gained the update.
  pub record IsServed (old_text new_text : ℕ → Chars) (v : Visit T K) (r : Reply T) (g : ℕ) (old : Told) (before : History) (new : Told) : Type 0 where
    pub generation : g ≡ length before
    pub update : Option Kind
    pub serves :
        (q : Request)
        → Asks term key old_text v q
        → (reply : requests.Reply)
        × (served_now old.engine old.goals before q ≡ answers reply update)
        × Says term new_text r reply
    pub suits : Suits v r
    pub told : new ≡ seen_as old (before ++ entry_by old.engine update) (old.gens ++ length before ∷ [])

  -- The next clause of the list of a goal at a generation. The engine has seen all entries, and no more has changed.
  pub record IsNext (old_text new_text : ℕ → Chars) (p : Procedure) (k : K) (h place : ℕ) (r : Reply T) (g : ℕ) (old : Told) (before : History) (new : Told) : Type 0 where
    pub generation : g ≡ h
    pub front :
        (goal : Tree)
        → IsGoal term key old_text p k goal
        → (f : Option (Found T)) × (r ≡ Clauses f) × IsFront term new_text f (behind place (clause_list old.goals before h goal))
    pub told : new ≡ seen_as old before old.gens

  abbrev pub Serves : (ℕ → Chars) → (ℕ → Chars) → Visit T K → Reply T → ℕ → Told → History → Told → Type 0
  Serves old_text new_text (Next p k h place) r g old before new = IsNext old_text new_text p k h place r g old before new
  Serves old_text new_text v r g old before new = IsServed old_text new_text v r g old before new

  -- What the visit asks for waits there, on this.
  pub record IsWaiting (text new_text : ℕ → Chars) (v : Visit T K) (on : On) (g : ℕ) (old : Told) (before : History) (new : Told) : Type 0 where
    pub generation : g ≡ length before
    pub request : Request
    pub asks : Asks term key text v request
    pub waiting : (q : Request) → Asks term key text v q → served_now old.engine old.goals before q ≡ waits
    pub awaits : (q : Request) → Asks term key text v q → on_of old.engine q ≡ Some (on_by new_text on)
    pub told : new ≡ seen_as old before old.gens

  -- The entries before the visit are those that the engine had seen and others that came meanwhile. A visit that is refused
  -- changes nothing.
  abbrev pub Visited : (ℕ → Chars) → (ℕ → Chars) → Visit T K → Answer T → Told → History → Told → Type 0
  Visited old_text new_text v (Served r g) old before new =
      Follows old.engine old.history before × Serves old_text new_text v r g old before new
  Visited old_text new_text v (Waits on g) old before new =
      Follows old.engine old.history before × IsWaiting old_text new_text v on g old before new
  Visited old_text new_text v (NeedsAtoms p) old before new = new ≡ old
  Visited old_text new_text v (Retry c) old before new = new ≡ old
  Visited old_text new_text v (Worn w) old before new = new ≡ old
  Visited old_text new_text v Memory old before new = new ≡ old
