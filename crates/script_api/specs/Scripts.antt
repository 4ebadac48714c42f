-- Scripts: how an execution comes to its next item.
use Rattle.std.specs.Prelude.{◌≡◌, ℕ, List, [], ◌∷◌, ◌++◌, Bool, true, false, ◌||◌, Option, Some, None, encode_utf8_all}
use Rattle.pl_term.specs.Tree.{Chars, Tree}
use Rattle.pl_model.specs.History.{History}
use Rattle.pl_model.specs.Requests.{Request}
use Rattle.pl_model.specs.Resolution.{Ending, solved, halted, ended, Output, State}
use Rattle.pl_model.specs.Control.{start}
use Rattle.run_model.specs.Execution.{Script, Word, goal_word, faulty_word, Job, Consulted, wrote, Activity, directing, over, Execution, texts_of}
use Rattle.run_model.specs.Lawful.{EndsSo}
use Rattle.run_model.specs.Report.{all_consulted}
use Rattle.atom_words.specs.declared.view.Refusal.{Refusal}
use Rattle.atom_words.specs.declared.view.Refusal.TheVariants.{Full as RefusalFull, Again as RefusalAgain, Worn as RefusalWorn}
use Rattle.pl_model.specs.declared.ends.How.{How}
use Rattle.script_api.specs.declared.script.Next.{Next}
use Rattle.script_api.specs.declared.script.Next.TheVariants.{Item, Done, NeedsAtoms, Retry, Worn, Memory}
use Rattle.world_api.specs.Told.{Told}
use Rattle.world_api.specs.Asked.{IsInReply}
use Rattle.script_api.specs.Comes.{ComesIn, ComesBy}
use Rattle.script_api.specs.Parts.{Part, of_goal, of_directive, limits_of, with_search}

abbrev pub next_refusals : {T : Type 0} → Next T → List Refusal
next_refusals (Item t d) = []
next_refusals (Done h) = []
next_refusals (NeedsAtoms p) = RefusalFull p ∷ []
next_refusals (Retry c) = RefusalAgain c ∷ []
next_refusals (Worn w) = RefusalWorn w ∷ []
next_refusals Memory = []

abbrev pub is_done : {T : Type 0} → Next T → Bool
is_done (Done h) = true
is_done _ = false

-- The atoms that an item names.
abbrev pub next_names : {T : Type 0} → (T → List ℕ) → Next T → List ℕ
next_names names (Item t d) = names t
next_names names _ = []

-- An item at hand has ended, or there is none.
abbrev pub IsAsked : {A B : Type 0} → Option A → Option B → Type 0
IsAsked None None = Unit {0}
IsAsked (Some a) (Some b) = Unit {0}
IsAsked _ _ = ⊥

abbrev pub is_directive : Part → Bool
is_directive of_goal = false
is_directive (of_directive place rest) = true

-- The item that was given is at hand then, and where none was given there is none. After running out of memory nothing is said.
abbrev pub IsAtHand : {T : Type 0} → Next T → Option Part → Type 0
IsAtHand (Item t d) None = ⊥
IsAtHand (Item t d) (Some p) = is_directive p ≡ d
IsAtHand Memory o = Unit {0}
IsAtHand _ o = o ≡ None

-- After the goal there is no further item.
abbrev pub IsLast : {T : Type 0} → Option Part → Next T → Type 0
IsLast (Some of_goal) (Done None) = Unit {0}
IsLast (Some of_goal) Memory = Unit {0}
IsLast (Some of_goal) _ = ⊥
IsLast _ next = Unit {0}

-- What is written of the file, with the texts of a directive that has not been reported.
abbrev pub texts_at : Activity → List Consulted
texts_at (directing place rest s) = texts_of s.output
texts_at _ = []

abbrev pub written_at : Execution → List Consulted
written_at x = x.consulted ++ texts_at x.activity

-- How the engine ends after its last item, and what its goal has written: a directive has halted, or the search of the
-- goal has ended, or there was no goal.
abbrev pub LeavesOff : Option ℕ → Option Part → Option State → Ending → List Output → Type 0
LeavesOff (Some n) part searched ending os = (ending ≡ halted n) × (os ≡ [])
LeavesOff None (Some of_goal) (Some r) ending os = (r.doing ≡ ended ending) × (os ≡ r.output)
LeavesOff None part searched ending os = (ending ≡ solved) × (os ≡ [])

-- Whether a line of the file is one of a fault, and whether one of these lines is.
abbrev pub is_fault : Consulted → Bool
is_fault (wrote t) = false
is_fault c = true

abbrev pub some_fault : List Consulted → Bool
some_fault [] = false
some_fault (c ∷ cs) = is_fault c || some_fault cs

-- It is told so. After running out of memory nothing is said.
abbrev pub IsKept : {T : Type 0} → Next T → Bool → List Consulted → Type 0
IsKept Memory b cs = Unit {0}
IsKept next b cs = some_fault cs ≡ b

-- The text of the file of this name has these lines. After running out of memory it may have a part of a line.
abbrev pub IsWritten : {T : Type 0} → Next T → Chars → List Consulted → List ℕ → Type 0
IsWritten Memory name cs bytes = Unit {0}
IsWritten next name cs bytes = bytes ≡ encode_utf8_all (all_consulted name [] cs)

-- The execution comes to the other one, and the moves were counted, unless memory was exhausted.
abbrev pub CameBy : {T : Type 0} → Next T → Job → Execution → Told → ℕ → Execution → Told → ℕ → Type 0
CameBy Memory job x t before y u after = (n : ℕ) × ComesIn job n x t y u
CameBy next job x t before y u after = ComesBy job x t before y u after

-- These are the names of the variables of the first goal word, with their numbers.
abbrev pub AreNames : List (Chars × ℕ) → List Word → Type 0
AreNames names [] = names ≡ []
AreNames names (goal_word t own ∷ ws) = names ≡ own
AreNames names (faulty_word kind at ∷ ws) = names ≡ []

-- The same engine among as many goals, and the history has gone on.
pub record IsLater (t u : Told) : Type 0 where
  pub engine : u.engine ≡ t.engine
  pub goals : u.goals ≡ t.goals
  pub later : History
  pub grown : u.history ≡ t.history ++ later

-- The text is one of what is handed of the reply to one of these requests, after what the engine had seen and what came
-- since.
pub record IsReplied (asks : Request → Type 0) (t : Told) (c : Chars) : Type 0 where
  pub before : History
  pub later : History
  pub follows : before ≡ t.history ++ later
  pub request : Request
  pub is : asks request
  pub stands : IsInReply t before request c

module _ {S T : Type 0} (execution : (ℕ → Chars) → S → Job → List Consulted → Execution) (part : S → Option Part) (term : (ℕ → Chars) → T → Tree) where
  -- The execution as the next item is asked for, and where the search of the item at hand has come to.
  abbrev pub StandsBefore : (ℕ → Chars) → S → Job → Option Part → Option (How Tree) → Option State → List Consulted → Execution → Type 0
  StandsBefore text s job None None searched cs x = x ≡ execution text s job cs
  StandsBefore text s job (Some p) (Some how) (Some r) cs x =
      (ending : Ending) × (r.doing ≡ ended ending) × EndsSo ending how × (x ≡ with_search (execution text s job cs) p r)
  StandsBefore text s job _ _ _ cs x = ⊥

  -- The execution as the next item is given, or as there is none, or as it stays at hand.
  abbrev pub StandsAfter : (ℕ → Chars) → S → Job → Option Part → Option State → Next T → List Consulted → Execution → Type 0
  StandsAfter text s job was searched (Item t directive) cs y =
      (p : Part) × (part s ≡ Some p) × (is_directive p ≡ directive)
      × (y ≡ with_search (execution text s job cs) p (start (limits_of job p) (term text t)))
  StandsAfter text s job was searched (Done h) cs y =
      (ending : Ending) × (os : List Output)
      × LeavesOff h was searched ending os
      × (y ≡ record (execution text s job cs) { activity = over ending; output = os })
  StandsAfter text s job was searched Memory cs y = Unit {0}
  StandsAfter text s job was searched _ cs y = (part s ≡ None) × (y ≡ execution text s job cs)

  -- Whatever execution of this script it is, it comes from the one to the other in so many moves as were counted, and the text
  -- of the file with it, and what is told of the faults in it.
  abbrev pub Given : ((ℕ → Chars) → S → Script → Type 0) → (S → Bool) → Chars → (ℕ → Chars) → (ℕ → Chars) → S → Option (How Tree) → Told → ℕ → List ℕ → Next T → S → Told → ℕ → List ℕ → Type 0
  Given plays kept name old_text new_text old how t before bytes next new u after more =
      (job : Job) (cs : List Consulted) (searched : Option State) (x : Execution)
      → plays old_text old job.script
      → StandsBefore old_text old job (part old) how searched cs x
      → bytes ≡ encode_utf8_all (all_consulted name [] (written_at x))
      → some_fault (written_at x) ≡ kept old
      → (ds : List Consulted) × (y : Execution)
      × CameBy next job x t before y u after
      × StandsAfter new_text new job (part old) searched next ds y
      × plays new_text new job.script
      × IsWritten next name ds more
      × IsKept next (kept new) ds
