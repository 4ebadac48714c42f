-- The names that the items of a file and the goals of a command have, and the requests that are made for them.
use Rattle.std.specs.Prelude.{◌≡◌, ◌⊎◌, ℕ, zero, List, [], ◌∷◌, ◌++◌, Option, Some, None, Ok, codes}
use Rattle.std.specs.List.{Contains}
use Rattle.pl_term.specs.Tree.{Chars, Tree}
use Rattle.pl_term.specs.Variables.{rename}
use Rattle.pl_model.specs.declared.grammar.Quotes.{Quotes}
use Rattle.pl_model.specs.OperatorTable.{OperatorTable}
use Rattle.pl_model.specs.History.{Clause as ClauseOf}
use Rattle.pl_model.specs.BodyChecks.{clause_of_term}
use Rattle.pl_model.specs.Requests.{Request, look, consult_clause, start_goal}
use Rattle.run_model.specs.Execution.{directive_of, goal_word, word_read}
use Rattle.pl_consult.specs.declared.consult.Consult.{Consult}
use Rattle.pl_consult.specs.Checks.{kept_clause}
use Rattle.pl_consult.specs.Taking.{IsReadAt}
use Rattle.world_api.specs.Told.{Told}
use Rattle.world_api.specs.Asked.{texts_in}
use Rattle.script_api.specs.Scripts.{IsReplied}
use Rattle.pl_consult.specs.declared.stage.Stage.{Stage}
use Rattle.pl_consult.specs.declared.stage.Stage.TheVariants.{Clause, Directive, Starts, Goal}

-- An item of the text is a clause with this term, as it is read from some place on, under some operators and with some value
-- of the flag double_quotes.
pub record IsItem (text : List ℕ) (t : Tree) : Type 0 where
  pub at : ℕ
  pub operators : OperatorTable
  pub quotes : Quotes
  pub read : IsReadAt text at operators quotes t

-- What a clause may have beside the names of its clause-term: a fact has the body true, and X in the place of a goal becomes
-- call(X) (ISO 7.6.1, 7.6.2). It is kept as one term Head :- Body.
abbrev pub clause_words : List Chars
clause_words = codes ":-" ∷ codes "true" ∷ codes "call" ∷ []

-- A name in an item of the text.
pub data IsItemText (text : List ℕ) (c : Chars) : Type 0 where
  named : (t : Tree) → IsItem text t → Contains (texts_in t) c → IsItemText text c
  added : (t : Tree) → IsItem text t → directive_of t ≡ None → Contains clause_words c → IsItemText text c

-- One of the words is read as this goal, under some operators and with some value of the flag double_quotes.
pub record IsWordGoal (words : List Chars) (t : Tree) : Type 0 where
  pub word : Chars
  pub among : Contains words word
  pub operators : OperatorTable
  pub quotes : Quotes
  pub names : List (Chars × ℕ)
  pub read : word_read operators quotes word ≡ goal_word t names

-- A name in a goal that one of the words is read as.
abbrev pub IsWordText : List Chars → Chars → Type 0
IsWordText words c = (t : Tree) × IsWordGoal words t × Contains (texts_in t) c

-- The names of goals of initialization/1, and of what is at hand.
abbrev pub later_texts : List (ℕ × Tree) → List Chars
later_texts [] = []
later_texts (g ∷ gs) = texts_in g.1 ++ later_texts gs

abbrev pub first_texts : Option Tree → List Chars
first_texts None = []
first_texts (Some t) = texts_in t

abbrev pub stage_texts : Stage → List Chars
stage_texts (Clause t place ops) = texts_in t
stage_texts (Directive goal place) = texts_in goal
stage_texts (Starts ops first goals at) = first_texts first ++ later_texts goals.items
stage_texts (Goal goal) = texts_in goal
stage_texts stage = []

-- A name in an item of the file, or in the goal of one of these words; or in a goal of initialization/1 that was not run yet, or in what
-- is at hand, which were read before.
pub data IsOwnText (file : Consult) (words : List Chars) (stage : Stage) (c : Chars) : Type 0 where
  of_item : IsItemText file.text.items c → IsOwnText file words stage c
  of_word : IsWordText words c → IsOwnText file words stage c
  of_later : Contains (later_texts file.later.items) c → IsOwnText file words stage c
  at_hand : Contains (stage_texts stage) c → IsOwnText file words stage c

-- The clause that is at hand.
abbrev pub clause_at : Stage → Option Tree
clause_at (Clause t place ops) = Some t
clause_at stage = None

-- A look, or the adding of the clause of an item of the text.
pub data IsFileRequest (text : List ℕ) (q : Request) : Type 0 where
  looks : q ≡ look → IsFileRequest text q
  adds : (t : Tree) (k : ClauseOf) → IsItem text t → directive_of t ≡ None → clause_of_term t ≡ Ok k → q ≡ consult_clause k → IsFileRequest text q

-- The goal of one of the words begins as an engine of its own.
pub record IsStartRequest (words : List Chars) (q : Request) : Type 0 where
  pub number : ℕ
  pub goal : Tree
  pub is_goal : IsWordGoal words goal
  pub is : q ≡ start_goal number goal

-- The goals that are to begin so.
abbrev pub goals_at : Stage → List (ℕ × Tree)
goals_at (Starts ops first goals at) = goals.items
goals_at stage = []

-- Such a request, or the adding of the clause that is at hand, or the start of a goal that is.
pub data IsOwnRequest (file : Consult) (words : List Chars) (stage : Stage) (q : Request) : Type 0 where
  of_file : IsFileRequest file.text.items q → IsOwnRequest file words stage q
  of_start : IsStartRequest words q → IsOwnRequest file words stage q
  clause_at_hand : (t : Tree) → clause_at stage ≡ Some t → q ≡ consult_clause (kept_clause (rename zero t)) → IsOwnRequest file words stage q
  start_at_hand : (g : ℕ × Tree) → Contains (goals_at stage) g → q ≡ start_goal g.0 g.1 → IsOwnRequest file words stage q

-- What a step may intern.
abbrev pub MayIntern : Consult → List Chars → Stage → Told → Chars → Type 0
MayIntern file words stage t c = IsOwnText file words stage c ⊎ IsReplied (IsOwnRequest file words stage) t c

-- What the start of a goal may intern.
abbrev pub MayStart : ℕ → Tree → Told → Chars → Type 0
MayStart n g t c = Contains (texts_in g) c ⊎ IsReplied (λ (q : Request). q ≡ start_goal n g) t c

-- The names and the requests are among those of before.
pub record Narrows (words : List Chars) (c : Consult) (stage : Stage) (d : Consult) (then : Stage) : Type 0 where
  pub texts : (x : Chars) → IsOwnText d words then x → IsOwnText c words stage x
  pub requests : (q : Request) → IsOwnRequest d words then q → IsOwnRequest c words stage q
