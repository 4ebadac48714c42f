-- The text that a run writes: a section for the file, one for each goal of the command, and one for each thread that has
-- something to show, from the states in which the engines stand at the end and from the ends in the history.
use Rattle.std.specs.Prelude.{◌≡◌, ℕ, zero, suc, List, [], ◌∷◌, ◌++◌, map, filter, length, get_or, Bool, false, not, ◌==◌, Option, Some, None, Contains, codes, decimal, if◌then◌else◌}
use Rattle.std.proofs.Common.{inl, inr}
use Rattle.pl_term.specs.Tree.{Chars, Tree, atom}
use Rattle.pl_model.specs.declared.ends.How.{How}
use Rattle.pl_model.specs.declared.ends.How.TheVariants.{Solved, False, Threw, Exited, Halted, AtomSpace}
use Rattle.pl_model.specs.declared.syntax.SyntaxKind.{SyntaxKind}
use Rattle.pl_model.specs.declared.syntax.SyntaxKind.TheVariants.{BadUtf8, BadEscape, OpenQuote, OpenComment, IntegerTooLarge, FloatNumeral, LoneCharacter, UnexpectedToken, PriorityClash, UnexpectedEnd, AtomTooLong, AfterEnd}
use Rattle.pl_model.specs.Characters.{is_symbol}
use Rattle.pl_model.specs.OperatorTable.{OperatorTable}
use Rattle.pl_model.specs.TermWriting.{writeq}
use Rattle.pl_model.specs.Grammar.{Item, clause, fault, end_of_text}
use Rattle.pl_model.specs.TermGrammar.{item_of}
use Rattle.pl_model.specs.History.{History, finish}
use Rattle.pl_model.specs.SharedState.{SharedState, state_at}
use Rattle.pl_model.specs.Resolution.{Output, text, solution}
use Rattle.run_model.specs.Execution.{Job, Word, goal_word, faulty_word, Consulted, wrote, too_large, syntax_fault, ball_of_item, directive_failed, directive_halted, Activity, taking, adding, directing, reporting, initializing, searching, Refusal, Execution, texts_of, word_read}
use Rattle.run_model.specs.Lawful.{Program, Told, Beginning, beginnings, engine_numbers, is_goal_number, generations_of, run, IsDone, main_job, started_job}

-- Ends

-- How the engine has ended, where it has: an engine that has begun and not ended waits.
abbrev pub end_in : History → ℕ → Option (How Tree)
end_in [] e = None
end_in (x ∷ xs) e =
    if x.engine == e then elim x.kind [ finish how n ↦ Some how | _ ↦ end_in xs e ] else end_in xs e

-- The place of an engine's end in a history that begins at the place `k`, or the place after all updates.
abbrev pub end_place : ℕ → History → ℕ → ℕ
end_place e [] k = k
end_place e (x ∷ xs) k =
    if x.engine == e then elim x.kind [ finish how n ↦ k | _ ↦ end_place e xs (suc k) ] else end_place e xs (suc k)

-- The shared state at the engine's end, and the operators.
abbrev pub end_state : Program → Told → ℕ → SharedState
end_state p told e = state_at (length p.words) told.history (end_place e told.history zero)

abbrev pub end_operators : Program → Told → ℕ → OperatorTable
end_operators p told e = (end_state p told e).operators

-- Lines

abbrev pub newline : Chars
newline = 10 ∷ []

abbrev pub last_of : ℕ → Chars → ℕ
last_of c [] = c
last_of c (d ∷ ds) = last_of d ds

-- Whether the text is not empty and does not end with a newline.
abbrev pub is_open : Chars → Bool
is_open [] = false
is_open (c ∷ cs) = not (last_of c cs == 10)

abbrev pub closed : Chars → Chars
closed t = if is_open t then t ++ newline else t

-- The text with one more line of the program's own.
abbrev pub with_line : Chars → Chars → Chars
with_line t line = closed t ++ (line ++ newline)

-- Whether the text ends in a symbol character, which would run together with a full stop.
abbrev pub ends_in_symbol : Chars → Bool
ends_in_symbol [] = false
ends_in_symbol (c ∷ cs) = is_symbol (last_of c cs)

abbrev pub stopped : Chars → Chars
stopped t = if ends_in_symbol t then t ++ codes " ." else t ++ codes "."

-- The file

abbrev pub kind_text : SyntaxKind → Chars
kind_text BadUtf8 = codes "bad_utf8"
kind_text BadEscape = codes "bad_escape"
kind_text OpenQuote = codes "open_quote"
kind_text OpenComment = codes "open_comment"
kind_text IntegerTooLarge = codes "integer_too_large"
kind_text FloatNumeral = codes "float_numeral"
kind_text LoneCharacter = codes "lone_character"
kind_text UnexpectedToken = codes "unexpected_token"
kind_text PriorityClash = codes "priority_clash"
kind_text UnexpectedEnd = codes "unexpected_end"
kind_text AtomTooLong = codes "atom_too_long"
kind_text AfterEnd = codes "after_end"

-- NAME:AT: TEXT, of the item at this place of the file
abbrev pub item_line : Chars → ℕ → Chars → Chars
item_line name at t = name ++ (codes ":" ++ (decimal at ++ (codes ": " ++ t)))

abbrev pub halted_text : ℕ → Chars
halted_text n = codes "halt(" ++ (decimal n ++ codes ")")

abbrev pub no_atoms_text : Chars
no_atoms_text = codes "resource_error(atom_space)"

abbrev pub with_consulted : Chars → Chars → Consulted → Chars
with_consulted name t (wrote u) = t ++ u
with_consulted name t too_large = with_line t (name ++ codes ": too large")
with_consulted name t (syntax_fault kind at) = with_line t (item_line name at (codes "syntax error: " ++ kind_text kind))
with_consulted name t (ball_of_item ops at ball) = with_line t (item_line name at (writeq ops 1200 ball))
with_consulted name t (directive_failed at) = with_line t (item_line name at (codes "directive failed"))
with_consulted name t (directive_halted at n) = with_line t (item_line name at (halted_text n))

abbrev pub all_consulted : Chars → Chars → List Consulted → Chars
all_consulted name t [] = t
all_consulted name t (c ∷ cs) = all_consulted name (with_consulted name t c) cs

-- A directive that has not ended waits.
abbrev pub with_directive : Chars → Chars → Activity → Chars
with_directive name t (directing at rest s) = with_line (all_consulted name t (texts_of s.output)) (item_line name at (codes "waiting"))
with_directive name t _ = t

-- The place of the next goal of initialization/1, where there is one.
abbrev pub place_of_goal : List (ℕ × Tree) → Option ℕ
place_of_goal [] = None
place_of_goal (g ∷ gs) = Some g.0

-- The place of an item: of its first token, or of its fault. After the last item these goals follow.
abbrev pub place_of_item : List (ℕ × Tree) → Item → Option ℕ
place_of_item later (clause t names place next) = Some place
place_of_item later (fault kind place) = Some place
place_of_item later end_of_text = place_of_goal later

-- The place of the item that was taken up last and is not done, or of the next goal of initialization/1, in this shared
-- state. None is there where all are done.
abbrev pub place_at_hand : List ℕ → SharedState → Execution → Activity → Option ℕ
place_at_hand bytes s x (taking at) = place_of_item x.later (item_of bytes at s.operators s.flags.double_quotes)
place_at_hand bytes s x (adding ops place next c) = Some place
place_at_hand bytes s x (directing place rest d) = Some place
place_at_hand bytes s x (reporting place rest how) = Some place
place_at_hand bytes s x initializing = place_of_goal x.later
place_at_hand bytes s x _ = None

abbrev pub output_of_directive : Activity → List Output
output_of_directive (directing place rest s) = s.output
output_of_directive _ = []

-- The item for which there was no place for an atom.
abbrev pub with_unplaced : Chars → Chars → Activity → Option ℕ → Chars
with_unplaced name t a None = t
with_unplaced name t a (Some at) =
    with_line (all_consulted name t (texts_of (output_of_directive a))) (item_line name at no_atoms_text)

-- Where the first engine has not come to its goal: it waits in a directive, or it found no place for an atom.
abbrev pub with_stop : Chars → Chars → Activity → Option ℕ → Option (How Tree) → Chars
with_stop name t a place None = with_directive name t a
with_stop name t a place (Some (AtomSpace found)) = with_unplaced name t a place
with_stop name t a place (Some how) = t

abbrev pub consult_text : Chars → Execution → Option ℕ → Option (How Tree) → Chars
consult_text name x place end = with_stop name (all_consulted name [] x.consulted) x.activity place end

-- The place at hand where the first engine stands in this execution at the end.
abbrev pub place_of_main : Program → Told → Execution → Option ℕ
place_of_main p told x = place_at_hand p.bytes (end_state p told 1) x x.activity

abbrev pub consult_section : Chars → Program → Told → Execution → Chars
consult_section name p told x = closed (consult_text name x (place_of_main p told x) (end_in told.history 1))

-- Goals

-- The variables that are shown: those with a name that does not begin with an underscore.
abbrev pub is_shown : Chars × ℕ → Bool
is_shown n = elim n.0 [ [] ↦ false | c ∷ cs ↦ not (c == 95) ]

abbrev pub binding_text : OperatorTable → List Tree → Chars × ℕ → Chars
binding_text ops ts n = n.0 ++ (codes " = " ++ writeq ops 699 (get_or ts n.1 (atom [])))

abbrev pub with_commas : List Chars → Chars
with_commas [] = []
with_commas (b ∷ []) = b
with_commas (b ∷ (c ∷ cs)) = b ++ (codes ", " ++ with_commas (c ∷ cs))

abbrev pub solution_text : List Chars → Chars
solution_text [] = codes "true."
solution_text (b ∷ bs) = stopped (with_commas (b ∷ bs))

abbrev pub solution_line : List (Chars × ℕ) → OperatorTable → List Tree → Chars
solution_line names ops ts = solution_text (map (binding_text ops ts) (filter is_shown names))

-- What the goal wrote and its solutions, in the order of the run.
abbrev pub with_output : List (Chars × ℕ) → Chars → List Output → Chars
with_output names t [] = t
with_output names t (o ∷ os) =
    elim o [
      | text u ↦ with_output names (t ++ u) os
      | solution ops ts ↦ with_output names (with_line t (solution_line names ops ts)) os
    ]

abbrev pub no_atoms_line : Chars
no_atoms_line = codes "error: " ++ (no_atoms_text ++ codes ".")

-- The last line. A ball is written under the operators at the engine's end.
abbrev pub with_end : OperatorTable → Chars → How Tree → Chars
with_end ops t Solved = t
with_end ops t False = with_line t (codes "false.")
with_end ops t (Threw b) = with_line t (stopped (codes "error: " ++ writeq ops 1200 b))
with_end ops t (Exited u) = t
with_end ops t (Halted n) = with_line t (halted_text n ++ codes ".")
with_end ops t (AtomSpace found) = with_line t no_atoms_line

abbrev pub goal_line : Chars → Chars
goal_line word = stopped (codes "?- " ++ word) ++ newline

-- What the goal of an engine has written that stands so at the end of a run.
abbrev pub output_by : List Output → Activity → List Output
output_by os (searching s) = s.output
output_by os _ = os

abbrev pub output_of : Execution → List Output
output_of x = output_by x.output x.activity

abbrev pub with_last : OperatorTable → Chars → Option (How Tree) → Chars
with_last ops t None = with_line t (codes "waiting.")
with_last ops t (Some how) = with_end ops t how

abbrev pub goal_text : OperatorTable → List (Chars × ℕ) → Execution → Option (How Tree) → Chars
goal_text ops names x end = closed (with_last ops (with_output names [] (output_of x)) end)

abbrev pub refused_text : Refusal → Chars
refused_text r = with_line [] (stopped (codes "error: " ++ writeq r.operators 1200 r.ball))

abbrev pub fault_text : SyntaxKind → ℕ → Chars
fault_text kind at =
    with_line [] (codes "syntax error: " ++ (kind_text kind ++ (codes " at " ++ (decimal at ++ codes "."))))

-- The engines with the states in which they stand at the end.
abbrev pub Finals : Type 0
Finals = List (ℕ × Execution)

abbrev pub final_of : Finals → ℕ → Option Execution
final_of [] e = None
final_of (p ∷ ps) e = if p.0 == e then Some p.1 else final_of ps e

abbrev pub refusal_of : List Refusal → ℕ → Option Refusal
refusal_of [] n = None
refusal_of (r ∷ rs) n = if r.number == n then Some r else refusal_of rs n

-- The words as they were read, or as they stand at the first engine's end where it found no place for an atom after the
-- last item and before it read them.
abbrev pub words_read : Program → SharedState → List Word → List Word
words_read p s [] = map (word_read s.operators s.flags.double_quotes) p.words
words_read p s (w ∷ ws) = w ∷ ws

abbrev pub words_behind : Program → SharedState → List Word → Option ℕ → List Word
words_behind p s ws None = words_read p s ws
words_behind p s ws (Some at) = ws

abbrev pub words_by : Program → Told → Execution → Option (How Tree) → List Word
words_by p told x (Some (AtomSpace found)) = words_behind p (end_state p told 1) x.words (place_of_main p told x)
words_by p told x end = x.words

abbrev pub words_of : Program → Told → Execution → List Word
words_of p told x = words_by p told x (end_in told.history 1)

-- A goal is run by the engine with its number, unless its engine was refused. One that never began has no section.
abbrev pub of_engine : OperatorTable → List (Chars × ℕ) → Option (How Tree) → Option Execution → Option Refusal → Option Chars
of_engine ops names end x (Some r) = Some (refused_text r)
of_engine ops names end None None = None
of_engine ops names end (Some x) None = Some (goal_text ops names x end)

abbrev pub word_section : Program → Told → Finals → List Refusal → ℕ → Word → Option Chars
word_section p told finals rs n (faulty_word kind at) = Some (fault_text kind at)
word_section p told finals rs n (goal_word t names) =
    of_engine (end_operators p told n) names (end_in told.history n) (final_of finals n) (refusal_of rs n)

abbrev pub with_goal_line : Chars → Option Chars → Chars
with_goal_line word None = []
with_goal_line word (Some t) = goal_line word ++ t

abbrev pub goal_sections : Program → Told → Finals → List Refusal → ℕ → List Chars → List Word → Chars
goal_sections p told finals rs n [] words = []
goal_sections p told finals rs n (w ∷ ws) [] = []
goal_sections p told finals rs n (w ∷ ws) (r ∷ words) =
    with_goal_line w (word_section p told finals rs n r) ++ goal_sections p told finals rs (suc n) ws words

-- Threads

abbrev pub thread_name : Beginning → Chars
thread_name b = elim b.alias [ None ↦ decimal b.engine | Some a ↦ a ]

abbrev pub texts : Chars → List Output → Chars
texts t [] = t
texts t (o ∷ os) = elim o [ text u ↦ texts (t ++ u) os | solution ops ts ↦ texts t os ]

-- The last line of a thread, where it waits, halted or found no place for an atom.
abbrev pub thread_line : Option (How Tree) → Option Chars
thread_line None = Some (codes "waiting.")
thread_line (Some (Halted n)) = Some (halted_text n ++ codes ".")
thread_line (Some (AtomSpace found)) = Some no_atoms_line
thread_line (Some how) = None

abbrev pub thread_section : Beginning → Chars → Option Chars → Chars
thread_section b [] None = []
thread_section b (c ∷ cs) None = (codes "% thread " ++ (thread_name b ++ newline)) ++ closed (c ∷ cs)
thread_section b t (Some line) = (codes "% thread " ++ (thread_name b ++ newline)) ++ with_line t line

abbrev pub of_thread : Beginning → Option (How Tree) → Option Execution → Chars
of_thread b end None = []
of_thread b end (Some x) = thread_section b (texts [] (output_of x)) (thread_line end)

abbrev pub thread_sections : Program → Told → Finals → List Beginning → Chars
thread_sections p told finals [] = []
thread_sections p told finals (b ∷ bs) =
    if is_goal_number p b.engine then thread_sections p told finals bs
    else of_thread b (end_in told.history b.engine) (final_of finals b.engine) ++ thread_sections p told finals bs

-- The whole text

-- No goal has a section where the first engine did not come to the goals.
abbrev pub main_sections : Chars → Program → Told → Finals → Execution → Chars
main_sections name p told finals x =
    consult_section name p told x ++ goal_sections p told finals x.refusals 1 p.words (words_of p told x)

abbrev pub of_main : Chars → Program → Told → Finals → Option Execution → Chars
of_main name p told finals None = []
of_main name p told finals (Some x) = main_sections name p told finals x

-- The text for a file of this name, from the states in which the engines stand at the end.
abbrev pub transcript : Chars → Program → Told → Finals → Chars
transcript name p told finals =
    of_main name p told finals (final_of finals 1) ++ thread_sections p told finals (beginnings told.history)

-- The state in which an engine stands that has ended or waits.
abbrev pub stood : {e goals slots : ℕ} → {job : Job} → {low : ℕ} → {h : History} → {gens : List ℕ} → IsDone e goals slots job low h gens → Execution
stood {e} {goals} {slots} {job} {low} {h} {gens} (inl r) = (run e goals job h gens r.steps).execution
stood {e} {goals} {slots} {job} {low} {h} {gens} (inr (inl w)) = (run e goals job h gens w.steps).execution
stood {e} {goals} {slots} {job} {low} {h} {gens} (inr (inr o)) = (run e goals job h gens o.steps).execution

-- These are the states in which the engines stand at the end, and no others.
pub record AreFinal (p : Program) (told : Told) (finals : Finals) : Type 0 where
  pub only : (e : ℕ) (x : Execution) → final_of finals e ≡ Some x → Contains (engine_numbers (beginnings told.history)) e
  pub main :
      (d : IsDone 1 (length p.words) p.slots (main_job p) zero told.history (generations_of told.generations 1))
      × (final_of finals 1 ≡ Some (stood d))
  pub started :
      (b : Beginning)
      → Contains (beginnings told.history) b
      → (d : IsDone b.engine (length p.words) p.slots (started_job p b) b.low told.history (generations_of told.generations b.engine))
      × (final_of finals b.engine ≡ Some (stood d))
