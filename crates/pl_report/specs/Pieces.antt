-- The bytes that are put: of bindings, of last lines and of sections.
use Rattle.std.specs.Prelude.{ℕ, List, [], ◌∷◌, ◌++◌, map, filter, Bool, true, false, not, ◌&&◌, ◌==◌, length, Option, Some, None, codes, decimal, encode_utf8_all, if◌then◌else◌}
use Rattle.pl_term.specs.Tree.{Chars, Tree}
use Rattle.pl_model.specs.OperatorTable.{OperatorTable}
use Rattle.pl_model.specs.TermWriting.{writeq}
use Rattle.run_model.specs.Report.{newline, closed, stopped, halted_text, goal_line, is_shown, binding_text, no_atoms_line}
use Rattle.pl_model.specs.declared.ends.How.{How}
use Rattle.pl_model.specs.declared.ends.How.TheVariants.{Solved, False, Threw, Exited, Halted, AtomSpace}
use Rattle.run_model.specs.declared.ends.GoalHow.{GoalHow}
use Rattle.run_model.specs.declared.ends.GoalHow.TheVariants.{Ended, Waits, Syntax}
use Rattle.pl_report.specs.declared.parts.SectionKind.{SectionKind}
use Rattle.pl_report.specs.declared.parts.SectionKind.TheVariants.{Consult, Goal, Thread}
use Rattle.pl_report.specs.declared.parts.Section.{Section}
use Rattle.pl_report.specs.Sections.{fault_line, thread_head, thread_last}

-- NAME:AT: and a space
abbrev pub place_text : Chars → ℕ → Chars
place_text name at = name ++ (codes ":" ++ (decimal at ++ codes ": "))

-- The bindings that are shown of these variables.
abbrev pub shown_texts : OperatorTable → List Tree → List (Chars × ℕ) → List Chars
shown_texts ops ts ns = map (binding_text ops ts) (filter is_shown ns)

abbrev pub has_any : List Chars → Bool
has_any [] = false
has_any (b ∷ bs) = true

abbrev pub comma_if : Bool → Chars
comma_if some = if some then codes ", " else []

-- A last line with its end, where there is one.
abbrev pub line_text : Option Chars → Chars
line_text None = []
line_text (Some line) = line ++ newline

abbrev pub how_last : OperatorTable → How Tree → Option Chars
how_last ops Solved = None
how_last ops False = Some (codes "false.")
how_last ops (Threw b) = Some (stopped (codes "error: " ++ writeq ops 1200 b))
how_last ops (Exited t) = None
how_last ops (Halted n) = Some (halted_text n ++ codes ".")
how_last ops (AtomSpace found) = Some no_atoms_line

abbrev pub goal_how_last : OperatorTable → GoalHow → Option Chars
goal_how_last ops (Ended how) = how_last ops how
goal_how_last ops (Waits on) = Some (codes "waiting.")
goal_how_last ops (Syntax kind at) = Some (fault_line kind at)

abbrev pub goal_last : Bool → OperatorTable → Option GoalHow → Option Chars
goal_last true ops how = None
goal_last false ops None = None
goal_last false ops (Some how) = goal_how_last ops how

abbrev pub goal_bytes : Chars → Bool → Section → List ℕ
goal_bytes word enough s =
    encode_utf8_all (goal_line word) ++ (closed s.text.now ++ encode_utf8_all (line_text (goal_last enough s.ops.now s.how)))

abbrev pub has_line : Option Chars → Bool
has_line None = false
has_line (Some line) = true

-- Whether a thread wrote nothing and has no last line.
abbrev pub is_silent : List ℕ → Option GoalHow → Bool
is_silent text how = (length text == 0) && not (has_line (thread_last how))

abbrev pub thread_bytes : Chars → Section → List ℕ
thread_bytes name s =
    if is_silent s.text.now s.how then []
    else encode_utf8_all (thread_head name) ++ (closed s.text.now ++ encode_utf8_all (line_text (thread_last s.how)))

abbrev pub bytes_by : SectionKind → Section → List ℕ
bytes_by Consult s = closed s.text.now
bytes_by (Goal word enough) s = goal_bytes word enough s
bytes_by (Thread name) s = thread_bytes name s

abbrev pub section_bytes : Section → List ℕ
section_bytes s = bytes_by s.kind s
