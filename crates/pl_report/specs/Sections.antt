-- The text of a run, from its sections: the lines are those of the report of a run, put together from what was written in
-- each section and how its engine ended.
use Rattle.std.specs.Prelude.{◌≡◌, ℕ, List, [], ◌∷◌, ◌++◌, Bool, true, false, Option, Some, None, codes, decimal, encode_utf8_all}
use Rattle.pl_term.specs.Tree.{Chars, Tree}
use Rattle.pl_model.specs.declared.syntax.SyntaxKind.{SyntaxKind}
use Rattle.pl_model.specs.OperatorTable.{OperatorTable}
use Rattle.pl_model.specs.declared.ends.How.{How}
use Rattle.pl_model.specs.declared.ends.How.TheVariants.{Solved, False, Threw, Exited, Halted, AtomSpace}
use Rattle.run_model.specs.Report.{newline, closed, with_line, kind_text, halted_text, with_end, with_last, goal_line, no_atoms_line}
use Rattle.run_model.specs.declared.ends.GoalHow.{GoalHow}
use Rattle.run_model.specs.declared.ends.GoalHow.TheVariants.{Ended, Waits, Syntax}
use Rattle.pl_report.specs.declared.parts.SectionKind.{SectionKind}
use Rattle.pl_report.specs.declared.parts.SectionKind.TheVariants.{Consult, Goal, Thread}
use Rattle.pl_report.specs.declared.parts.Section.{Section}

-- The last line for a goal word that is no term.
abbrev pub fault_line : SyntaxKind → ℕ → Chars
fault_line kind at = codes "syntax error: " ++ (kind_text kind ++ (codes " at " ++ (decimal at ++ codes ".")))

-- A goal that has given the solutions that were wanted has no last line, nor has one that never began.
abbrev pub with_goal_how : Bool → OperatorTable → Chars → Option GoalHow → Chars
with_goal_how true ops t how = t
with_goal_how false ops t None = t
with_goal_how false ops t (Some (Ended how)) = with_end ops t how
with_goal_how false ops t (Some (Waits on)) = with_last ops t None
with_goal_how false ops t (Some (Syntax kind at)) = with_line t (fault_line kind at)

-- The last line of a thread, where it waits, halted or found no place for an atom.
abbrev pub thread_how_line : How Tree → Option Chars
thread_how_line Solved = None
thread_how_line False = None
thread_how_line (Threw b) = None
thread_how_line (Exited t) = None
thread_how_line (Halted n) = Some (halted_text n ++ codes ".")
thread_how_line (AtomSpace found) = Some no_atoms_line

abbrev pub thread_last : Option GoalHow → Option Chars
thread_last None = None
thread_last (Some (Ended how)) = thread_how_line how
thread_last (Some (Waits on)) = Some (codes "waiting.")
thread_last (Some (Syntax kind at)) = None

abbrev pub thread_head : Chars → Chars
thread_head name = codes "% thread " ++ (name ++ newline)

-- A thread that wrote nothing and has no last line has no section.
abbrev pub thread_text : Chars → Chars → Option Chars → Chars
thread_text name [] None = []
thread_text name (c ∷ cs) None = thread_head name ++ closed (c ∷ cs)
thread_text name t (Some line) = thread_head name ++ with_line t line

abbrev pub section_text : SectionKind → Chars → Option GoalHow → OperatorTable → Chars
section_text Consult t how ops = closed t
section_text (Goal word enough) t how ops = goal_line word ++ closed (with_goal_how enough ops t how)
section_text (Thread name) t how ops = thread_text name t (thread_last how)

-- What was written in the sections is these texts.
abbrev pub AreWritten : List Section → List Chars → Type 0
AreWritten [] [] = Unit {0}
AreWritten (s ∷ ss) (t ∷ ts) = (s.text.now ≡ encode_utf8_all t) × AreWritten ss ts
AreWritten _ _ = ⊥

-- The text of sections in which these texts were written.
abbrev pub transcript_text : List Section → List Chars → Chars
transcript_text [] ts = []
transcript_text (s ∷ ss) [] = []
transcript_text (s ∷ ss) (t ∷ ts) = section_text s.kind t s.how s.ops.now ++ transcript_text ss ts
