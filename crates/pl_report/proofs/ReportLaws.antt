-- The text of a section is the one in the report of a run.
use Rattle.std.proofs.Common.{◌≡◌, ℕ, Bool, true, false, List, [], ◌∷◌, ◌++◌, refl, ◌∙◌, ap, Option, Some, None}
use Rattle.std.specs.Prelude.{codes}
use Rattle.pl_term.specs.Tree.{Chars, Tree}
use Rattle.pl_model.specs.OperatorTable.{OperatorTable}
use Rattle.pl_model.specs.TermWriting.{writeq}
use Rattle.pl_model.specs.declared.syntax.SyntaxKind.{SyntaxKind}
use Rattle.pl_model.specs.declared.ends.How.{How}
use Rattle.pl_model.specs.declared.ends.How.TheVariants.{Solved, False, Threw, Exited, Halted, AtomSpace}
use Rattle.run_model.specs.Execution.{Execution, Refusal}
use Rattle.run_model.specs.Lawful.{Beginning}
use Rattle.run_model.specs.Report.{closed, stopped, with_output, output_of, with_end, with_last, goal_line, goal_text, refused_text, fault_text, texts, thread_name, thread_line, thread_section, of_thread}
use Rattle.run_model.specs.declared.ends.GoalHow.{GoalHow}
use Rattle.run_model.specs.declared.ends.GoalHow.TheVariants.{Ended, Waits, Syntax}
use Rattle.pl_report.specs.declared.parts.SectionKind.TheVariants.{Goal, Thread}
use Rattle.pl_report.specs.Sections.{fault_line, with_goal_how, thread_how_line, thread_last, thread_text, section_text}
use Rattle.pl_report.specs.Reported.{Tells, IsEnough}
use Rattle.pl_report.proofs.LineLemmas.{closed_line}

goal_told : (enough : Bool) (ops : OperatorTable) (t : Chars) (how : Option GoalHow) (end : Option (How Tree))
    → Tells how end → IsEnough enough end → with_goal_how enough ops t how ≡ with_last ops t end
goal_told false ops t None end is ok = absurd is
goal_told false ops t (Some (Ended how)) None is ok = absurd is
goal_told false ops t (Some (Ended how)) (Some end) is ok = ap (with_end ops t) is
goal_told false ops t (Some (Waits on)) None is ok = refl
goal_told false ops t (Some (Waits on)) (Some end) is ok = absurd is
goal_told false ops t (Some (Syntax kind at)) end is ok = absurd is
goal_told true ops t how None is ok = absurd ok
goal_told true ops t how (Some Solved) is ok = refl
goal_told true ops t how (Some False) is ok = absurd ok
goal_told true ops t how (Some (Threw b)) is ok = absurd ok
goal_told true ops t how (Some (Exited u)) is ok = absurd ok
goal_told true ops t how (Some (Halted n)) is ok = absurd ok
goal_told true ops t how (Some (AtomSpace found)) is ok = absurd ok

pub goal_reported : (word : Chars) (enough : Bool) (names : List (Chars × ℕ)) (x : Execution) (how : Option GoalHow) (ops : OperatorTable) (end : Option (How Tree))
    → Tells how end
    → IsEnough enough end
    → section_text (Goal word enough) (with_output names [] (output_of x)) how ops ≡ goal_line word ++ goal_text ops names x end
goal_reported word enough names x how ops end is ok =
    ap (λ t. goal_line word ++ closed t) (goal_told enough ops (with_output names [] (output_of x)) how end is ok)

pub fault_reported : (word : Chars) (kind : SyntaxKind) (at : ℕ) (ops : OperatorTable)
    → section_text (Goal word false) [] (Some (Syntax kind at)) ops ≡ goal_line word ++ fault_text kind at
fault_reported word kind at ops = ap (λ t. goal_line word ++ t) (closed_line [] (fault_line kind at))

pub refusal_reported : (word : Chars) (r : Refusal)
    → section_text (Goal word false) [] (Some (Ended (Threw r.ball))) r.operators ≡ goal_line word ++ refused_text r
refusal_reported word r =
    ap (λ t. goal_line word ++ t) (closed_line [] (stopped (codes "error: " ++ writeq r.operators 1200 r.ball)))

how_line_told : (end : How Tree) → thread_how_line end ≡ thread_line (Some end)
how_line_told Solved = refl
how_line_told False = refl
how_line_told (Threw b) = refl
how_line_told (Exited u) = refl
how_line_told (Halted n) = refl
how_line_told (AtomSpace found) = refl

last_told : (how : Option GoalHow) (end : Option (How Tree)) → Tells how end → thread_last how ≡ thread_line end
last_told None end is = absurd is
last_told (Some (Ended how)) None is = absurd is
last_told (Some (Ended how)) (Some end) is = ap thread_how_line is ∙ how_line_told end
last_told (Some (Waits on)) None is = refl
last_told (Some (Waits on)) (Some end) is = absurd is
last_told (Some (Syntax kind at)) end is = absurd is

text_told : (b : Beginning) (t : Chars) (last : Option Chars) → thread_text (thread_name b) t last ≡ thread_section b t last
text_told b [] None = refl
text_told b (c ∷ cs) None = refl
text_told b [] (Some line) = refl
text_told b (c ∷ cs) (Some line) = refl

pub thread_reported : (b : Beginning) (x : Execution) (how : Option GoalHow) (ops : OperatorTable) (end : Option (How Tree))
    → Tells how end
    → section_text (Thread (thread_name b)) (texts [] (output_of x)) how ops ≡ of_thread b end (Some x)
thread_reported b x how ops end is =
    ap (thread_text (thread_name b) (texts [] (output_of x))) (last_told how end is) ∙ text_told b (texts [] (output_of x)) (thread_line end)
